-- What words ask for, and their first fault: the reading and the relations agree.
use Rattle.std.proofs.Common.{◌≡◌, ℕ, ◌+◌, ◌⊎◌, ◌↔◌, List, [], ◌∷◌, length, ◌||◌, Bool, codes, Option, Some, None, Ok, Err, refl, sym, ap, subst, ◌∙◌, inl, inr}
use Rattle.std.specs.List.{All}
use Rattle.std.specs.Str.{bytes_eq}
use Rattle.std.proofs.lemmas.Bool.{cases_Bool}
use Rattle.skopeo_words.specs.Asked.{asks, AsksFor}
use Rattle.skopeo_words.specs.CommandOf.{IsGood, IsNamed, AreInOrder, IsCommand, CommandOf}
use Rattle.skopeo_words.specs.CopyOf.{AreGiven, CopyOf}
use Rattle.skopeo_words.specs.Faults.{bad_part, other_option, operand_fault, missing_option}
use Rattle.skopeo_words.specs.Fields.{HasFields, FitsPlace, Fits}
use Rattle.skopeo_words.specs.Pairs.{pair_fault}
use Rattle.skopeo_words.specs.FirstFault.{LacksName, IsCommandFault, HasFault, IsTableFault, FirstFaultOf}
use Rattle.skopeo_words.specs.Found.{Placed, operands_of}
use Rattle.skopeo_words.specs.LastOf.{last_of, text_of}
use Rattle.skopeo_words.specs.Made.{made}
use Rattle.skopeo_words.specs.Parts.{Part}
use Rattle.skopeo_words.specs.Reading.{asked, unless_fault, with_name, with_operands, by_table, or_table, command_fault, command_in, command_of}
use Rattle.skopeo_words.specs.Scan.{parts_of}
use Rattle.skopeo_words.specs.Table.{command_named}
use Rattle.skopeo_words.specs.declared.command.Command.{Command}
use Rattle.skopeo_words.specs.declared.command.Command.TheVariants as command
use Rattle.skopeo_words.specs.declared.command.CommandName.{CommandName}
use Rattle.skopeo_words.specs.declared.command.CommandName.TheVariants.{Copy, Sync, Inspect, ListTags, Delete, MakeImages}
use Rattle.skopeo_words.specs.declared.command.Common.{Common}
use Rattle.skopeo_words.specs.declared.command.Passing.{Passing}
use Rattle.skopeo_words.specs.declared.fault.WordsFault.{WordsFault}
use Rattle.skopeo_words.specs.declared.fault.WordsFault.TheVariants.{At}
use Rattle.skopeo_words.specs.declared.fault.WordsKind.TheVariants.{MissingOperand, UnknownCommand}
use Rattle.skopeo_words.specs.declared.table.OptionName.{OptionName}
use Rattle.skopeo_words.specs.declared.table.OptionName.TheVariants as option
use Rattle.skopeo_words.proofs.AskedLaw.{asked_for, for_asked, asked_not, not_asked, good_not}
use Rattle.skopeo_words.proofs.ClassLaw.{or_none, or_some, all_good, good_all, first_bad, bad_first, all_own, own_all, first_other, other_first, count_from, count_to, count_bad, bad_count, ends_from, ends_to, ends_bad, bad_ends}
use Rattle.skopeo_words.proofs.CopyLaw.{given_in, line_given, given_line, last_given, one_last, operands_are, texts_copy, common_values, passing_values, copy_fields}
use Rattle.skopeo_words.proofs.FieldLaw.{on_same, flag_is, common_is, passing_is, fields_by, fields_made, fields_count, fields_ends}
use Rattle.skopeo_words.proofs.FitLaw.{fits_by, pair_none}
use Rattle.skopeo_words.proofs.PairLaw.{pair_row, row_pair}
use Rattle.skopeo_words.proofs.LineLaw.{line_is, line_once}

-- ---- a command that is in order

ok_made : (fault : Option WordsFault) (m c : Command) → unless_fault fault m ≡ Ok c → (fault ≡ None) × (m ≡ c)
ok_made None m c h = (refl, cc h)
ok_made (Some e) m c h = cc h

made_is : (past : ℕ) (parts : List Part) (name : CommandName) (operands : List Placed) → IsNamed parts name operands → All IsGood parts → command_fault past name parts operands ≡ None → IsCommand parts (made name parts operands)
made_is past parts name operands named good h =
    let a = or_none (other_option name parts) _ h in
    let b = or_none (operand_fault past name operands) _ a.1 in
    let d = or_none (missing_option past name parts) (pair_fault name parts operands) b.1 in
    let count = count_from past name operands b.0 in
    record {
      name = name;
      operands = operands;
      in_order = record { is_named = named; good = good; own = all_own name parts a.0 };
      fields = fields_by name parts operands good count (ends_from past name parts d.0) d.1;
      fits = fits_by name parts operands count d.1;
    }

ok_named : (past : ℕ) (parts : List Part) (first : Placed) (operands : List Placed) (named : Option CommandName) (c : Command) → command_named first.text ≡ named → operands_of parts ≡ first ∷ operands → All IsGood parts → with_name past parts first operands named ≡ Ok c → IsCommand parts c
ok_named past parts first operands None c e are good h = cc h
ok_named past parts first operands (Some name) c e are good h =
    let s = ok_made (command_fault past name parts operands) (made name parts operands) c h in
    subst (IsCommand parts) s.1 (made_is past parts name operands (record { first = first; are_operands = are; named = e }) good s.0)

ok_operands : (past : ℕ) (parts : List Part) (operands : List Placed) (c : Command) → operands_of parts ≡ operands → All IsGood parts → with_operands past parts operands ≡ Ok c → IsCommand parts c
ok_operands past parts [] c are good h = cc h
ok_operands past parts (first ∷ operands) c are good h =
    ok_named past parts first operands (command_named first.text) c refl are good h

ok_table : (past : ℕ) (parts : List Part) (fault : Option WordsFault) (c : Command) → bad_part past parts ≡ fault → by_table past parts fault ≡ Ok c → IsCommand parts c
ok_table past parts (Some e) c k h = cc h
ok_table past parts None c k h = ok_operands past parts (operands_of parts) c refl (all_good past parts k) h

ok_gives : (past : ℕ) (parts : List Part) (ask : Option Command) (c : Command) → asked parts ≡ ask → or_table past parts ask ≡ Ok c → AsksFor parts c ⊎ IsCommand parts c
ok_gives past parts (Some d) c k h = inl (asked_for parts c (k ∙ ap Some (let same : d ≡ c = cc h in same)))
ok_gives past parts None c k h = inr (ok_table past parts (bad_part past parts) c refl h)

pub read_command : (words : List (List ℕ)) (c : Command) → command_of words ≡ Ok c → CommandOf words c
unfolding command_in
read_command words c h = record {
  parts = parts_of words;
  are_parts = line_is words;
  gives = ok_gives (length words + 1) (parts_of words) (asked (parts_of words)) c refl h;
}

table_is : (past : ℕ) (parts : List Part) (c : Command) → IsCommand parts c → by_table past parts (bad_part past parts) ≡ Ok c
table_is past parts c i =
    let same : c ≡ made i.name parts i.operands = fields_made i.name parts i.operands c i.fields in
    let fits = pair_none i.name parts i.operands c i.fields (subst Fits same i.fits) in
    let count = count_to past i.name i.operands (fields_count i.name parts i.operands c i.fields) in
    let ends = ends_to past i.name parts (fields_ends i.name parts i.operands c i.fields) in
    let o = i.in_order in
    rw (good_all past parts o.good, o.is_named.are_operands, o.is_named.named, own_all i.name parts o.own, count, ends, fits) (ap Ok (sym same))

gives_is : (past : ℕ) (parts : List Part) (c : Command) → AsksFor parts c ⊎ IsCommand parts c → command_in past parts ≡ Ok c
unfolding command_in
gives_is past parts c (inl a) = rw (for_asked parts c a) refl
gives_is past parts c (inr i) = rw (not_asked parts (λ d a. good_not parts d i.in_order.good a)) (table_is past parts c i)

pub command_read : (words : List (List ℕ)) (c : Command) → CommandOf words c → command_of words ≡ Ok c
command_read words c i =
    ap (command_in (length words + 1)) (line_once i.parts words i.are_parts) ∙ gives_is (length words + 1) i.parts c i.gives

-- words ask for one thing at most
pub one_command : (words : List (List ℕ)) (c d : Command) → CommandOf words c → CommandOf words d → c ≡ d
one_command words c d first second =
    let same : Ok c ≡ Ok d = sym (command_read words c first) ∙ command_read words d second in cc same

-- ---- a copy

asks_no_copy : (name : Option CommandName) (word : List ℕ) (common : Common) (passing : Passing) (quiet short_names : Bool) (source dest : List ℕ) → asks name word ≡ Some (command.Copy common passing quiet short_names source dest) → ⊥
asks_no_copy name word common passing quiet short_names source dest h =
    elim (cases_Bool (bytes_eq word (codes "--help") || bytes_eq word (codes "-h"))) [
      | inl help ↦ (let e : Some (command.Help name) ≡ Some (command.Copy common passing quiet short_names source dest) = rw help at h in cc e)
      | inr other ↦
          elim (cases_Bool (bytes_eq word (codes "--version") || bytes_eq word (codes "-v"))) [
            | inl version ↦ (let e : Some command.Version ≡ Some (command.Copy common passing quiet short_names source dest) = rw (other, version) at h in cc e)
            | inr none ↦ (let e : None ≡ Some (command.Copy common passing quiet short_names source dest) = rw (other, none) at h in cc e)
          ]
    ]

-- words that ask for a copy are a command of that name
pub copy_of : (words : List (List ℕ)) (common : Common) (passing : Passing) (quiet short_names : Bool) (source dest : List ℕ) → CommandOf words (command.Copy common passing quiet short_names source dest) → CopyOf words common passing quiet short_names source dest
copy_of words common passing quiet short_names source dest h = by h.gives
  where
    by_name : (name : CommandName) (operands : List Placed) → AreInOrder h.parts name operands → HasFields name h.parts operands (command.Copy common passing quiet short_names source dest) → FitsPlace passing dest → CopyOf words common passing quiet short_names source dest
    by_name Copy operands order fields fits = record {
      given = given_in h.parts;
      are_given = subst (λ ts. AreGiven words ts (given_in h.parts))
          (texts_copy h.parts order.is_named.first operands source dest order.is_named.are_operands order.is_named.named fields.texts)
          (line_given h.parts 1 words h.are_parts order.good order.own);
      value = λ name. text_of name h.parts;
      last = λ name. last_given name h.parts;
      is_common = common_is h.parts common fields.is_common ∙ common_values h.parts;
      is_passing = passing_is h.parts passing fields.is_passing ∙ passing_values h.parts;
      is_quiet = sym (flag_is option.Quiet h.parts quiet fields.is_quiet) ∙ on_same (last_of option.Quiet h.parts);
      is_short = sym (flag_is option.ShortNames h.parts short_names fields.is_short) ∙ on_same (last_of option.ShortNames h.parts);
      fits = fits;
    }
    by_name Sync operands order fields fits = absurd fields
    by_name Inspect operands order fields fits = absurd fields
    by_name ListTags operands order fields fits = absurd fields
    by_name Delete operands order fields fits = absurd fields
    by_name MakeImages operands order fields fits = absurd fields

    by : AsksFor h.parts (command.Copy common passing quiet short_names source dest) ⊎ IsCommand h.parts (command.Copy common passing quiet short_names source dest) → CopyOf words common passing quiet short_names source dest
    by (inl (inl a)) = absurd (asks_no_copy None a.word common passing quiet short_names source dest a.asked)
    by (inl (inr b)) = absurd (asks_no_copy (Some b.name) b.word common passing quiet short_names source dest b.asked)
    by (inr i) = by_name i.name i.operands i.in_order i.fields i.fits

pub of_copy : (words : List (List ℕ)) (common : Common) (passing : Passing) (quiet short_names : Bool) (source dest : List ℕ) → CopyOf words common passing quiet short_names source dest → CommandOf words (command.Copy common passing quiet short_names source dest)
of_copy words common passing quiet short_names source dest h =
    let r = given_line words (codes "copy" ∷ source ∷ dest ∷ []) h.given h.are_given 1 in
    let o = operands_are (operands_of r.parts) source dest r.texts in
    let are : (name : OptionName) → h.value name ≡ text_of name r.parts = λ name. one_last name r.parts h.given (h.value name) r.gives (h.last name) in
    record {
      parts = r.parts;
      are_parts = r.line;
      gives = inr (record {
        name = Copy;
        operands = o.places;
        in_order = record { is_named = record { first = o.first; are_operands = o.joined; named = o.named }; good = r.good; own = r.own };
        fields = copy_fields r.parts o.places h.value common passing quiet short_names source dest r.good are h.is_common h.is_passing h.is_quiet h.is_short o.texts;
        fits = h.fits;
      });
    }

-- ---- the first fault

err_command : (past : ℕ) (name : CommandName) (parts : List Part) (operands : List Placed) (e : WordsFault) → All IsGood parts → command_fault past name parts operands ≡ Some e → IsCommandFault past name parts operands e
err_command past name parts operands e good h =
    elim (or_some (other_option name parts) _ e h) [
      | inl a ↦ inl (first_other name parts e a)
      | inr (a, h) ↦ inr (
        all_own name parts a,
        elim (or_some (operand_fault past name operands) _ e h) [
          | inl b ↦ inl (count_bad past name operands e b)
          | inr (b, h) ↦ inr (
            count_from past name operands b,
            elim (or_some (missing_option past name parts) _ e h) [
              | inl d ↦ inl (ends_bad past name parts e d)
              | inr (d, h) ↦ inr (ends_from past name parts d, pair_row name parts operands e good h)
            ],
          )
        ],
      )
    ]

command_err : (past : ℕ) (name : CommandName) (parts : List Part) (operands : List Placed) (e : WordsFault) → IsCommandFault past name parts operands e → command_fault past name parts operands ≡ Some e
command_err past name parts operands e (inl f) = rw (other_first name parts e f) refl
command_err past name parts operands e (inr (own, inl f)) = rw (own_all name parts own, bad_count past name operands e f) refl
command_err past name parts operands e (inr (own, inr (count, inl f))) =
    rw (own_all name parts own, count_to past name operands count, bad_ends past name parts e f) refl
command_err past name parts operands e (inr (own, inr (count, inr (ends, f)))) =
    rw (own_all name parts own, count_to past name operands count, ends_to past name parts ends, row_pair name parts operands e f) refl

err_made : (fault : Option WordsFault) (m : Command) (e : WordsFault) → unless_fault fault m ≡ Err e → fault ≡ Some e
err_made None m e h = cc h
err_made (Some f) m e h = ap Some (let same : f ≡ e = cc h in same)

err_named : (past : ℕ) (parts : List Part) (first : Placed) (operands : List Placed) (named : Option CommandName) (e : WordsFault) → command_named first.text ≡ named → operands_of parts ≡ first ∷ operands → All IsGood parts → with_name past parts first operands named ≡ Err e → LacksName past (operands_of parts) e ⊎ HasFault past parts e
err_named past parts first operands None e k are good h =
    inl (rw are (k, let same : At first.at UnknownCommand ≡ e = cc h in sym same))
err_named past parts first operands (Some name) e k are good h =
    inr (name, operands, record { first = first; are_operands = are; named = k }, err_command past name parts operands e good (err_made _ _ e h))

err_operands : (past : ℕ) (parts : List Part) (operands : List Placed) (e : WordsFault) → operands_of parts ≡ operands → All IsGood parts → with_operands past parts operands ≡ Err e → LacksName past (operands_of parts) e ⊎ HasFault past parts e
err_operands past parts [] e are good h = inl (rw are (let same : At past MissingOperand ≡ e = cc h in sym same))
err_operands past parts (first ∷ operands) e are good h = err_named past parts first operands (command_named first.text) e refl are good h

err_table : (past : ℕ) (parts : List Part) (fault : Option WordsFault) (e : WordsFault) → bad_part past parts ≡ fault → by_table past parts fault ≡ Err e → IsTableFault past parts e
err_table past parts (Some f) e k h = inl (first_bad past parts e (k ∙ ap Some (let same : f ≡ e = cc h in same)))
err_table past parts None e k h =
    let good = all_good past parts k in
    inr (good, err_operands past parts (operands_of parts) e refl good h)

record NotAsked (past : ℕ) (parts : List Part) (e : WordsFault) : Type 0 where
  not_asked : (c : Command) → AsksFor parts c → ⊥
  is_fault : IsTableFault past parts e

err_asked : (past : ℕ) (parts : List Part) (ask : Option Command) (e : WordsFault) → asked parts ≡ ask → or_table past parts ask ≡ Err e → NotAsked past parts e
err_asked past parts (Some d) e k h = cc h
err_asked past parts None e k h = record { not_asked = asked_not parts k; is_fault = err_table past parts (bad_part past parts) e refl h }

pub fault_first : (words : List (List ℕ)) (e : WordsFault) → command_of words ≡ Err e → FirstFaultOf words e
unfolding command_in
fault_first words e h =
    let f = err_asked (length words + 1) (parts_of words) (asked (parts_of words)) e refl h in
    record { parts = parts_of words; are_parts = line_is words; not_asked = f.not_asked; is_fault = f.is_fault }

lacking_is : (past : ℕ) (parts : List Part) (operands : List Placed) (e : WordsFault) → LacksName past operands e → with_operands past parts operands ≡ Err e
lacking_is past parts [] e h = rw h refl
lacking_is past parts (first ∷ operands) e (k, h) = rw (k, h) refl

table_err : (past : ℕ) (parts : List Part) (e : WordsFault) → IsTableFault past parts e → by_table past parts (bad_part past parts) ≡ Err e
table_err past parts e (inl f) = rw (bad_first past parts e f) refl
table_err past parts e (inr (good, inl lacks)) =
    rw (good_all past parts good) (lacking_is past parts (operands_of parts) e lacks)
table_err past parts e (inr (good, inr (name, operands, named, f))) =
    rw (good_all past parts good, named.are_operands, named.named, command_err past name parts operands e f) refl

asked_err : (past : ℕ) (parts : List Part) (e : WordsFault) → asked parts ≡ None → IsTableFault past parts e → command_in past parts ≡ Err e
unfolding command_in
asked_err past parts e k f = rw k (table_err past parts e f)

pub first_fault_read : (words : List (List ℕ)) (e : WordsFault) → FirstFaultOf words e → command_of words ≡ Err e
first_fault_read words e f =
    ap (command_in (length words + 1)) (line_once f.parts words f.are_parts) ∙ asked_err (length words + 1) f.parts e (not_asked f.parts f.not_asked) f.is_fault

-- ---- both ways

pub commands : (words : List (List ℕ)) (c : Command) → (command_of words ≡ Ok c) ↔ CommandOf words c
commands words c = (read_command words c, command_read words c)

pub faults : (words : List (List ℕ)) (e : WordsFault) → (command_of words ≡ Err e) ↔ FirstFaultOf words e
faults words e = (fault_first words e, first_fault_read words e)

pub copies : (words : List (List ℕ)) (common : Common) (passing : Passing) (quiet short_names : Bool) (source dest : List ℕ) → (command_of words ≡ Ok (command.Copy common passing quiet short_names source dest)) ↔ CopyOf words common passing quiet short_names source dest
copies words common passing quiet short_names source dest = (
  λ is. copy_of words common passing quiet short_names source dest (read_command words (command.Copy common passing quiet short_names source dest) is),
  λ asks. command_read words (command.Copy common passing quiet short_names source dest) (of_copy words common passing quiet short_names source dest asks),
)
