-- A copy by its parts, and by its operands and what its options are given.
use Rattle.std.proofs.Common.{◌≡◌, ◌≢◌, ℕ, ◌+◌, List, [], ◌∷◌, ◌++◌, map, if◌then◌else◌, Option, Some, None, Bool, true, false, codes, refl, sym, ap, subst, ◌∙◌, inl, inr}
use Rattle.std.specs.Prelude.{option_map}
use Rattle.std.specs.List.{All}
use Rattle.std.specs.Str.{bytes_eq}
use Rattle.std.proofs.lemmas.Bool.{cases_Bool, false_from_ne_true}
use Rattle.std.proofs.lemmas.List.Elements.{All-cons, All-nil, All-head, All-tail}
use Rattle.skopeo_words.specs.CommandOf.{TakesValue, IsForCommand, IsGood, IsFor}
use Rattle.skopeo_words.specs.CopyOf.{IsOption, Spell, AreGiven, none, rest, operand, an_option, IsLastOf, says_yes, common_by, passing_by}
use Rattle.skopeo_words.specs.Fields.{IsFlag, AreCommon, ArePassing, IsCopy}
use Rattle.skopeo_words.specs.Found.{Placed, operands_of, GivesNone, IsAbsent}
use Rattle.skopeo_words.specs.LastOf.{last_of, text_of}
use Rattle.skopeo_words.specs.Line.{IsRowOf, IsLine}
use Rattle.skopeo_words.specs.Made.{choice_of, lanes_of, format_of, common_of, passing_of}
use Rattle.skopeo_words.specs.Parts.{Part, plain, given, lacking, mark, unknown, operands_from}
use Rattle.skopeo_words.specs.Table.{Row, same_option, is_for, kind_of, command_named}
use Rattle.skopeo_words.specs.Values.{without_slashes, is_value}
use Rattle.skopeo_words.specs.declared.command.CommandName.TheVariants.{Copy, Sync, Inspect, ListTags, Delete, MakeImages}
use Rattle.skopeo_words.specs.declared.command.Common.{Common}
use Rattle.skopeo_words.specs.declared.command.Passing.{Passing}
use Rattle.skopeo_words.specs.declared.table.OptionName.{OptionName}
use Rattle.skopeo_words.specs.declared.table.OptionName.TheVariants as option
use Rattle.skopeo_words.proofs.FieldLaw.{on_same, flag_by, common_by as common_made, passing_by as passing_made}
use Rattle.skopeo_words.proofs.FoundLaw.{same_text, same_is, same_self, IsLastOr, found}
use Rattle.skopeo_words.proofs.TableLaw.{kind_is, for_is, takes_kind, any_command, has_for}

-- what the parts give, in order
abbrev pub given_in : List Part → List (OptionName × List ℕ)
given_in [] = []
given_in (plain place word ∷ more) = given_in more
given_in (given place name value ∷ more) = (name, value) ∷ given_in more
given_in (lacking name ∷ more) = given_in more
given_in (mark ∷ more) = given_in more
given_in (unknown place word ∷ more) = given_in more

-- the texts of the operands
abbrev pub texts_in : List Part → List (List ℕ)
texts_in parts = map (λ o. o.text) (operands_of parts)

-- ---- from parts

option_of : (r : Row) (name : OptionName) (value : List ℕ) → IsRowOf r name → TakesValue name value → IsForCommand name Copy → IsOption r value
option_of r name value of takes for =
    let named : is_for r.name Copy ≡ true = subst (λ n. is_for n Copy ≡ true) (sym of.same) (has_for name Copy for) in
    let kind : kind_of name ≡ r.kind = ap kind_of (sym of.same) ∙ kind_is r of.there in
    record {
      there = of.there;
      own = any_command Copy r.commands (sym (for_is r of.there Copy) ∙ named);
      takes = subst (λ k. is_value k value ≡ true) kind (takes_kind name value takes);
    }

texts_behind : (at : ℕ) (words : List (List ℕ)) → texts_in (operands_from at words) ≡ words
texts_behind at [] = refl
texts_behind at (word ∷ more) = ap (λ (ts : List (List ℕ)). word ∷ ts) (texts_behind (at + 1) more)

gives_behind : (at : ℕ) (words : List (List ℕ)) → given_in (operands_from at words) ≡ []
gives_behind at [] = refl
gives_behind at (word ∷ more) = gives_behind (at + 1) more

behind_mark : (at : ℕ) (words : List (List ℕ)) → AreGiven (codes "--" ∷ words) (texts_in (operands_from at words)) (given_in (operands_from at words))
behind_mark at words =
    subst (λ ts. AreGiven (codes "--" ∷ words) ts (given_in (operands_from at words))) (sym (texts_behind at words))
    (subst (λ gs. AreGiven (codes "--" ∷ words) words gs) (sym (gives_behind at words)) (rest words))

pub line_given : (parts : List Part) (at : ℕ) (words : List (List ℕ)) → IsLine parts at words → All IsGood parts → All (IsFor Copy) parts → AreGiven words (texts_in parts) (given_in parts)
line_given [] at words e good own = subst (λ ws. AreGiven ws [] []) (sym e) none
line_given (plain place word ∷ more) at words (left, e, same, plain_word, h) good own =
    subst (λ ws. AreGiven ws (word ∷ texts_in more) (given_in more)) (sym e)
    (operand word left (texts_in more) (given_in more) plain_word
    (line_given more (at + 1) left h (All-tail IsGood (plain place word) more good) (All-tail (IsFor Copy) (plain place word) more own)))
line_given (given place name value ∷ more) at words (word, left, same, inl (e, has, h)) good own =
    let is = option_of has.entry name value has.of_name (All-head IsGood (given place name value) more good) (All-head (IsFor Copy) (given place name value) more own) in
    let behind = line_given more (at + 1) left h (All-tail IsGood (given place name value) more good) (All-tail (IsFor Copy) (given place name value) more own) in
    let whole = an_option has.entry value (word ∷ []) left (texts_in more) (given_in more) is has.has behind in
    subst (λ ws. AreGiven ws (texts_in more) ((name, value) ∷ given_in more)) (sym e)
    (subst (λ n. AreGiven (word ∷ left) (texts_in more) ((n, value) ∷ given_in more)) has.of_name.same whole)
line_given (given place name value ∷ more) at words (word, left, same, inr (e, takes, h)) good own =
    let is = option_of takes.entry name value takes.of_name (All-head IsGood (given place name value) more good) (All-head (IsFor Copy) (given place name value) more own) in
    let behind = line_given more (at + 1 + 1) left h (All-tail IsGood (given place name value) more good) (All-tail (IsFor Copy) (given place name value) more own) in
    let whole = an_option takes.entry value (word ∷ value ∷ []) left (texts_in more) (given_in more) is (takes.bare, takes.no_truth, refl) behind in
    subst (λ ws. AreGiven ws (texts_in more) ((name, value) ∷ given_in more)) (sym e)
    (subst (λ n. AreGiven (word ∷ value ∷ left) (texts_in more) ((n, value) ∷ given_in more)) takes.of_name.same whole)
line_given (lacking name ∷ more) at words h good own = absurd (All-head IsGood (lacking name) more good)
line_given (mark ∷ more) at words (word, left, e, is, same) good own =
    subst (λ ws. AreGiven ws (texts_in more) (given_in more)) (sym (e ∙ ap (λ (w : List ℕ). w ∷ left) is))
    (subst (λ ps. AreGiven (codes "--" ∷ left) (texts_in ps) (given_in ps)) (sym same) (behind_mark (at + 1) left))
line_given (unknown place word ∷ more) at words h good own = absurd (All-head IsGood (unknown place word) more good)

-- ---- to parts

-- parts of words for a copy, with these operands and what options are given
pub record IsRead (at : ℕ) (words operands : List (List ℕ)) (gave : List (OptionName × List ℕ)) : Type 0 where
  pub parts : List Part
  pub line : IsLine parts at words
  pub good : All IsGood parts
  pub own : All (IsFor Copy) parts
  pub texts : texts_in parts ≡ operands
  pub gives : given_in parts ≡ gave

good_behind : (at : ℕ) (words : List (List ℕ)) → All IsGood (operands_from at words)
good_behind at [] = All-nil IsGood
good_behind at (word ∷ more) = All-cons IsGood (plain at word) (operands_from (at + 1) more) tt (good_behind (at + 1) more)

own_behind : (at : ℕ) (words : List (List ℕ)) → All (IsFor Copy) (operands_from at words)
own_behind at [] = All-nil (IsFor Copy)
own_behind at (word ∷ more) = All-cons (IsFor Copy) (plain at word) (operands_from (at + 1) more) tt (own_behind (at + 1) more)

of_row : (r : Row) (value : List ℕ) → IsOption r value → IsRowOf r r.name
of_row r value is = record { there = is.there; same = refl }

takes_of : (r : Row) (value : List ℕ) → IsOption r value → TakesValue r.name value
takes_of r value is = record { entry = r; of_name = of_row r value is; takes = is.takes }

for_copy : (r : Row) (value : List ℕ) → IsOption r value → IsForCommand r.name Copy
for_copy r value is = record { entry = r; of_name = of_row r value is; has = is.own }

-- the part of an option, in front of the parts behind it
in_front : (at next : ℕ) (r : Row) (value : List ℕ) (words left operands : List (List ℕ)) (gave : List (OptionName × List ℕ)) (behind : IsRead next left operands gave)
    → IsOption r value → IsLine (given at r.name value ∷ behind.parts) at words → IsRead at words operands ((r.name, value) ∷ gave)
in_front at next r value words left operands gave behind is line = record {
  parts = given at r.name value ∷ behind.parts;
  line = line;
  good = All-cons IsGood (given at r.name value) behind.parts (takes_of r value is) behind.good;
  own = All-cons (IsFor Copy) (given at r.name value) behind.parts (for_copy r value is) behind.own;
  texts = behind.texts;
  gives = ap (λ (gs : List (OptionName × List ℕ)). (r.name, value) ∷ gs) behind.gives;
}

spelled : (front : List (List ℕ)) (at : ℕ) (r : Row) (value : List ℕ) (left operands : List (List ℕ)) (gave : List (OptionName × List ℕ))
    → IsOption r value → Spell front r value → IsRead (at + 1) left operands gave → IsRead (at + 1 + 1) left operands gave → IsRead at (front ++ left) operands ((r.name, value) ∷ gave)
spelled [] at r value left operands gave is s one two = absurd s
spelled (word ∷ []) at r value left operands gave is s one two =
    in_front at (at + 1) r value (word ∷ left) left operands gave one is
    (word, left, refl, inl (refl, record { entry = r; of_name = of_row r value is; has = s }, one.line))
spelled (word ∷ next ∷ []) at r value left operands gave is (bare, no_truth, same) one two =
    in_front at (at + 1 + 1) r value (word ∷ next ∷ left) left operands gave two is
    (word, left, refl, inr (ap (λ (w : List ℕ). word ∷ w ∷ left) same, record { entry = r; of_name = of_row r value is; bare = bare; no_truth = no_truth }, two.line))
spelled (word ∷ next ∷ other ∷ more) at r value left operands gave is s one two = absurd s

pub given_line : (words operands : List (List ℕ)) (gave : List (OptionName × List ℕ)) → AreGiven words operands gave → (at : ℕ) → IsRead at words operands gave
given_line _ _ _ none at =
    record { parts = []; line = refl; good = All-nil IsGood; own = All-nil (IsFor Copy); texts = refl; gives = refl }
given_line _ _ _ (rest operands) at = record {
  parts = mark ∷ operands_from (at + 1) operands;
  line = (codes "--", operands, refl, refl, refl);
  good = All-cons IsGood mark (operands_from (at + 1) operands) tt (good_behind (at + 1) operands);
  own = All-cons (IsFor Copy) mark (operands_from (at + 1) operands) tt (own_behind (at + 1) operands);
  texts = texts_behind (at + 1) operands;
  gives = gives_behind (at + 1) operands;
}
given_line _ _ _ (operand word words operands gave plain_word h) at =
    let behind = given_line words operands gave h (at + 1) in
    record {
      parts = plain at word ∷ behind.parts;
      line = (words, refl, refl, plain_word, behind.line);
      good = All-cons IsGood (plain at word) behind.parts tt behind.good;
      own = All-cons (IsFor Copy) (plain at word) behind.parts tt behind.own;
      texts = ap (λ (ts : List (List ℕ)). word ∷ ts) behind.texts;
      gives = behind.gives;
    }
given_line _ _ _ (an_option r value front words operands gave is s h) at =
    spelled front at r value words operands gave is s (given_line words operands gave h (at + 1)) (given_line words operands gave h (at + 1 + 1))

-- ---- the last value

absent_in : (name : OptionName) (parts : List Part) → IsAbsent name parts → All (λ g. g.0 ≢ name) (given_in parts)
absent_in name [] h = All-nil (λ (g : OptionName × List ℕ). g.0 ≢ name)
absent_in name (plain place word ∷ more) h = absent_in name more (All-tail (GivesNone name) (plain place word) more h)
absent_in name (given place other value ∷ more) h =
    All-cons (λ (g : OptionName × List ℕ). g.0 ≢ name) (other, value) (given_in more) (All-head (GivesNone name) (given place other value) more h)
    (absent_in name more (All-tail (GivesNone name) (given place other value) more h))
absent_in name (lacking other ∷ more) h = absent_in name more (All-tail (GivesNone name) (lacking other) more h)
absent_in name (mark ∷ more) h = absent_in name more (All-tail (GivesNone name) mark more h)
absent_in name (unknown place word ∷ more) h = absent_in name more (All-tail (GivesNone name) (unknown place word) more h)

given_in-append : (before : List Part) (at : ℕ) (name : OptionName) (value : List ℕ) (after : List Part) → given_in (before ++ (given at name value ∷ after)) ≡ given_in before ++ ((name, value) ∷ given_in after)
given_in-append [] at name value after = refl
given_in-append (plain place word ∷ before) at name value after = given_in-append before at name value after
given_in-append (given place other text ∷ before) at name value after =
    ap (λ (gs : List (OptionName × List ℕ)). (other, text) ∷ gs) (given_in-append before at name value after)
given_in-append (lacking other ∷ before) at name value after = given_in-append before at name value after
given_in-append (mark ∷ before) at name value after = given_in-append before at name value after
given_in-append (unknown place word ∷ before) at name value after = given_in-append before at name value after

last_by : (name : OptionName) (parts : List Part) (o : Option Placed) → IsLastOr name parts o → IsLastOf (given_in parts) name (option_map (λ p. p.text) o)
last_by name parts None h = absent_in name parts h
last_by name parts (Some value) h =
    (given_in h.before, given_in h.after, ap given_in h.joined ∙ given_in-append h.before value.at name value.text h.after, absent_in name h.after h.none_behind)

pub last_given : (name : OptionName) (parts : List Part) → IsLastOf (given_in parts) name (text_of name parts)
last_given name parts = last_by name parts (last_of name parts) (found name parts)

-- the last value, computed
or_text : Option (List ℕ) → Option (List ℕ) → Option (List ℕ)
or_text None other = other
or_text (Some text) other = Some text

value_in : OptionName → List (OptionName × List ℕ) → Option (List ℕ)
value_in name [] = None
value_in name (g ∷ more) = or_text (value_in name more) (if same_option name g.0 then Some g.1 else None)

no_value : (name : OptionName) (gave : List (OptionName × List ℕ)) → All (λ g. g.0 ≢ name) gave → value_in name gave ≡ None
unfolding value_in or_text
no_value name [] h = refl
no_value name (g ∷ more) h =
    rw (
      no_value name more (All-tail (λ (x : OptionName × List ℕ). x.0 ≢ name) g more h),
      false_from_ne_true (same_option name g.0) (λ same. All-head (λ (x : OptionName × List ℕ). x.0 ≢ name) g more h (same_is name g.0 same)),
    ) refl

some_value : (name : OptionName) (before after : List (OptionName × List ℕ)) (value : List ℕ) → All (λ g. g.0 ≢ name) after → value_in name (before ++ ((name, value) ∷ after)) ≡ Some value
unfolding value_in or_text
some_value name [] after value h = rw (no_value name after h, same_self name) refl
some_value name (g ∷ before) after value h = rw (some_value name before after value h) refl

is_value_in : (name : OptionName) (gave : List (OptionName × List ℕ)) (o : Option (List ℕ)) → IsLastOf gave name o → value_in name gave ≡ o
is_value_in name gave None h = no_value name gave h
is_value_in name gave (Some value) (before, after, joined, h) = ap (value_in name) joined ∙ some_value name before after value h

-- an option has one last value
pub one_last : (name : OptionName) (parts : List Part) (gave : List (OptionName × List ℕ)) (o : Option (List ℕ)) → given_in parts ≡ gave → IsLastOf gave name o → o ≡ text_of name parts
one_last name parts gave o same h =
    sym (is_value_in name gave o h) ∙ ap (value_in name) (sym same) ∙ is_value_in name (given_in parts) (text_of name parts) (last_given name parts)

-- ---- the operands

pub record AreOperands (operands : List Placed) (source dest : List ℕ) : Type 0 where
  pub first : Placed
  pub places : List Placed
  pub joined : operands ≡ first ∷ places
  pub named : command_named first.text ≡ Some Copy
  pub texts : map (λ o. o.text) places ≡ source ∷ dest ∷ []

pub operands_are : (operands : List Placed) (source dest : List ℕ) → map (λ o. o.text) operands ≡ codes "copy" ∷ source ∷ dest ∷ [] → AreOperands operands source dest
operands_are [] source dest h = absurd (cc h)
operands_are (first ∷ places) source dest h =
    let text : first.text ≡ codes "copy" = cc h in
    record { first = first; places = places; joined = refl; named = ap command_named text; texts = cc h }

later_named : (b c d e f : Bool) → (if b then Some Sync else if c then Some Inspect else if d then Some ListTags else if e then Some Delete else if f then Some MakeImages else None) ≡ Some Copy → ⊥
later_named true c d e f h = cc h
later_named false true d e f h = cc h
later_named false false true e f h = cc h
later_named false false false true f h = cc h
later_named false false false false true h = cc h
later_named false false false false false h = cc h

named_copy : (text : List ℕ) → command_named text ≡ Some Copy → text ≡ codes "copy"
named_copy text h =
    elim (cases_Bool (bytes_eq text (codes "copy"))) [
      | inl same ↦ same_text text (codes "copy") same
      | inr other ↦
          absurd (later_named (bytes_eq text (codes "sync")) (bytes_eq text (codes "inspect")) (bytes_eq text (codes "list-tags")) (bytes_eq text (codes "delete")) (bytes_eq text (codes "make-images")) (rw other at h))
    ]

pub texts_copy : (parts : List Part) (first : Placed) (places : List Placed) (source dest : List ℕ) → operands_of parts ≡ first ∷ places → command_named first.text ≡ Some Copy → map (λ o. o.text) places ≡ source ∷ dest ∷ [] → texts_in parts ≡ codes "copy" ∷ source ∷ dest ∷ []
texts_copy parts first places source dest are named texts =
    let copy = named_copy first.text named in
    ap (λ (os : List Placed). map (λ o. o.text) os) are ∙ (λ i. copy i ∷ texts i)

-- ---- the fields

pub common_values : (parts : List Part) → common_of parts ≡ common_by (λ name. text_of name parts)
common_values parts = λ i. record {
  policy = text_of option.Policy parts;
  registries_conf = text_of option.RegistriesConf parts;
  location_cache = text_of option.LocationCache parts;
  insecure_policy = on_same (last_of option.InsecurePolicy parts) i;
  os = text_of option.OverrideOs parts;
  arch = text_of option.OverrideArch parts;
  variant = text_of option.OverrideVariant parts;
  lanes = lanes_of parts;
}

pub passing_values : (parts : List Part) → passing_of parts ≡ passing_by (λ name. text_of name parts)
passing_values parts = λ i. record {
  all = on_same (last_of option.All parts) i;
  preserve = on_same (last_of option.PreserveDigests parts) i;
  remove_signatures = on_same (last_of option.RemoveSignatures parts) i;
  format = format_of parts;
  src_tls = choice_of option.SrcTlsVerify parts;
  dest_tls = choice_of option.DestTlsVerify parts;
  lookaside = option_map without_slashes (text_of option.Lookaside parts);
  verifier = text_of option.Verifier parts;
}

-- the fields by the parts, where they are those by the last values
pub copy_fields : (parts : List Part) (operands : List Placed) (value : OptionName → Option (List ℕ)) (common : Common) (passing : Passing) (quiet short_names : Bool) (source dest : List ℕ)
    → All IsGood parts → ((name : OptionName) → value name ≡ text_of name parts) → common ≡ common_by value → passing ≡ passing_by value → quiet ≡ says_yes (value option.Quiet) → short_names ≡ says_yes (value option.ShortNames)
    → map (λ o. o.text) operands ≡ source ∷ dest ∷ [] → IsCopy parts operands common passing quiet short_names source dest
unfolding kind_of
copy_fields parts operands value common passing quiet short_names source dest good are is_common is_passing is_quiet is_short texts =
    let values : value ≡ (λ name. text_of name parts) = λ i name. are name i in
    record {
      is_common = subst (AreCommon parts) (common_values parts ∙ sym (is_common ∙ ap common_by values)) (common_made parts good);
      is_passing = subst (ArePassing parts) (passing_values parts ∙ sym (is_passing ∙ ap passing_by values)) (passing_made parts good);
      is_quiet = subst (IsFlag option.Quiet parts) (on_same (last_of option.Quiet parts) ∙ sym (is_quiet ∙ ap says_yes (are option.Quiet))) (flag_by option.Quiet parts refl good);
      is_short = subst (IsFlag option.ShortNames parts) (on_same (last_of option.ShortNames parts) ∙ sym (is_short ∙ ap says_yes (are option.ShortNames))) (flag_by option.ShortNames parts refl good);
      texts = texts;
    }
