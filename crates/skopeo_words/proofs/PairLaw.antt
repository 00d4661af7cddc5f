-- Class 6: what the code looks for, the rows, and what fits.
use Rattle.std.proofs.Common.{◌≡◌, ℕ, max, List, [], ◌∷◌, take, Bool, true, false, ◌&&◌, Option, Some, None, codes, refl, sym, ap, subst, ◌∙◌, arith, inl, inr}
use Rattle.std.specs.Prelude.{nat_le}
use Rattle.std.specs.List.{All}
use Rattle.std.specs.Str.{bytes_eq}
use Rattle.std.proofs.lemmas.Bool.{cases_Bool, and_parts, leb-true, leb-false, false_from_ne_true}
use Rattle.skopeo_words.specs.CommandOf.{IsGood}
use Rattle.skopeo_words.specs.Fields.{IsFlag, Begins}
use Rattle.skopeo_words.specs.Found.{Placed}
use Rattle.skopeo_words.specs.LastOf.{last_of, second_text}
use Rattle.skopeo_words.specs.PairFault.{HasText, IsOn, IsNoDocker, IsLayout, IsNoNumber, IsPairFault}
use Rattle.skopeo_words.specs.Pairs.{says, is_yes, is_on, place_of, later, bad_pair, needs_raw, bad_format, not_docker, bad_number, pair_fault}
use Rattle.skopeo_words.specs.Parts.{Part}
use Rattle.skopeo_words.specs.Table.{kind_of}
use Rattle.skopeo_words.specs.Values.{truth_value, number_upto}
use Rattle.skopeo_words.specs.declared.command.CommandName.{CommandName}
use Rattle.skopeo_words.specs.declared.command.CommandName.TheVariants.{Copy, Sync, Inspect, ListTags, Delete, MakeImages}
use Rattle.skopeo_words.specs.declared.fault.WordsFault.{WordsFault}
use Rattle.skopeo_words.specs.declared.fault.WordsFault.TheVariants.{At}
use Rattle.skopeo_words.specs.declared.fault.WordsKind.TheVariants as kind
use Rattle.skopeo_words.specs.declared.table.OptionName.{OptionName}
use Rattle.skopeo_words.specs.declared.table.OptionName.TheVariants as option
use Rattle.skopeo_words.proofs.FoundLaw.{same_text, text_same, IsLastOr, found, is_last}
use Rattle.skopeo_words.proofs.FieldLaw.{flag_is, flag_by}

some_same : {A : Type 0} (a b : A) → Some a ≡ Some b → a ≡ b
some_same a b h = cc h

-- ---- an option's last value

says_text : (name : OptionName) (parts : List Part) (text : List ℕ) (o : Option Placed) → IsLastOr name parts o → says text o ≡ true → HasText name parts text (place_of o)
says_text name parts text None last h = absurd (cc h)
says_text name parts text (Some value) last h = record { value = value; last = last; same = same_text value.text text h; place = refl }

record SaysSo (name : OptionName) (parts : List Part) (text : List ℕ) (at : ℕ) : Type 0 where
  says : says text (last_of name parts) ≡ true
  place : place_of (last_of name parts) ≡ at

text_says : (name : OptionName) (parts : List Part) (text : List ℕ) (at : ℕ) → HasText name parts text at → SaysSo name parts text at
text_says name parts text at h = record {
  says = rw (is_last name parts h.value h.last) (text_same h.value.text text h.same);
  place = rw (is_last name parts h.value h.last) (sym h.place);
}

yes_some : (o : Option Bool) → is_yes o ≡ true → o ≡ Some true
yes_some (Some b) h = ap Some h
yes_some None h = absurd (cc h)

on_is : (name : OptionName) (parts : List Part) (o : Option Placed) → IsLastOr name parts o → is_on o ≡ true → IsOn name parts (place_of o)
on_is name parts None last h = absurd (cc h)
on_is name parts (Some value) last h = record { value = value; last = last; says = yes_some (truth_value value.text) h; place = refl }

record OnSo (name : OptionName) (parts : List Part) (at : ℕ) : Type 0 where
  on : is_on (last_of name parts) ≡ true
  place : place_of (last_of name parts) ≡ at

is_so : (name : OptionName) (parts : List Part) (at : ℕ) → IsOn name parts at → OnSo name parts at
is_so name parts at h = record {
  on = rw (is_last name parts h.value h.last, h.says) refl;
  place = rw (is_last name parts h.value h.last) (sym h.place);
}

later_max : (a b : ℕ) → later a b ≡ max a b
later_max a b =
    elim (cases_Bool (nat_le a b)) [
      | inl below ↦ rw below (omega (arith, leb-true a b below))
      | inr above ↦ rw above (omega (arith, leb-false a b above))
    ]

-- ---- `copy`

layout_from : (operands : List Placed) → Begins (codes "oci:") (second_text operands) → IsLayout operands
layout_from [] h = absurd (cc h)
layout_from (a ∷ []) h = absurd (cc h)
layout_from (a ∷ b ∷ more) h = h

layout_to : (operands : List Placed) → IsLayout operands → Begins (codes "oci:") (second_text operands)
layout_to [] h = absurd h
layout_to (a ∷ []) h = absurd h
layout_to (a ∷ b ∷ more) h = h

copy_row : (parts : List Part) (operands : List Placed) (e : WordsFault) → bad_format (last_of option.Format parts) (second_text operands) ≡ Some e → IsPairFault Copy parts operands e
copy_row parts operands e h =
    elim (cases_Bool (says (codes "v2s2") (last_of option.Format parts) && bytes_eq (take 4 (second_text operands)) (codes "oci:"))) [
      | inl both ↦
          let b = and_parts (says (codes "v2s2") (last_of option.Format parts)) (bytes_eq (take 4 (second_text operands)) (codes "oci:")) both in
          let at = place_of (last_of option.Format parts) in
          let same : Some (At at kind.FormatForPlace) ≡ Some e = rw both at h in (
            at,
            says_text option.Format parts (codes "v2s2") (last_of option.Format parts) (found option.Format parts) b.0,
            layout_from operands (same_text (take 4 (second_text operands)) (codes "oci:") b.1),
            sym (some_same _ _ same),
          )
      | inr other ↦ absurd (let none : None ≡ Some e = rw other at h in cc none)
    ]

row_copy : (parts : List Part) (operands : List Placed) (e : WordsFault) → IsPairFault Copy parts operands e → bad_format (last_of option.Format parts) (second_text operands) ≡ Some e
row_copy parts operands e (at, text, layout, same) =
    let so = text_says option.Format parts (codes "v2s2") at text in
    let oci = text_same (take 4 (second_text operands)) (codes "oci:") (layout_to operands layout) in
    rw (so.says, oci, so.place) (ap Some (sym same))

-- ---- `sync`

no_text : (name : OptionName) (parts : List Part) (text : List ℕ) → says text (last_of name parts) ≡ false → (at : ℕ) → HasText name parts text at → ⊥
no_text name parts text h at there = let so = text_says name parts text at there in absurd (let e : true ≡ false = sym so.says ∙ h in cc e)

says_no : (name : OptionName) (parts : List Part) (text : List ℕ) → ((at : ℕ) → HasText name parts text at → ⊥) → says text (last_of name parts) ≡ false
says_no name parts text none = false_from_ne_true (says text (last_of name parts)) (λ yes. none (place_of (last_of name parts)) (says_text name parts text (last_of name parts) (found name parts) yes))

at_later : (a b : ℕ) (e : WordsFault) → Some (At (later a b) kind.BadPair) ≡ Some e → e ≡ At (max a b) kind.BadPair
at_later a b e h = sym (some_same _ _ h) ∙ ap (λ n. At n kind.BadPair) (later_max a b)

sync_row : (parts : List Part) (operands : List Placed) (e : WordsFault) → bad_pair (last_of option.Src parts) (last_of option.Dest parts) (last_of option.Scoped parts) ≡ Some e → IsPairFault Sync parts operands e
sync_row parts operands e h =
    let src = last_of option.Src parts in
    let dest = last_of option.Dest parts in
    let scoped = last_of option.Scoped parts in
    elim (cases_Bool (says (codes "dir") src)) [
      | inr other ↦ absurd (let none : None ≡ Some e = rw other at h in cc none)
      | inl from ↦
          let is_src = says_text option.Src parts (codes "dir") src (found option.Src parts) from in
          elim (cases_Bool (says (codes "dir") dest)) [
            | inl to ↦
                let same : Some (At (later (place_of src) (place_of dest)) kind.BadPair) ≡ Some e = rw (from, to) at h in
                (place_of src, place_of dest, is_src, inl (says_text option.Dest parts (codes "dir") dest (found option.Dest parts) to), at_later (place_of src) (place_of dest) e same)
            | inr to ↦
                elim (cases_Bool (is_on scoped)) [
                  | inl on ↦
                      let same : Some (At (later (place_of src) (place_of scoped)) kind.BadPair) ≡ Some e = rw (from, to, on) at h in
                      (place_of src, place_of scoped, is_src, inr (no_text option.Dest parts (codes "dir") to, on_is option.Scoped parts scoped (found option.Scoped parts) on), at_later (place_of src) (place_of scoped) e same)
                  | inr off ↦ absurd (let none : None ≡ Some e = rw (from, to, off) at h in cc none)
                ]
          ]
    ]

row_sync : (parts : List Part) (operands : List Placed) (e : WordsFault) → IsPairFault Sync parts operands e → bad_pair (last_of option.Src parts) (last_of option.Dest parts) (last_of option.Scoped parts) ≡ Some e
row_sync parts operands e (src, other, is_src, inl is_dest, same) =
    let from = text_says option.Src parts (codes "dir") src is_src in
    let to = text_says option.Dest parts (codes "dir") other is_dest in
    rw (from.says, to.says, from.place, to.place) (ap (λ n. Some (At n kind.BadPair)) (later_max src other) ∙ ap Some (sym same))
row_sync parts operands e (src, other, is_src, inr (none, is_scoped), same) =
    let from = text_says option.Src parts (codes "dir") src is_src in
    let to = says_no option.Dest parts (codes "dir") none in
    let on = is_so option.Scoped parts other is_scoped in
    rw (from.says, to, on.on, from.place, on.place) (ap (λ n. Some (At n kind.BadPair)) (later_max src other) ∙ ap Some (sym same))

-- ---- `inspect`

inspect_row : (parts : List Part) (operands : List Placed) (e : WordsFault) → All IsGood parts → needs_raw (last_of option.Config parts) (last_of option.Raw parts) ≡ Some e → IsPairFault Inspect parts operands e
unfolding kind_of
inspect_row parts operands e good h =
    let config = last_of option.Config parts in
    let raw = last_of option.Raw parts in
    elim (cases_Bool (is_on config)) [
      | inr off ↦ absurd (let none : None ≡ Some e = rw off at h in cc none)
      | inl on ↦
          elim (cases_Bool (is_on raw)) [
            | inl there ↦ absurd (let none : None ≡ Some e = rw (on, there) at h in cc none)
            | inr absent ↦
                let same : Some (At (place_of config) kind.NeedsRaw) ≡ Some e = rw (on, absent) at h in
                (place_of config, on_is option.Config parts config (found option.Config parts) on, subst (IsFlag option.Raw parts) absent (flag_by option.Raw parts refl good), sym (some_same _ _ same))
          ]
    ]

row_inspect : (parts : List Part) (operands : List Placed) (e : WordsFault) → IsPairFault Inspect parts operands e → needs_raw (last_of option.Config parts) (last_of option.Raw parts) ≡ Some e
row_inspect parts operands e (at, config, raw, same) =
    let on = is_so option.Config parts at config in
    let off : is_on (last_of option.Raw parts) ≡ false = flag_is option.Raw parts false raw in
    rw (on.on, off, on.place) (ap Some (sym same))

-- ---- operands

docker_row : (operands : List Placed) (e : WordsFault) → not_docker operands ≡ Some e → IsNoDocker operands e
docker_row [] e h = absurd (cc h)
docker_row (operand ∷ more) e h =
    elim (cases_Bool (bytes_eq (take 9 operand.text) (codes "docker://"))) [
      | inl begins ↦ absurd (let none : None ≡ Some e = rw begins at h in cc none)
      | inr other ↦
          let same : Some (At operand.at kind.NotDocker) ≡ Some e = rw other at h in
          (λ begins. let e : true ≡ false = sym (text_same (take 9 operand.text) (codes "docker://") begins) ∙ other in cc e, sym (some_same _ _ same))
    ]

row_docker : (operands : List Placed) (e : WordsFault) → IsNoDocker operands e → not_docker operands ≡ Some e
row_docker [] e h = absurd h
row_docker (operand ∷ more) e (none, same) =
    rw (false_from_ne_true (bytes_eq (take 9 operand.text) (codes "docker://")) (λ yes. none (same_text (take 9 operand.text) (codes "docker://") yes))) (ap Some (sym same))

number_row : (operands : List Placed) (e : WordsFault) → bad_number operands ≡ Some e → IsNoNumber operands e
number_row [] e h = absurd (cc h)
number_row (operand ∷ more) e h = by (number_upto 1000 operand.text) refl
  where
    by : (o : Option ℕ) → number_upto 1000 operand.text ≡ o → IsNoNumber (operand ∷ more) e
    by None k = (k, sym (some_same _ _ (let same : Some (At operand.at kind.BadNumber) ≡ Some e = rw k at h in same)))
    by (Some n) k = absurd (let none : None ≡ Some e = rw k at h in cc none)

row_number : (operands : List Placed) (e : WordsFault) → IsNoNumber operands e → bad_number operands ≡ Some e
row_number [] e h = absurd h
row_number (operand ∷ more) e (none, same) = rw none (ap Some (sym same))

-- ---- the rows

pub pair_row : (name : CommandName) (parts : List Part) (operands : List Placed) (e : WordsFault) → All IsGood parts → pair_fault name parts operands ≡ Some e → IsPairFault name parts operands e
pair_row Copy parts operands e good h = copy_row parts operands e h
pair_row Sync parts operands e good h = sync_row parts operands e h
pair_row Inspect parts operands e good h = inspect_row parts operands e good h
pair_row ListTags parts operands e good h = docker_row operands e h
pair_row Delete parts operands e good h = docker_row operands e h
pair_row MakeImages parts operands e good h = number_row operands e h

pub row_pair : (name : CommandName) (parts : List Part) (operands : List Placed) (e : WordsFault) → IsPairFault name parts operands e → pair_fault name parts operands ≡ Some e
row_pair Copy parts operands e h = row_copy parts operands e h
row_pair Sync parts operands e h = row_sync parts operands e h
row_pair Inspect parts operands e h = row_inspect parts operands e h
row_pair ListTags parts operands e h = row_docker operands e h
row_pair Delete parts operands e h = row_docker operands e h
row_pair MakeImages parts operands e h = row_number operands e h
