-- A command fits exactly where class 6 has no fault of it.
use Rattle.std.proofs.Common.{◌≡◌, ℕ, List, [], ◌∷◌, length, take, true, false, ◌&&◌, Option, Some, None, codes, refl, sym, subst, ◌∙◌, arith, inl, inr}
use Rattle.std.specs.Prelude.{option_map, option_and_then, unwrap_or}
use Rattle.std.specs.Str.{bytes_eq}
use Rattle.std.proofs.lemmas.Bool.{cases_Bool, and_parts, and_from, false_from_ne_true}
use Rattle.skopeo_words.specs.Fields.{HaveTexts, Begins, Fits, HasFields}
use Rattle.skopeo_words.specs.FirstFault.{wanted}
use Rattle.skopeo_words.specs.Found.{Placed}
use Rattle.skopeo_words.specs.LastOf.{last_of, first_text, second_text}
use Rattle.skopeo_words.specs.Made.{made}
use Rattle.skopeo_words.specs.Pairs.{says, is_on, bad_pair, needs_raw, bad_format, not_docker, bad_number, pair_fault}
use Rattle.skopeo_words.specs.Parts.{Part}
use Rattle.skopeo_words.specs.Values.{number_upto, format_value, end_value}
use Rattle.skopeo_words.specs.declared.command.Command.{Command}
use Rattle.skopeo_words.specs.declared.command.Command.TheVariants as command
use Rattle.skopeo_words.specs.declared.command.CommandName.{CommandName}
use Rattle.skopeo_words.specs.declared.command.CommandName.TheVariants.{Copy, Sync, Inspect, ListTags, Delete, MakeImages}
use Rattle.skopeo_words.specs.declared.command.Format.TheVariants.{Oci, V2s2}
use Rattle.skopeo_words.specs.declared.command.SyncEnd.{SyncEnd}
use Rattle.skopeo_words.specs.declared.command.SyncEnd.TheVariants.{Docker, Dir}
use Rattle.skopeo_words.specs.declared.table.OptionName.TheVariants as option
use Rattle.skopeo_words.proofs.FoundLaw.{same_text, text_same}

-- ---- what values say

formatted : (o : Option Placed) → option_and_then format_value (option_map (λ p. p.text) o) ≡ Some V2s2 → says (codes "v2s2") o ≡ true
formatted None h = absurd (cc h)
formatted (Some value) h =
    elim (cases_Bool (bytes_eq value.text (codes "oci"))) [
      | inl oci ↦ absurd (let e : Some Oci ≡ Some V2s2 = rw oci at h in cc e)
      | inr other ↦
          elim (cases_Bool (bytes_eq value.text (codes "v2s2"))) [
            | inl same ↦ same
            | inr none ↦ absurd (let e : None ≡ Some V2s2 = rw (other, none) at h in cc e)
          ]
    ]

says_format : (o : Option Placed) → says (codes "v2s2") o ≡ true → option_and_then format_value (option_map (λ p. p.text) o) ≡ Some V2s2
says_format None h = absurd (cc h)
says_format (Some value) h = subst (λ t. format_value t ≡ Some V2s2) (sym (same_text value.text (codes "v2s2") h)) refl

abbrev end_said : Option Placed → SyncEnd
end_said o = unwrap_or (option_and_then end_value (option_map (λ p. p.text) o)) Docker

says_dir : (o : Option Placed) → says (codes "dir") o ≡ true → end_said o ≡ Dir
says_dir None h = absurd (cc h)
says_dir (Some value) h = subst (λ t. unwrap_or (end_value t) Docker ≡ Dir) (sym (same_text value.text (codes "dir") h)) refl

says_other : (o : Option Placed) → says (codes "dir") o ≡ false → end_said o ≡ Docker
says_other None h = refl
says_other (Some value) h =
    elim (cases_Bool (bytes_eq value.text (codes "docker"))) [
      | inl docker ↦ rw docker refl
      | inr other ↦ rw (other, h) refl
    ]

dir_says : (o : Option Placed) → end_said o ≡ Dir → says (codes "dir") o ≡ true
dir_says o h =
    elim (cases_Bool (says (codes "dir") o)) [
      | inl dir ↦ dir
      | inr other ↦ absurd (let e : Docker ≡ Dir = sym (says_other o other) ∙ h in cc e)
    ]

docker_says : (o : Option Placed) → end_said o ≡ Docker → says (codes "dir") o ≡ false
docker_says o h = false_from_ne_true (says (codes "dir") o) (λ dir. let e : Docker ≡ Dir = sym h ∙ says_dir o dir in cc e)

-- ---- by the command

copy_fits : (o : Option Placed) (dest : List ℕ) → bad_format o dest ≡ None → option_and_then format_value (option_map (λ p. p.text) o) ≡ Some V2s2 → Begins (codes "oci:") dest → ⊥
copy_fits o dest h v2s2 oci =
    let both : (says (codes "v2s2") o && bytes_eq (take 4 dest) (codes "oci:")) ≡ true = and_from (says (codes "v2s2") o) (bytes_eq (take 4 dest) (codes "oci:")) (formatted o v2s2) (text_same (take 4 dest) (codes "oci:") oci) in
    let e : Some _ ≡ None = rw both at h in cc e

fits_copy : (o : Option Placed) (dest : List ℕ) → (option_and_then format_value (option_map (λ p. p.text) o) ≡ Some V2s2 → Begins (codes "oci:") dest → ⊥) → bad_format o dest ≡ None
fits_copy o dest h =
    let none : (says (codes "v2s2") o && bytes_eq (take 4 dest) (codes "oci:")) ≡ false = false_from_ne_true (says (codes "v2s2") o && bytes_eq (take 4 dest) (codes "oci:"))
    (λ both. let b = and_parts (says (codes "v2s2") o) (bytes_eq (take 4 dest) (codes "oci:")) both in h (says_format o b.0) (same_text (take 4 dest) (codes "oci:") b.1)) in
    rw none refl

sync_fits : (src dest scoped : Option Placed) → bad_pair src dest scoped ≡ None → end_said src ≡ Dir → (end_said dest ≡ Docker) × (is_on scoped ≡ false)
sync_fits src dest scoped h dir =
    let from = dir_says src dir in
    elim (cases_Bool (says (codes "dir") dest)) [
      | inl to ↦ absurd (let e : Some _ ≡ None = rw (from, to) at h in cc e)
      | inr to ↦
          elim (cases_Bool (is_on scoped)) [
            | inl on ↦ absurd (let e : Some _ ≡ None = rw (from, to, on) at h in cc e)
            | inr off ↦ (says_other dest to, off)
          ]
    ]

fits_sync : (src dest scoped : Option Placed) → (end_said src ≡ Dir → (end_said dest ≡ Docker) × (is_on scoped ≡ false)) → bad_pair src dest scoped ≡ None
fits_sync src dest scoped h =
    elim (cases_Bool (says (codes "dir") src)) [
      | inl from ↦ let k = h (says_dir src from) in rw (from, docker_says dest k.0, k.1) refl
      | inr other ↦ rw other refl
    ]

inspect_fits : (config raw : Option Placed) → needs_raw config raw ≡ None → is_on config ≡ true → is_on raw ≡ true
inspect_fits config raw h on =
    elim (cases_Bool (is_on raw)) [
      | inl there ↦ there
      | inr absent ↦ absurd (let e : Some _ ≡ None = rw (on, absent) at h in cc e)
    ]

fits_inspect : (config raw : Option Placed) → (is_on config ≡ true → is_on raw ≡ true) → needs_raw config raw ≡ None
fits_inspect config raw h =
    elim (cases_Bool (is_on config)) [
      | inl on ↦ rw (on, h on) refl
      | inr off ↦ rw off refl
    ]

docker_fits : (operands : List Placed) → length operands ≡ 1 → not_docker operands ≡ None → Begins (codes "docker://") (first_text operands)
docker_fits [] one h = absurd (omega (arith, one))
docker_fits (operand ∷ more) one h =
    elim (cases_Bool (bytes_eq (take 9 operand.text) (codes "docker://"))) [
      | inl begins ↦ same_text (take 9 operand.text) (codes "docker://") begins
      | inr other ↦ absurd (let e : Some _ ≡ None = rw other at h in cc e)
    ]

fits_docker : (operands : List Placed) → Begins (codes "docker://") (first_text operands) → not_docker operands ≡ None
fits_docker [] h = refl
fits_docker (operand ∷ more) h = rw (text_same (take 9 operand.text) (codes "docker://") h) refl

fits_number : (operands : List Placed) (n : ℕ) → number_upto 1000 (first_text operands) ≡ Some n → bad_number operands ≡ None
fits_number [] n h = refl
fits_number (operand ∷ more) n h = rw h refl

pub fits_by : (name : CommandName) (parts : List Part) (operands : List Placed) → length operands ≡ wanted name → pair_fault name parts operands ≡ None → Fits (made name parts operands)
unfolding made
fits_by Copy parts operands count h = copy_fits (last_of option.Format parts) (second_text operands) h
fits_by Sync parts operands count h = sync_fits (last_of option.Src parts) (last_of option.Dest parts) (last_of option.Scoped parts) h
fits_by Inspect parts operands count h = inspect_fits (last_of option.Config parts) (last_of option.Raw parts) h
fits_by ListTags parts operands count h = docker_fits operands count h
fits_by Delete parts operands count h = docker_fits operands count h
fits_by MakeImages parts operands count h = tt

first_is : (operands : List Placed) (a b : List ℕ) → HaveTexts operands (a ∷ b ∷ []) → a ≡ first_text operands
first_is [] a b e = absurd (cc e)
first_is (x ∷ more) a b e = cc e

pub pair_none : (name : CommandName) (parts : List Part) (operands : List Placed) (c : Command) → HasFields name parts operands c → Fits (made name parts operands) → pair_fault name parts operands ≡ None
unfolding made
pair_none Copy parts operands c h fits = fits_copy (last_of option.Format parts) (second_text operands) fits
pair_none Sync parts operands c h fits = fits_sync (last_of option.Src parts) (last_of option.Dest parts) (last_of option.Scoped parts) fits
pair_none Inspect parts operands c h fits = fits_inspect (last_of option.Config parts) (last_of option.Raw parts) fits
pair_none ListTags parts operands c h fits = fits_docker operands fits
pair_none Delete parts operands c h fits = fits_docker operands fits
pair_none MakeImages parts operands (command.MakeImages common verifier count base) h fits =
    fits_number operands count (subst (λ t. number_upto 1000 t ≡ Some count) (first_is operands h.2.number base h.2.texts) h.2.counts)
pair_none MakeImages parts operands _ h fits = absurd h
