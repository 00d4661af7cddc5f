-- Which bytes a part can hold.
use Rattle.std.proofs.Common.{◌≡◌, ℕ, ◌==◌, Bool, true, false, ◌||◌, not, List, [], ◌∷◌, ◌++◌, refl, sym, ap, ◌∙◌, inl, inr}
use Rattle.std.proofs.lemmas.Bool.{cases_Bool, and_parts, eqb-true}
use Rattle.std.specs.List.{All, list_all, join_with_byte}
use Rattle.std.proofs.lemmas.List.Elements.{All-head, All-tail}
use Rattle.std.proofs.lemmas.List.Sums.{list_all-from_AllPass}
use Rattle.std.proofs.lemmas.List.Folds.{list_all-append}
use Rattle.image_ref.specs.Characters.{is_run_byte, dot, dash, underscore}
use Rattle.image_ref.specs.Component.{IsRun, IsSeparator, a_dot, one, two, dashes, IsComponent, last, joined}
use Rattle.image_ref.specs.Cuts.{lacks}
use Rattle.image_ref.proofs.BoolLemmas.{or_left}

pub weaker : (p q : ℕ → Bool) → ((b : ℕ) → p b ≡ true → q b ≡ true) → (text : List ℕ) → list_all p text ≡ true → list_all q text ≡ true
weaker p q f [] h = refl
weaker p q f (b ∷ rest) h = let h2 = and_parts (p b) (list_all p rest) h in rw (f b h2.0, weaker p q f rest h2.1) refl

pub both : (p : ℕ → Bool) (xs ys : List ℕ) → list_all p xs ≡ true → list_all p ys ≡ true → list_all p (xs ++ ys) ≡ true
both p xs ys h k = list_all-append p xs ys ∙ rw (h, k) refl

excluded : (p : ℕ → Bool) (c b : ℕ) → p c ≡ false → p b ≡ true → not (b == c) ≡ true
excluded p c b out within =
    elim (cases_Bool (b == c)) [
      | inl same ↦ cc (sym out ∙ ap p (sym (eqb-true b c same)) ∙ within)
      | inr other ↦ rw other refl
    ]

-- a text of bytes that p passes lacks a byte that it does not
pub lacking : (p : ℕ → Bool) (c : ℕ) → p c ≡ false → (text : List ℕ) → list_all p text ≡ true → lacks c text ≡ true
lacking p c out text h = weaker p (λ b. not (b == c)) (λ b. excluded p c b out) text h

pub joined_bytes : (p : ℕ → Bool) (c : ℕ) → p c ≡ true → (parts : List (List ℕ)) → All (λ part. list_all p part ≡ true) parts → list_all p (join_with_byte c parts) ≡ true
joined_bytes p c pass [] h = refl
joined_bytes p c pass (x ∷ []) h = All-head (λ part. list_all p part ≡ true) x [] h
joined_bytes p c pass (x ∷ y ∷ more) h =
    both p x (c ∷ join_with_byte c (y ∷ more)) (All-head (λ part. list_all p part ≡ true) x (y ∷ more) h)
    (rw (pass, joined_bytes p c pass (y ∷ more) (All-tail (λ part. list_all p part ≡ true) x (y ∷ more) h)) refl)

-- ---- components

abbrev pub component_byte : ℕ → Bool
component_byte b = is_run_byte b || ((b == dot) || ((b == underscore) || (b == dash)))

dash_passes : (b : ℕ) → (b == dash) ≡ true → component_byte b ≡ true
dash_passes b e = rw (eqb-true b dash e) refl

separator_bytes : (text : List ℕ) → IsSeparator text → list_all component_byte text ≡ true
separator_bytes _ a_dot = refl
separator_bytes _ one = refl
separator_bytes _ two = refl
separator_bytes _ (dashes text h) = weaker (λ b. b == dash) component_byte dash_passes text (list_all-from_AllPass (λ b. b == dash) text h.bytes)

run_bytes : (run : List ℕ) → IsRun run → list_all component_byte run ≡ true
run_bytes run h = weaker is_run_byte component_byte (λ b e. or_left (is_run_byte b) _ e) run (list_all-from_AllPass is_run_byte run h.bytes)

pub component_bytes : (text : List ℕ) → IsComponent text → list_all component_byte text ≡ true
component_bytes _ (last run h) = run_bytes run h
component_bytes _ (joined run separator rest h sep c) = both component_byte run (separator ++ rest) (run_bytes run h) (both component_byte separator rest (separator_bytes separator sep) (component_bytes rest c))
