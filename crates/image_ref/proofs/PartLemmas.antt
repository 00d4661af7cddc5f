-- Parts between separators, joined and cut.
use Rattle.std.proofs.Common.{◌≡◌, ℕ, ◌+◌, ◌==◌, true, false, List, [], ◌∷◌, length, Option, Some, None, refl, ap, ◌∙◌, arith, inl, inr, length-append}
use Rattle.std.proofs.lemmas.Bool.{cases_Bool}
use Rattle.std.specs.List.{slice_split, onto_first}
use Rattle.image_ref.specs.Characters.{slash}
use Rattle.image_ref.specs.ComponentTest.{is_component}
use Rattle.image_ref.specs.Cuts.{Cut, cut_at}
use Rattle.image_ref.specs.Reading.{bad_component}
use Rattle.image_ref.specs.Pieces.{components_of}
use Rattle.image_ref.proofs.CutLemmas.{glued_leaf}

abbrev pub parts : ℕ → List ℕ → List (List ℕ)
parts c text = slice_split (λ b. b == c) text

abbrev pub parts_after : ℕ → Cut → List (List ℕ)
parts_after c (first, None) = first ∷ []
parts_after c (first, Some rest) = first ∷ parts c rest

onto-parts : (c b : ℕ) (first : List ℕ) (rest : Option (List ℕ)) → onto_first b (parts_after c (first, rest)) ≡ parts_after c (b ∷ first, rest)
onto-parts c b first None = refl
onto-parts c b first (Some rest) = refl

-- the parts are what stands before the first separator, and the parts of what stands after it
pub parts-cut : (c : ℕ) (text : List ℕ) → parts c text ≡ parts_after c (cut_at c text)
parts-cut c [] = refl
parts-cut c (b ∷ rest) =
    elim (cases_Bool (b == c)) [
      | inl same ↦ rw same refl
      | inr other ↦ rw (other, parts-cut c rest, onto-parts c b (cut_at c rest).0 (cut_at c rest).1) refl
    ]

pub pair_is : (k : Cut) (a : List ℕ) (b : Option (List ℕ)) → a ≡ k.0 → b ≡ k.1 → k ≡ (a, b)
pair_is (x, y) a b e f = rw (e, f) refl

-- ---- one turn over the components

pub last_part : (path part : List ℕ) (at : ℕ) → part ≡ (cut_at slash path).0 → None ≡ (cut_at slash path).1 → is_component part ≡ true → bad_component at (components_of path) ≡ None
last_part path part at e f t =
    ap (bad_component at) (parts-cut slash path ∙ ap (parts_after slash) (pair_is (cut_at slash path) part None e f)) ∙ rw t refl

pub next_part : (path part more : List ℕ) (at : ℕ) → part ≡ (cut_at slash path).0 → Some more ≡ (cut_at slash path).1 → is_component part ≡ true → bad_component at (components_of path) ≡ bad_component (at + length part + 1) (components_of more)
next_part path part more at e f t =
    ap (bad_component at) (parts-cut slash path ∙ ap (parts_after slash) (pair_is (cut_at slash path) part (Some more) e f)) ∙ rw t refl

bad_first : (part : List ℕ) (rest : Option (List ℕ)) (at : ℕ) → is_component part ≡ false → bad_component at (parts_after slash (part, rest)) ≡ Some at
bad_first part None at t = rw t refl
bad_first part (Some more) at t = rw t refl

pub bad_part : (path part : List ℕ) (at : ℕ) → part ≡ (cut_at slash path).0 → is_component part ≡ false → bad_component at (components_of path) ≡ Some at
bad_part path part at e t = ap (bad_component at) (parts-cut slash path) ∙ bad_first (cut_at slash path).0 (cut_at slash path).1 at (rw (← e) t)

pub more_length : (c : ℕ) (text first more : List ℕ) → first ≡ (cut_at c text).0 → Some more ≡ (cut_at c text).1 → length first + length more + 1 ≡ length text
more_length c text first more e f = let g = ap length (glued_leaf c text first more e f) ∙ length-append first (c ∷ more) in omega arith
