-- Where the tag is cut off, and what stands before it.
use Rattle.std.proofs.Common.{◌≡◌, ℕ, ◌==◌, Bool, true, false, ◌&&◌, not, List, [], ◌∷◌, ◌++◌, Option, Some, None, refl, sym, ap, ◌∙◌, inl, inr}
use Rattle.std.specs.Prelude.{IfSome}
use Rattle.std.proofs.lemmas.Bool.{cases_Bool, and_parts, eqb-true, eq-eqb}
use Rattle.std.proofs.lemmas.List.Folds.{list_all-append}
use Rattle.image_ref.specs.Characters.{colon, slash}
use Rattle.image_ref.specs.Cuts.{cut_tag, lacks}
use Rattle.image_ref.specs.Domain.{after}
use Rattle.image_ref.proofs.CutLemmas.{cut_tag-glued}
use Rattle.image_ref.specs.Pieces.{HasNoTag}

pub tag_past : (text : List ℕ) → IfSome (cut_tag text).1 (λ t. lacks slash t ≡ true)
tag_past [] = tt
tag_past (b ∷ rest) =
    elim (cases_Bool ((b == colon) && lacks slash rest)) [
      | inl here ↦ rw here (and_parts (b == colon) (lacks slash rest) here).1
      | inr later ↦ rw later (tag_past rest)
    ]

pub tag_lacks : (tag : Option (List ℕ)) → IfSome tag (λ t. lacks slash t ≡ true) → lacks slash (after colon tag) ≡ true
tag_lacks None h = refl
tag_lacks (Some t) h = h

and_left : (a b : Bool) → a ≡ true → (a && b) ≡ false → b ≡ false
and_left true b h e = e
and_left false b h e = cc h

and_right : (a b : Bool) → b ≡ true → (a && b) ≡ false → a ≡ false
and_right true b h e = cc (h, e)
and_right false b h e = refl

-- what a text without slash before its end lacks, its front has
front_slash : (name : List ℕ) (tag : Option (List ℕ)) → IfSome tag (λ t. lacks slash t ≡ true) → lacks slash (name ++ after colon tag) ≡ false → lacks slash name ≡ false
front_slash name tag h e = and_right (lacks slash name) (lacks slash (after colon tag)) (tag_lacks tag h) (sym (list_all-append (λ b. not (b == slash)) name (after colon tag)) ∙ e)

first_of_two : (b c : ℕ) (xs ys : List ℕ) → b ∷ xs ≡ c ∷ ys → b ≡ c
first_of_two b c xs ys e = cc e

rest_of_two : (b c : ℕ) (xs ys : List ℕ) → b ∷ xs ≡ c ∷ ys → xs ≡ ys
rest_of_two b c xs ys e = cc e

not_empty : (front back : List ℕ) → [] ≡ front ++ (colon ∷ back) → ⊥
not_empty [] back e = cc e
not_empty (f ∷ fs) back e = cc e

pub no_tag_left : (text front back : List ℕ) → (cut_tag text).0 ≡ front ++ (colon ∷ back) → lacks slash back ≡ false
no_tag_left [] front back e = absurd (not_empty front back e)
no_tag_left (b ∷ rest) [] back e =
    elim (cases_Bool ((b == colon) && lacks slash rest)) [
      | inl here ↦ absurd (not_empty [] back (rw here at e))
      | inr later ↦
          let found = rw later at e in
          let whole : lacks slash rest ≡ false = and_left (b == colon) (lacks slash rest) (eq-eqb b colon (first_of_two b colon (cut_tag rest).0 back found)) later in
          rw (← rest_of_two b colon (cut_tag rest).0 back found) (front_slash (cut_tag rest).0 (cut_tag rest).1 (tag_past rest) (ap (lacks slash) (sym (cut_tag-glued rest)) ∙ whole))
    ]
no_tag_left (b ∷ rest) (f ∷ fs) back e =
    elim (cases_Bool ((b == colon) && lacks slash rest)) [
      | inl here ↦ absurd (not_empty (f ∷ fs) back (rw here at e))
      | inr later ↦ no_tag_left rest fs back (rest_of_two b f (cut_tag rest).0 (fs ++ (colon ∷ back)) (rw later at e))
    ]

slash_kept : (name : List ℕ) (tag : Option (List ℕ)) → lacks slash name ≡ false → lacks slash (name ++ after colon tag) ≡ false
slash_kept name tag e = list_all-append (λ b. not (b == slash)) name (after colon tag) ∙ rw e refl

both_false : (a b : Bool) → (a ≡ true → b ≡ false) → (a && b) ≡ false
both_false true b h = h refl
both_false false b h = refl

-- a name that has no tag, and a tag behind it, are cut there
pub tag_cut : (name : List ℕ) (tag : Option (List ℕ)) → HasNoTag name → IfSome tag (λ t. lacks slash t ≡ true) → cut_tag (name ++ after colon tag) ≡ (name, tag)
tag_cut [] None h t = refl
tag_cut [] (Some tag) h t = rw t refl
tag_cut (b ∷ rest) tag h t =
    let past : (b == colon) ≡ true → lacks slash (rest ++ after colon tag) ≡ false = λ e. slash_kept rest tag (h [] rest (ap (λ c. c ∷ rest) (eqb-true b colon e))) in
    rw (both_false (b == colon) (lacks slash (rest ++ after colon tag)) past, tag_cut rest tag (λ front back e. h (b ∷ front) back (ap (λ r. b ∷ r) e)) t) refl
