-- The end that is found from the left is the end of what is kept.
use Rattle.std.proofs.Common.{◌≡◌, ℕ, ◌+◌, ◌==◌, List, [], ◌∷◌, length, take, refl, ap, ◌∙◌, arith, inl, inr}
use Rattle.std.specs.Prelude.{if◌then◌else◌}
use Rattle.std.proofs.lemmas.Bool.{cases_Bool}
use Rattle.image_ref.specs.Characters.{slash}
use Rattle.skopeo_words.specs.Scan.{end_from}
use Rattle.skopeo_words.specs.Values.{kept_behind, without_slashes}

abbrev end_behind : ℕ → ℕ → List ℕ → ℕ
end_behind at end [] = end
end_behind at end (b ∷ more) = at + length (b ∷ more)

one_more : (at end b : ℕ) (kept : List ℕ) → end_behind (at + 1) (if b == slash then end else at + 1) kept ≡ end_behind at end (kept_behind b kept)
one_more at end b [] =
    elim (cases_Bool (b == slash)) [
      | inl dropped ↦ rw dropped refl
      | inr stays ↦ rw stays refl
    ]
one_more at end b (c ∷ more) = omega arith

end_is : (at end : ℕ) (text : List ℕ) → end_from at end text ≡ end_behind at end (without_slashes text)
end_is at end [] = refl
end_is at end (b ∷ rest) = end_is (at + 1) (if b == slash then end else at + 1) rest ∙ one_more at end b (without_slashes rest)

length_is : (kept : List ℕ) → end_behind 0 0 kept ≡ length kept
length_is [] = refl
length_is (b ∷ more) = omega arith

front_behind : (b : ℕ) (rest kept : List ℕ) → take (length kept) rest ≡ kept → take (length (kept_behind b kept)) (b ∷ rest) ≡ kept_behind b kept
front_behind b rest [] h =
    elim (cases_Bool (b == slash)) [
      | inl dropped ↦ rw dropped refl
      | inr stays ↦ rw stays refl
    ]
front_behind b rest (c ∷ more) h = ap (λ (t : List ℕ). b ∷ t) h

front_is : (text : List ℕ) → take (length (without_slashes text)) text ≡ without_slashes text
front_is [] = refl
front_is (b ∷ rest) = front_behind b rest (without_slashes rest) (front_is rest)

pub take_end_from : (text : List ℕ) → take (end_from 0 0 text) text ≡ without_slashes text
take_end_from text = ap (λ n. take n text) (end_is 0 0 text ∙ length_is (without_slashes text)) ∙ front_is text
