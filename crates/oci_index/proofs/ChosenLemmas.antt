-- Loops that keep what passes a test.
use Rattle.std.proofs.Common.{◌≡◌, ◌∙◌, ◌+◌, ◌<◌, ◌≤◌, ℕ, Bool, true, false, cond, List, [], ◌∷◌, ◌++◌, append-nil, length, take, get_or, map, filter, refl, sym, ap, arith, ◌^◌, ◌-◌, Result, Ok, Err}
use Rattle.std.specs.Prelude.{min}
use Rattle.manifest_v2s2.specs.declared.descriptor.Descriptor.{Descriptor}
use Rattle.oci_index.specs.declared.choice.ChoiceFault.{ChoiceFault}
use Rattle.oci_index.specs.declared.choice.ChoiceFault.TheVariants.{Absent, Ambiguous}
use Rattle.oci_index.specs.Chosen.{one_of}
use Rattle.std.proofs.lemmas.List.{take_more, take_all, map-append}
use Rattle.std.proofs.lemmas.List.Elements.{filter-append}

-- what one more item adds
one_more : {A : Type 0} (P : A → Bool) (xs : List A) (i : ℕ) (x : A) → i < length xs → x ≡ get_or xs i x → filter P (take (i + 1) xs) ≡ filter P (take i xs) ++ filter P (x ∷ [])
one_more P xs i x lt e = ap (filter P) (take_more xs i x lt) ∙ filter-append P (take i xs) (get_or xs i x ∷ []) ∙ ap (λ y. filter P (take i xs) ++ filter P (y ∷ [])) (sym e)

passes : {A : Type 0} (P : A → Bool) (x : A) → P x ≡ true → filter P (x ∷ []) ≡ x ∷ []
passes P x p = ap (λ b. cond b (x ∷ []) []) p

fails : {A : Type 0} (P : A → Bool) (x : A) → P x ≡ false → filter P (x ∷ []) ≡ []
fails P x p = ap (λ b. cond b (x ∷ []) []) p

pub found_more : {A : Type 0} (P : A → Bool) (xs : List A) (i : ℕ) (x y : A) (found next : List A) → found ≡ filter P (take i xs) → i < length xs → x ≡ get_or xs i x → P x ≡ true → y ≡ x → next ≡ found ++ y ∷ [] → next ≡ filter P (take (i + 1) xs)
found_more P xs i x y found next h lt e p same pushed =
    pushed ∙ ap (λ z. found ++ z ∷ []) same ∙ ap (λ l. l ++ x ∷ []) h ∙ sym (one_more P xs i x lt e ∙ ap (λ l. filter P (take i xs) ++ l) (passes P x p))

pub found_same : {A : Type 0} (P : A → Bool) (xs : List A) (i : ℕ) (x : A) (found : List A) → found ≡ filter P (take i xs) → i < length xs → x ≡ get_or xs i x → P x ≡ false → found ≡ filter P (take (i + 1) xs)
found_same P xs i x found h lt e p =
    h ∙ sym (append-nil (filter P (take i xs))) ∙ sym (one_more P xs i x lt e ∙ ap (λ l. filter P (take i xs) ++ l) (fails P x p))

pub found_all : {A : Type 0} (P : A → Bool) (xs : List A) (i : ℕ) (found : List A) → found ≡ filter P (take i xs) → length xs ≤ i → found ≡ filter P xs
found_all P xs i found h le = h ∙ ap (filter P) (take_all i xs le)

-- ---- the one of some entries

pub one_none : (xs : List Descriptor) → length xs ≡ 0 → one_of xs ≡ Err Absent
one_none [] h = refl
one_none (x ∷ xs) h = absurd (omega (arith, h))

pub one_one : (xs : List Descriptor) (x : Descriptor) → length xs ≡ 1 → x ≡ get_or xs 0 x → one_of xs ≡ Ok x
one_one [] x h e = absurd (omega (arith, h))
one_one (y ∷ []) x h e = ap Ok (sym e)
one_one (y ∷ z ∷ more) x h e = absurd (omega (arith, h))

pub one_several : (xs : List Descriptor) → (length xs ≡ 0 → ⊥) → (length xs ≡ 1 → ⊥) → one_of xs ≡ Err (Ambiguous (min (length xs) (2 ^ 32 - 1)))
one_several [] h k = absurd (h refl)
one_several (x ∷ []) h k = absurd (k refl)
one_several (x ∷ y ∷ more) h k = refl
