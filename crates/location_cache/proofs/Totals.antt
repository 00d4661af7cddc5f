-- Sums over views of which one changes.
use Rattle.std.proofs.Common.{◌≡◌, ◌≢◌, ℕ, zero, suc, ◌+◌, ◌<◌, ◌≤◌, ◌==◌, cond, List, [], ◌∷◌, ◌++◌, set, sum_by, refl, sym, ap, ◌∙◌, subst, ⊎_elim, inl, inr, eq-zero-or-pos, arith}
use Rattle.std.proofs.lemmas.List.Sums.{sum_by-cons, sum_by-append, sum_by_push}
use Rattle.std.proofs.lemmas.Bool.Decides.{nat_tests}
use mathlib.Core.Option.{some, some-ne-none, some-injective}
use lib.ListN.{get_elem?}
use Rattle.atomic_table.proofs.Lists.{at_set, at_snoc}
use Rattle.location_cache.specs.declared.view.View.{View}
use Rattle.location_cache.specs.Rule.{times, once_to, Each, spent}

module _ {X : Type 0} (f : X → ℕ) where
  -- the sum after a change of one
  pub sum_set : (xs : List X) (i : ℕ) (v w : X) → get_elem? xs i ≡ some v → sum_by f (set xs i w) + f v ≡ sum_by f xs + f w
  sum_set [] i v w e = absurd (some-ne-none v (sym e))
  sum_set (x ∷ xs) zero v w e = let is : f x ≡ f v = ap f (some-injective x v e) in omega (arith, sum_by-cons f w xs, sum_by-cons f x xs)
  sum_set (x ∷ xs) (suc i) v w e = let r = sum_set xs i v w e in omega (arith, sum_by-cons f x (set xs i w), sum_by-cons f x xs)

  -- each is at most the sum
  pub le_sum : (xs : List X) (i : ℕ) (v : X) → get_elem? xs i ≡ some v → f v ≤ sum_by f xs
  le_sum [] i v e = absurd (some-ne-none v (sym e))
  le_sum (x ∷ xs) zero v e = let is : f x ≡ f v = ap f (some-injective x v e) in omega (arith, sum_by-cons f x xs)
  le_sum (x ∷ xs) (suc i) v e = let r = le_sum xs i v e in omega (arith, sum_by-cons f x xs)

-- a fact about each view, after a change of one
pub each_set : (P Q : View → Type 0) (views : List View) (id : ℕ) (w : View) → ((v : View) → P v → Q v) → Each P views → Q w → Each Q (set views id w)
each_set P Q views id w more each new seat v e =
    ⊎_elim (λ (t : (seat ≡ id) × (w ≡ v)). subst Q t.1 new) (λ (t : (seat ≢ id) × (get_elem? views seat ≡ some v)). more v (each seat v t.1)) (at_set views id seat w v e)

-- the same where one more view came
pub each_push : (P : View → Type 0) (views : List View) (w : View) → Each P views → P w → Each P (views ++ w ∷ [])
each_push P views w each new seat v e =
    ⊎_elim (λ (t : get_elem? views seat ≡ some v). each seat v t) (λ (t : w ≡ v). subst P t new) (at_snoc views w v seat e)

pub times_push : (job : ℕ) (jobs : List ℕ) (last : ℕ) → times job (jobs ++ last ∷ []) ≡ times job jobs + cond (last == job) 1 0
times_push job jobs last = sum_by_push (λ x. cond (x == job) 1 0) jobs last

pub times_append : (job : ℕ) (xs ys : List ℕ) → times job (xs ++ ys) ≡ times job xs + times job ys
times_append job xs ys = sum_by-append (λ x. cond (x == job) 1 0) xs ys

pub once_more : (last job : ℕ) → once_to last job + cond (last + 1 == job) 1 0 ≡ once_to (last + 1) job
once_more last job = grind (arith, nat_tests)

pub once_up_to : (last job : ℕ) → 0 < once_to last job → job ≤ last
once_up_to last job here = grind (arith, nat_tests)

module _ {X : Type 0} (f : X → ℕ) where
  -- where the sum is not 0, one of them is not
  pub one_has : (xs : List X) → 0 < sum_by f xs → (i : ℕ) × (v : X) × (get_elem? xs i ≡ some v) × (0 < f v)
  one_has [] h = absurd (omega arith)
  one_has (x ∷ xs) h = elim (eq-zero-or-pos (f x)) [
    | inl z ↦ (let r = one_has xs (omega (arith, sum_by-cons f x xs)) in (suc r.0, r.1, r.2, r.3))
    | inr p ↦ (0, x, refl, p)
  ]

-- where one view has all the room, the others are spent
module _ (f : View → ℕ) (none : f spent ≡ 0) where
  all_spent : (views : List View) → Each (λ u. u.room ≡ 0 → u ≡ spent) views → sum_by (λ u. u.room) views ≡ 0 → sum_by f views ≡ 0
  all_spent [] each z = refl
  all_spent (x ∷ xs) each z =
      let c = sum_by-cons (λ u. u.room) x xs in
      let empty : x.room ≡ 0 = omega arith in
      let is : f x ≡ 0 = ap f (each 0 x refl empty) ∙ none in
      let rest = all_spent xs (λ i v e. each (suc i) v e) (omega arith) in
      omega (arith, sum_by-cons f x xs)

  pub alone : (views : List View) (i : ℕ) (v : View) → Each (λ u. u.room ≡ 0 → u ≡ spent) views → get_elem? views i ≡ some v → sum_by (λ u. u.room) views ≡ v.room → sum_by f views ≡ f v
  alone [] i v each e all = absurd (some-ne-none v (sym e))
  alone (x ∷ xs) zero v each e all =
      let c = sum_by-cons (λ u. u.room) x xs in
      let same : x ≡ v = some-injective x v e in
      let room : x.room ≡ v.room = ap (λ u. u.room) same in
      let is : f x ≡ f v = ap f same in
      let rest = all_spent xs (λ i v e. each (suc i) v e) (omega arith) in
      omega (arith, sum_by-cons f x xs)
  alone (x ∷ xs) (suc i) v each e all =
      let c = sum_by-cons (λ u. u.room) x xs in
      let le = le_sum (λ u. u.room) xs i v e in
      let empty : x.room ≡ 0 = omega arith in
      let is : f x ≡ 0 = ap f (each 0 x refl empty) ∙ none in
      let rest = alone xs i v (λ i v e. each (suc i) v e) e (omega arith) in
      omega (arith, sum_by-cons f x xs)
