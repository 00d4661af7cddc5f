-- Sorted outcomes of jobs that ended once each stand in the order of the jobs.
use Rattle.std.proofs.Common.{◌≡◌, ℕ, zero, suc, ◌+◌, ◌<◌, ◌≤◌, ◌==◌, nat_le, nat_lt, cond, List, [], ◌∷◌, length, get_or, ◌∙◌, subst, inl, inr, eq-zero-or-pos, zero-le, arith}
use Rattle.std.proofs.lemmas.Bool.Decides.{nat_tests}
use Rattle.copy_workers.specs.declared.receipt.Outcome.{Outcome}
use Rattle.copy_workers.specs.Works.{ended}
use Rattle.location_cache.specs.Rule.{once_to}
use Rattle.copy_workers.specs.Gathered.{InOrder}
use Rattle.copy_workers.proofs.Working.{ended-cons}

-- 1 of each job above k, up to m
abbrev between : ℕ → ℕ → ℕ → ℕ
between k m job = cond (nat_lt k job) (cond (nat_le job m) 1 0) 0

between_none : (m job : ℕ) → once_to m job ≡ between 0 m job
between_none m job = grind (arith, nat_tests)

abbrev pub Ascends : ℕ → List Outcome → Type 0
Ascends x [] = Unit {0}
Ascends x (o ∷ os) = (x ≤ o.job) × Ascends o.job os

low : (job x : ℕ) (os : List Outcome) → Ascends x os → 0 < ended job os → x ≤ job
low job x [] up h = absurd (omega arith)
low job x (o ∷ os) up h = elim (eq-zero-or-pos (ended job os)) [
  | inl z ↦ first x o.job job (ended job os) (ended job (o ∷ os)) up.0 (ended-cons job o os) z h
  | inr p ↦ (let l = low job o.job os up.1 p in let le = up.0 in omega arith)
]
  where
    first : (x y job rest all : ℕ) → x ≤ y → all ≡ cond (y == job) 1 0 + rest → rest ≡ 0 → 0 < all → x ≤ job
    first x y job rest all le is z h = grind (arith, nat_tests)

in_range : (x k m rest all : ℕ) → all ≡ cond (x == x) 1 0 + rest → all ≡ between k m x → (k < x) × (x ≤ m)
in_range x k m rest all e is = grind (arith, nat_tests)

some_next : (x k m rest all : ℕ) → k < m → all ≡ cond (x == k + 1) 1 0 + rest → all ≡ between k m (k + 1) → (0 < rest → x ≤ k + 1) → k < x → x ≡ k + 1
some_next x k m rest all lt e is le above = grind (arith, nat_tests)

rest_counts : (x k m job rest all : ℕ) → x ≡ k + 1 → k < m → all ≡ cond (x == job) 1 0 + rest → all ≡ between k m job → rest ≡ between (k + 1) m job
rest_counts x k m job rest all xk lt e is = grind (arith, nat_tests)

nothing_left : (k m : ℕ) → k ≤ m → 0 ≡ between k m (k + 1) → k ≡ m
nothing_left k m le e = grind (arith, nat_tests)

in_order_from : (os : List Outcome) (k m : ℕ) → k ≤ m → Ascends 0 os → ((job : ℕ) → ended job os ≡ between k m job) → InOrder k os × (length os + k ≡ m)
in_order_from [] k m le up once = (tt, let e = nothing_left k m le (once (k + 1)) in omega arith)
in_order_from (o ∷ os) k m le up once =
    let x : ℕ = o.job in
    let r = in_range x k m (ended x os) (ended x (o ∷ os)) (ended-cons x o os) (once x) in
    let lt : k < m = omega arith in
    let xk = some_next x k m (ended (k + 1) os) (ended (k + 1) (o ∷ os)) lt (ended-cons (k + 1) o os) (once (k + 1)) (low (k + 1) x os up.1) r.0 in
    let rest = in_order_from os (k + 1) m (omega arith) (lower x os up.1) (λ job. rest_counts x k m job (ended job os) (ended job (o ∷ os)) xk lt (ended-cons job o os) (once job)) in
    ((xk, rest.0), (let l = rest.1 in omega arith))
  where
    lower : (x : ℕ) (os : List Outcome) → Ascends x os → Ascends 0 os
    lower x [] up = tt
    lower x (o ∷ os) up = (zero-le, up.1)

pub in_order : (os : List Outcome) (m : ℕ) → Ascends 0 os → ((job : ℕ) → ended job os ≡ once_to m job) → InOrder 0 os × (length os ≡ m)
in_order os m up once = let r = in_order_from os 0 m zero-le up (λ job. once job ∙ between_none m job) in (r.0, (let l = r.1 in omega arith))

-- the outcome at a place
pub at_place : (os : List Outcome) (k i : ℕ) (d : Outcome) → InOrder k os → i < length os → (get_or os i d).job ≡ k + i + 1
at_place [] k i d up h = absurd (omega arith)
at_place (o ∷ os) k zero d up h = let e = up.0 in omega arith
at_place (o ∷ os) k (suc i) d up h = let e = at_place os (k + 1) i d up.1 (omega arith) in omega arith

pub ascends : (os : List Outcome) (x : ℕ) → ((k : ℕ) (d : Outcome) → k < length os → x ≤ (get_or os 0 d).job) → ((k : ℕ) (d : Outcome) → k + 1 < length os → (get_or os k d).job ≤ (get_or os (k + 1) d).job) → Ascends x os
ascends [] x first up = tt
ascends (o ∷ os) x first up = (first 0 o (omega arith), ascends os o.job (λ k d h. subst (λ i. o.job ≤ (get_or (o ∷ os) i d).job) (one) (up 0 d (omega arith))) (λ k d h. up_more k d h))
  where
    one : 0 + 1 ≡ suc 0
    one = omega arith

    up_more : (k : ℕ) (d : Outcome) → k + 1 < length os → (get_or os k d).job ≤ (get_or os (k + 1) d).job
    up_more k d h = let e : suc k + 1 ≡ suc (k + 1) = omega arith in subst (λ i. (get_or os k d).job ≤ (get_or (o ∷ os) i d).job) e (up (suc k) d (omega arith))
