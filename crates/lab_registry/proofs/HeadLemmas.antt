-- Heads that are read byte by byte.
use Rattle.std.proofs.Common.{◌≡◌, ◌+◌, ◌-◌, ◌<◌, ◌≤◌, ◌⊎◌, inl, inr, ⊎_elim, ℕ, zero, suc, List, [], ◌∷◌, ◌++◌, length, take, slice_index, Option, Some, None, IsTrue, IsFalse, subst, sym, ap, ◌∙◌, append_assoc, append-nil, length-append, eq-zero-or-pos, arith, refl}
use Rattle.std.proofs.lemmas.List.{take-append-le, take_all}
use Rattle.std.specs.Io.KnownBytes.{Consumes, IsAtEnd}
use Rattle.lab_registry.specs.Heads.{head_max, ends_blank, HasNoEnd, IsHead, TakesHead, RunsLong, IsCut}

-- what was taken so far, with no end in it
pub record IsReading (before now : Option (List ℕ)) (head : List ℕ) (count : ℕ) : Type 0 where
  pub taken : Consumes before now head
  pub endless : HasNoEnd head
  pub many : length head ≡ count

taken-none : (known : Option (List ℕ)) → Consumes known known []
taken-none None = tt
taken-none (Some xs) = refl

taken-then : (a b c : Option (List ℕ)) (xs ys : List ℕ) → Consumes a b xs → Consumes b c ys → Consumes a c (xs ++ ys)
taken-then None b c xs ys p q = tt
taken-then (Some u) (Some v) (Some w) xs ys p q = p ∙ ap (λ t. xs ++ t) q ∙ sym (append_assoc xs ys w)
taken-then (Some u) (Some v) None xs ys p q = q
taken-then (Some u) None c xs ys p q = absurd p

no_end-none : HasNoEnd []
no_end-none zero = refl
no_end-none (suc n) = refl

-- a front of more bytes is a front of the first ones, or all of them
take_more : (n : ℕ) (xs : List ℕ) (x : ℕ) → (take n (xs ++ x ∷ []) ≡ take n xs) ⊎ (take n (xs ++ x ∷ []) ≡ xs ++ x ∷ [])
take_more n xs x = ⊎_elim
    (λ none. inl (take-append-le n xs (x ∷ []) (omega (arith, none))))
    (λ some. inr (take_all n (xs ++ x ∷ []) (omega (arith, some, length-append xs (x ∷ [])))))
    (eq-zero-or-pos (n - length xs))

no_end-more : (xs : List ℕ) (x : ℕ) → HasNoEnd xs → IsFalse (ends_blank (xs ++ x ∷ [])) → HasNoEnd (xs ++ x ∷ [])
no_end-more xs x endless not n = ⊎_elim
    (λ e. ap ends_blank e ∙ endless n)
    (λ e. ap ends_blank e ∙ not)
    (take_more n xs x)

is_head : (xs : List ℕ) (x : ℕ) → HasNoEnd xs → IsTrue (ends_blank (xs ++ x ∷ [])) → IsHead (xs ++ x ∷ [])
is_head xs x endless ends = record {
  ends = ends;
  first = λ n less. ap ends_blank (take-append-le n xs (x ∷ []) (omega (arith, less, length-append xs (x ∷ [])))) ∙ endless n;
}

-- a read of one byte
one_byte : (n : ℕ) (buf : List ℕ) → length buf ≡ 1 → n ≤ length buf → 0 < n → take n buf ≡ slice_index buf 0 ∷ []
one_byte n (x ∷ []) one few some = take_all n (x ∷ []) (omega (arith, some))
one_byte n [] one few some = absurd (omega (arith, one))
one_byte n (x ∷ y ∷ ys) one few some = absurd (omega (arith, one))

takes_byte : (a b c : Option (List ℕ)) (xs : List ℕ) (n : ℕ) (buf : List ℕ) → length buf ≡ 1 → n ≤ length buf → 0 < n → Consumes a b xs → Consumes b c (take n buf) → Consumes a c (xs ++ slice_index buf 0 ∷ [])
takes_byte a b c xs n buf one few some p q =
    taken-then a b c xs (slice_index buf 0 ∷ []) p (subst (λ t. Consumes b c t) (one_byte n buf one few some) q)

pub begins : (known : Option (List ℕ)) → IsReading known known [] 0
begins known = record { taken = taken-none known; endless = no_end-none; many = refl }

pub goes_on : (a b c : Option (List ℕ)) (xs : List ℕ) (count n : ℕ) (buf : List ℕ) → IsReading a b xs count → length buf ≡ 1 → n ≤ length buf → 0 < n → Consumes b c (take n buf) → IsFalse (ends_blank (xs ++ slice_index buf 0 ∷ [])) → IsReading a c (xs ++ slice_index buf 0 ∷ []) (count + 1)
goes_on a b c xs count n buf so one few some taken not = record {
  taken = takes_byte a b c xs n buf one few some so.taken taken;
  endless = no_end-more xs (slice_index buf 0) so.endless not;
  many = length-append xs (slice_index buf 0 ∷ []) ∙ ap (λ k. k + 1) so.many;
}

pub ends_here : (a b c : Option (List ℕ)) (xs : List ℕ) (count n : ℕ) (buf : List ℕ) → IsReading a b xs count → count < head_max → length buf ≡ 1 → n ≤ length buf → 0 < n → Consumes b c (take n buf) → IsTrue (ends_blank (xs ++ slice_index buf 0 ∷ [])) → TakesHead a c (xs ++ slice_index buf 0 ∷ [])
ends_here a b c xs count n buf so less one few some taken ends = record {
  is_head = is_head xs (slice_index buf 0) so.endless ends;
  few = omega (arith, less, so.many, length-append xs (slice_index buf 0 ∷ []));
  taken = takes_byte a b c xs n buf one few some so.taken taken;
}

pub is_cut : (a b c : Option (List ℕ)) (xs : List ℕ) (count : ℕ) (buf : List ℕ) → IsReading a b xs count → Consumes b c (take 0 buf) → IsAtEnd c → IsCut a c
is_cut a b c xs count buf so taken end = record {
  bytes = xs;
  endless = so.endless;
  taken = subst (λ t. Consumes a c t) (append-nil xs) (taken-then a b c xs [] so.taken taken);
  nothing = end;
}

pub runs_long : (a b : Option (List ℕ)) (xs : List ℕ) (count : ℕ) → IsReading a b xs count → count ≡ head_max → RunsLong a b
runs_long a b xs count so all = record { bytes = xs; all = so.many ∙ all; endless = so.endless; taken = so.taken }
