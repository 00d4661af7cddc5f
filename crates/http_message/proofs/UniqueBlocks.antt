-- At most one block stands at the front, and else at most one fault.
use Rattle.std.proofs.Common.{◌≡◌, ℕ, suc, zero, ◌-◌, ◌<◌, ◌≤◌, ◌⊎◌, inl, inr, Bool, true, false, List, length, refl, arith, ap, sym, ◌∙◌}
use Rattle.http_message.specs.declared.block.Ending.{Ending}
use Rattle.http_message.specs.Outcome.{Outcome, answer, bad_answer, encoded, unfinished, head_too_long, headers_too_many, body_too_long}
use Rattle.http_message.specs.Blocks.{IsBlock, HasNoBlock}

pub true_is_not_false : (b : Bool) → b ≡ true → b ≡ false → ⊥
true_is_not_false b t f = cc

pub le_or_lt : (d c : ℕ) → (d ≤ c) ⊎ (c < d)
le_or_lt zero c = inl (omega arith)
le_or_lt (suc d) zero = inr (omega arith)
le_or_lt (suc d) (suc c) = elim (le_or_lt d c) [ inl h ↦ inl (omega arith) | inr h ↦ inr (omega arith) ]

block_not_less : (e : Ending) (bytes : List ℕ) (n m : ℕ) → n < m → IsBlock e bytes n → IsBlock e bytes m → ⊥
block_not_less e bytes n m less is other = true_is_not_false _ is.ends (other.first (n - 1) (omega (arith, less, is.some)))

pub block_unique : (e : Ending) (bytes : List ℕ) (n m : ℕ) → IsBlock e bytes n → IsBlock e bytes m → n ≡ m
block_unique e bytes n m is other = by_order (le_or_lt n m) (le_or_lt m n)
  where
    by_order : (n ≤ m) ⊎ (m < n) → (m ≤ n) ⊎ (n < m) → n ≡ m
    by_order (inl a) (inl b) = omega arith
    by_order (inl a) (inr b) = absurd (block_not_less e bytes n m b is other)
    by_order (inr a) b = absurd (block_not_less e bytes m n a other is)

pub no_block : (e : Ending) (o : Outcome) (bytes : List ℕ) (ended : Bool) (n : ℕ) → HasNoBlock e o bytes ended → IsBlock e bytes n → ⊥
no_block e bad_answer bytes ended n none is = true_is_not_false _ is.ends (none.2 (n - 1) (omega (arith, is.within, is.some)))
no_block e unfinished bytes ended n none is = true_is_not_false _ is.ends (none.2 (n - 1) (omega (arith, is.within, is.some)))
no_block e (head_too_long k) bytes ended n none is = true_is_not_false _ is.ends (none.2 (n - 1) (omega (arith, is.some, is.most)))
no_block e encoded bytes ended n none is = none
no_block e (answer r) bytes ended n none is = none
no_block e (headers_too_many k) bytes ended n none is = none
no_block e (body_too_long k) bytes ended n none is = none

-- why there is no block, and how far that goes
data WhyNone (o : Outcome) (size : ℕ) (ended : Bool) : Type 0 where
  was_ended : o ≡ bad_answer → size ≤ 65536 → ended ≡ true → WhyNone o size ended
  goes_on : o ≡ unfinished → size ≤ 65536 → ended ≡ false → WhyNone o size ended
  too_long : o ≡ head_too_long 65537 → 65536 < size → WhyNone o size ended

why_none : (e : Ending) (o : Outcome) (bytes : List ℕ) (ended : Bool) → HasNoBlock e o bytes ended → WhyNone o (length bytes) ended
why_none e bad_answer bytes ended none = was_ended refl none.1 none.0
why_none e unfinished bytes ended none = goes_on refl none.1 none.0
why_none e (head_too_long k) bytes ended none = too_long (ap head_too_long none.0) none.1
why_none e encoded bytes ended none = absurd none
why_none e (answer r) bytes ended none = absurd none
why_none e (headers_too_many k) bytes ended none = absurd none
why_none e (body_too_long k) bytes ended none = absurd none

one_why : (o p : Outcome) (size : ℕ) (ended : Bool) → WhyNone o size ended → WhyNone p size ended → o ≡ p
one_why o p size ended (was_ended a b c) (was_ended x y z) = a ∙ sym x
one_why o p size ended (was_ended a b c) (goes_on x y z) = absurd (true_is_not_false _ c z)
one_why o p size ended (was_ended a b c) (too_long x y) = absurd (omega arith)
one_why o p size ended (goes_on a b c) (was_ended x y z) = absurd (true_is_not_false _ z c)
one_why o p size ended (goes_on a b c) (goes_on x y z) = a ∙ sym x
one_why o p size ended (goes_on a b c) (too_long x y) = absurd (omega arith)
one_why o p size ended (too_long a b) (was_ended x y z) = absurd (omega arith)
one_why o p size ended (too_long a b) (goes_on x y z) = absurd (omega arith)
one_why o p size ended (too_long a b) (too_long x y) = a ∙ sym x

pub no_block_unique : (e : Ending) (o p : Outcome) (bytes : List ℕ) (ended : Bool) → HasNoBlock e o bytes ended → HasNoBlock e p bytes ended → o ≡ p
no_block_unique e o p bytes ended x y = one_why o p (length bytes) ended (why_none e o bytes ended x) (why_none e p bytes ended y)
