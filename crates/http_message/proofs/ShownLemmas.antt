-- The first bytes of a value.
use Rattle.std.proofs.Common.{◌≡◌, ℕ, List, length, take, min, arith, ap, ◌∙◌}
use Rattle.std.proofs.lemmas.List.{take_min}
use Rattle.http_message.specs.Faults.{shown}

min_turned : (a b : ℕ) → min a b ≡ min b a
min_turned a b = omega arith

pub shown_front : (n : ℕ) (xs : List ℕ) → n ≡ min (length xs) 64 → take n xs ≡ shown xs
shown_front n xs e = ap (λ (k : ℕ). take k xs) (e ∙ min_turned (length xs) 64) ∙ take_min 64 xs
