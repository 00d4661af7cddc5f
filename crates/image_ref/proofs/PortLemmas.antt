-- A port's digits and its number.
use Rattle.std.proofs.Common.{◌≡◌, ℕ, ◌+◌, ◌*◌, ◌-◌, ◌<◌, ◌≤◌, ◌^◌, true, List, length, Result, Ok, Err, refl, arith}
use Rattle.std.specs.List.{list_all, fold}
use Rattle.std.specs.Int.{IsInRange}
use Rattle.std.specs.Str.Parse.{ParsesUnsigned}
use Rattle.std.proofs.lemmas.Bool.{and_parts}
use Rattle.std.proofs.lemmas.Bool.Decides.{nat_tests}
use Rattle.std.proofs.lemmas.Str.Parse.{IsNumeralModel, IsDigitsTest, FoldsDigits, numerals_by_fold, parse_gives, digits_value_short}
use Rattle.image_ref.specs.Characters.{is_digit}
use Rattle.image_ref.specs.Domain.{number}

abbrev number_from : ℕ → List ℕ → ℕ
number_from n text = fold (λ n b. 10 * n + (b - 48)) n text

digit_range : (b : ℕ) → is_digit b ≡ true → IsInRange 48 57 b
digit_range b h = grind (arith, nat_tests)

digit_test : (b : ℕ) → IsInRange 48 57 b → is_digit b ≡ true
digit_test b h = grind (arith, nat_tests)

digits : IsDigitsTest (λ text. list_all is_digit text ≡ true)
digits = record {
  empty = refl;
  parts = λ c cs h. let p = and_parts (is_digit c) (list_all is_digit cs) h in (digit_range c p.0, p.1);
  more = λ c cs r h. rw (digit_test c r, h) refl;
}

folds : FoldsDigits number_from
folds = record {
  empty = λ n. refl;
  more = λ n c cs r. let e : 10 * n + (c - 48) ≡ n * 10 + (c - 48) = omega arith in rw e refl;
}

own : IsNumeralModel (λ text. list_all is_digit text ≡ true) number
own = numerals_by_fold _ digits number_from folds

pub parsed : {E : Type 0} (text : List ℕ) (r : Result ℕ E) → ParsesUnsigned 32 10 text r → list_all is_digit text ≡ true → 0 < length text → length text ≤ 5 → r ≡ Ok (number text)
parsed text r h d some few = let small : number text < 10 ^ 5 = digits_value_short own text 5 d few in parse_gives own 32 text r h d some (omega arith)

pub ok_same : {E : Type 0} (r : Result ℕ E) (m n : ℕ) → r ≡ Ok m → r ≡ Ok n → n ≡ m
ok_same r m n h k = cc

pub ok_is_no_err : {E : Type 0} (r : Result ℕ E) (m : ℕ) (e : E) → r ≡ Ok m → r ≡ Err e → ⊥
ok_is_no_err r m e h k = cc
