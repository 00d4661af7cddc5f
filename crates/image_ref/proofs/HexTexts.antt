-- Lower-case hexadecimal digits spell one list of bytes, and are spelled by it.
use Rattle.std.proofs.Common.{◌≡◌, ℕ, zero, suc, ◌+◌, ◌*◌, ◌/◌, ◌%◌, ◌<◌, ◌==◌, Bool, true, false, ◌&&◌, ◌||◌, not, List, [], ◌∷◌, slice_index, Option, Some, None, unwrap_or, Result, Ok, Err, refl, ap, arith, inl, inr}
use Rattle.std.proofs.lemmas.Bool.{and_parts, cases_lt, eqb-true}
use Rattle.std.proofs.lemmas.List.Elements.{All-cons, All-head, All-nil, All-tail}
use Rattle.std.proofs.lemmas.Bool.Decides.{nat_tests}
use Rattle.std.specs.List.{AllPass}
use Rattle.std.specs.Result.{result_unwrap_or}
use Rattle.hex.specs.Hex.{IsBytes, decode_pairs, digit_or_error, hex_digit_value, is_hex_digit, encode_lower, encode_with, lower_digits, pair_value, value_at, ◌>>=◌}
use Rattle.hex.specs.declared.error.FromHexError.{FromHexError}
use Rattle.image_ref.specs.Digest.{is_lower_digit}

-- ---- the sixteen digits, by a test that computes

abbrev pub spelled_back : ℕ → Bool
spelled_back c = not (is_lower_digit c) || (slice_index lower_digits (unwrap_or (hex_digit_value c) 99) == c)

abbrev pub all_spelled_back : ℕ → Bool
all_spelled_back zero = true
all_spelled_back (suc n) = spelled_back n && all_spelled_back n

all_spelled_back-at : (n k : ℕ) → all_spelled_back n ≡ true → k < n → spelled_back k ≡ true
all_spelled_back-at zero k h lt = absurd (omega arith)
all_spelled_back-at (suc n) k h lt =
    let parts = and_parts (spelled_back n) (all_spelled_back n) h in
    elim (cases_lt k n) [
      | inl below ↦ all_spelled_back-at n k parts.1 below
      | inr top ↦ let e : k ≡ n = omega arith in rw e parts.0
    ]

lower_digit-small : (c : ℕ) → is_lower_digit c ≡ true → c < 103
lower_digit-small c h = grind (arith, nat_tests)

or_second : (a b : Bool) → (not a || b) ≡ true → a ≡ true → b ≡ true
or_second true b h e = h
or_second false b h e = cc e

-- a lower-case digit is the digit of its value
digit_of_value : (c v : ℕ) → is_lower_digit c ≡ true → hex_digit_value c ≡ Some v → slice_index lower_digits v ≡ c
digit_of_value c v h e =
    let here = or_second (is_lower_digit c) _ (all_spelled_back-at 103 c refl (lower_digit-small c h)) h in
    eqb-true (slice_index lower_digits v) c (rw e at here)

abbrev pub all_lower : ℕ → Bool
all_lower zero = true
all_lower (suc n) = is_lower_digit (slice_index lower_digits n) && all_lower n

all_lower-at : (n k : ℕ) → all_lower n ≡ true → k < n → is_lower_digit (slice_index lower_digits k) ≡ true
all_lower-at zero k h lt = absurd (omega arith)
all_lower-at (suc n) k h lt =
    let parts = and_parts (is_lower_digit (slice_index lower_digits n)) (all_lower n) h in
    elim (cases_lt k n) [
      | inl below ↦ all_lower-at n k parts.1 below
      | inr top ↦ let e : k ≡ n = omega arith in rw e parts.0
    ]

pub lower_is_hex : (c : ℕ) → is_lower_digit c ≡ true → is_hex_digit c ≡ true
lower_is_hex c h = grind (arith, nat_tests)

abbrev pub lower_holds : ℕ → Type 0
lower_holds c = is_lower_digit c ≡ true

-- ---- texts of digits

bind_ok : {A B : Type 0} (r : Result A FromHexError) (f : A → Result B FromHexError) (y : B) → (r >>= f) ≡ Ok y → (x : A) × (r ≡ Ok x) × (f x ≡ Ok y)
bind_ok (Ok x) f y h = (x, refl, h)
bind_ok (Err e) f y h = cc h

digit_read : (c i : ℕ) (o : Option ℕ) (v : ℕ) → digit_or_error c i o ≡ Ok v → o ≡ Some v
digit_read c i (Some w) v h = ap Some (ap (λ (r : Result ℕ FromHexError). result_unwrap_or r 0) h)
digit_read c i None v h = cc h

value-small : (c v : ℕ) → hex_digit_value c ≡ Some v → v < 16
value-small c v h = grind (arith)

-- lower-case digits are spelled by the bytes that they decode to
pub encode-decoded : (i : ℕ) (s bytes : List ℕ) → decode_pairs i s ≡ Ok bytes → AllPass is_lower_digit s → encode_lower bytes ≡ s
unfolding decode_pairs encode_with
encode-decoded i [] bytes h lower =
    let e : [] ≡ bytes = ap (λ (r : Result (List ℕ) FromHexError). result_unwrap_or r []) h in
    rw (← e) refl
encode-decoded i (a ∷ []) bytes h lower = cc h
encode-decoded i (a ∷ b ∷ rest) bytes h lower =
    let p0 = bind_ok (pair_value a b i) _ bytes h in
    let p1 = bind_ok (value_at a i) _ p0.0 p0.1 in
    let p2 = bind_ok (value_at b (i + 1)) _ p0.0 p1.2 in
    let p3 = bind_ok (decode_pairs (i + 2) rest) _ bytes p0.2 in
    let e : p0.0 ∷ p3.0 ≡ bytes = ap (λ (r : Result (List ℕ) FromHexError). result_unwrap_or r []) p3.2 in
    let tail = All-tail lower_holds a (b ∷ rest) lower in
    let ih = encode-decoded (i + 2) rest p3.0 p3.1 (All-tail lower_holds b rest tail) in
    let va = digit_read a i (hex_digit_value a) p1.0 p1.1 in
    let vb = digit_read b (i + 1) (hex_digit_value b) p2.0 p2.1 in
    let sa = value-small a p1.0 va in
    let sb = value-small b p2.0 vb in
    let byte : p1.0 * 16 + p2.0 ≡ p0.0 = ap (λ (r : Result ℕ FromHexError). result_unwrap_or r 0) p2.2 in
    let high : p0.0 / 16 ≡ p1.0 = omega arith in
    let low : p0.0 % 16 ≡ p2.0 = omega arith in
    let da = digit_of_value a p1.0 (All-head lower_holds a (b ∷ rest) lower) va in
    let db = digit_of_value b p2.0 (All-head lower_holds b rest tail) vb in
    rw (← e, high, low, da, db, ih) refl

-- the digits of bytes are in lower case
pub encode-lower : (bytes : List ℕ) → IsBytes bytes → AllPass is_lower_digit (encode_lower bytes)
unfolding encode_with
encode-lower [] h = All-nil lower_holds
encode-lower (b ∷ rest) h =
    let fits : b < 256 = h 0 in
    All-cons lower_holds (slice_index lower_digits (b / 16)) (slice_index lower_digits (b % 16) ∷ encode_lower rest) (all_lower-at 16 (b / 16) refl (omega arith))
    (All-cons lower_holds (slice_index lower_digits (b % 16)) (encode_lower rest) (all_lower-at 16 (b % 16) refl (omega arith)) (encode-lower rest (λ i. h (suc i))))
