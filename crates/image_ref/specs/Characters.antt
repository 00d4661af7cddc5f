-- The bytes of names.
use Rattle.std.specs.Prelude.{ℕ, Bool, ◌&&◌, ◌||◌, nat_le}

abbrev pub is_digit : ℕ → Bool
is_digit b = nat_le 48 b && nat_le b 57

abbrev pub is_lower : ℕ → Bool
is_lower b = nat_le 97 b && nat_le b 122

abbrev pub is_upper : ℕ → Bool
is_upper b = nat_le 65 b && nat_le b 90

-- `a` to `z` and `0` to `9`
abbrev pub is_run_byte : ℕ → Bool
is_run_byte b = is_lower b || is_digit b

-- letters and digits
abbrev pub is_alphanumeric : ℕ → Bool
is_alphanumeric b = is_run_byte b || is_upper b

abbrev pub slash : ℕ
slash = 47

abbrev pub colon : ℕ
colon = 58

abbrev pub at_sign : ℕ
at_sign = 64

abbrev pub dot : ℕ
dot = 46

abbrev pub dash : ℕ
dash = 45

abbrev pub underscore : ℕ
underscore = 95

abbrev pub plus : ℕ
plus = 43
