-- Visible bytes (RFC 5234, VCHAR).
use Rattle.std.specs.Prelude.{ℕ, Bool, ◌&&◌, nat_le, List}
use Rattle.std.specs.List.{list_all}

-- each byte shows on paper: no blank, no line end, no control
abbrev pub are_visible : List ℕ → Bool
are_visible text = list_all (λ b. nat_le 33 b && nat_le b 126) text
