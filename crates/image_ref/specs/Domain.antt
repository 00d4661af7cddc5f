-- The host of a reference, with its port.
--
--   domain = label {"." label} [":" port]
--   label  = letters, digits and inner "-", at least one
--   port   = 1 to 5 digits, of a value from 1 to 65535
use Rattle.std.specs.Prelude.{◌≡◌, ℕ, ◌*◌, ◌+◌, ◌-◌, List, [], ◌∷◌, ◌++◌, length, Bool, true, ◌&&◌, ◌||◌, ◌==◌, nat_le, Option, Some, None, IfSome, codes, slice_index}
use Rattle.std.specs.List.{All, list_all, list_any, fold, slice_split, join_with_byte}
use Rattle.std.specs.Str.{bytes_eq}
use Rattle.image_ref.specs.Characters.{is_digit, is_alphanumeric, dot, dash, colon}
use Rattle.image_ref.specs.Cuts.{cut_at}

-- a label, as a test
abbrev pub is_label : List ℕ → Bool
is_label text = list_all (λ b. is_alphanumeric b || (b == dash)) text
    && (is_alphanumeric (slice_index text 0)
    && is_alphanumeric (slice_index text (length text - 1)))

-- the number that digits write
abbrev pub number : List ℕ → ℕ
number text = fold (λ n b. 10 * n + (b - 48)) 0 text

-- a port, as a test
abbrev pub is_port : List ℕ → Bool
is_port text = (list_all is_digit text && (nat_le 1 (length text) && nat_le (length text) 5))
    && (nat_le 1 (number text) && nat_le (number text) 65535)

-- a text passes the test, where there is one
abbrev pub passes_or_none : (List ℕ → Bool) → Option (List ℕ) → Bool
passes_or_none test None = true
passes_or_none test (Some text) = test text

-- a text behind a separator, where there is one
abbrev pub after : ℕ → Option (List ℕ) → List ℕ
after c None = []
after c (Some text) = c ∷ text

-- a domain, joined of its labels and its port
pub record IsDomain (text : List ℕ) : Type 0 where
  pub labels : List (List ℕ)
  pub port : Option (List ℕ)
  pub spelled : text ≡ join_with_byte dot labels ++ after colon port
  pub some : labels ≡ [] → ⊥
  pub are_labels : All (λ label. is_label label ≡ true) labels
  pub is_port : IfSome port (λ p. is_port p ≡ true)

-- a domain, as a test
unfoldable pub is_domain : List ℕ → Bool
is_domain text =
    let cut = cut_at colon text in
    list_all is_label (slice_split (λ b. b == dot) cut.0) && passes_or_none is_port cut.1

-- the part before the first slash is a host only where it has this form
abbrev pub looks_like_host : List ℕ → Bool
looks_like_host text =
    list_any (λ b. (b == dot) || (b == colon)) text || bytes_eq text (codes "localhost")
