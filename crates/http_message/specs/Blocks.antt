-- Heads, trailer parts and chunk lines by their ends alone: an empty line, or a line feed (RFC 9112, sections 2.2 and 7.1).
use Rattle.std.specs.Prelude.{◌≡◌, ℕ, ◌+◌, ◌-◌, ◌<◌, ◌≤◌, Bool, true, false, ◌&&◌, ◌||◌, ◌==◌, List, length, slice_index}
use Rattle.http_message.specs.declared.block.Ending.{Ending}
use Rattle.http_message.specs.declared.block.Ending.TheVariants.{EmptyLine, LineFeed}
use Rattle.http_message.specs.Outcome.{Outcome, bad_answer, unfinished, head_too_long}

abbrev pub line_feed : ℕ
line_feed = 10

abbrev pub carriage_return : ℕ
carriage_return = 13

-- most bytes of a head, a trailer part or a chunk line
abbrev pub most_bytes : ℕ
most_bytes = 65536

-- most header lines of a head or a trailer part
abbrev pub most_lines : ℕ
most_lines = 100

-- the byte at i begins a line
abbrev pub begins_line : List ℕ → ℕ → Bool
begins_line bytes i = i == 0 || slice_index bytes (i - 1) == line_feed

-- the line feed at i ends an empty line, with a carriage return before it or without
abbrev pub ends_empty_line : List ℕ → ℕ → Bool
ends_empty_line bytes i = slice_index bytes i == line_feed
    && (begins_line bytes i || (slice_index bytes (i - 1) == carriage_return && begins_line bytes (i - 1)))

-- a block ends at i: a head or a trailer part with its first empty line, a chunk line with its line feed
abbrev pub ends_at : Ending → List ℕ → ℕ → Bool
ends_at EmptyLine bytes i = ends_empty_line bytes i
ends_at LineFeed bytes i = slice_index bytes i == line_feed

-- no block ends below n
abbrev pub HasNoEnd : Ending → List ℕ → ℕ → Type 0
HasNoEnd ending bytes n = (i : ℕ) → i < n → ends_at ending bytes i ≡ false

-- the first n bytes are a block: they end at its first end, and are at most 65,536
pub record IsBlock (ending : Ending) (bytes : List ℕ) (n : ℕ) : Type 0 where
  pub within : n ≤ length bytes
  pub some : 0 < n
  pub most : n ≤ most_bytes
  pub ends : ends_at ending bytes (n - 1) ≡ true
  pub first : HasNoEnd ending bytes (n - 1)

-- No block is at the front. That is a bad answer once the end has come, and a head that is too long
-- once 65,537 bytes have; before, it is unfinished.
abbrev pub HasNoBlock : Ending → Outcome → List ℕ → Bool → Type 0
HasNoBlock ending bad_answer bytes ended = (ended ≡ true) × (length bytes ≤ most_bytes) × HasNoEnd ending bytes (length bytes)
HasNoBlock ending unfinished bytes ended = (ended ≡ false) × (length bytes ≤ most_bytes) × HasNoEnd ending bytes (length bytes)
HasNoBlock ending (head_too_long n) bytes ended = (n ≡ most_bytes + 1) × (most_bytes < length bytes) × HasNoEnd ending bytes most_bytes
HasNoBlock ending _ bytes ended = ⊥
