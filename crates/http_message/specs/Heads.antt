-- The head of an answer (RFC 9112, section 4), and the interim heads before it (RFC 9110, section 15.2).
use Rattle.std.specs.Prelude.{◌≡◌, ℕ, zero, suc, ◌+◌, ◌-◌, ◌<◌, ◌≤◌, ◌⊎◌, Bool, true, false, ◌==◌, List, take, drop, map, count_by, ◌&&◌, nat_le, []}
use Rattle.httparse.specs.Grammar.{ResponseHead, ReadsResponse, status_code}
use Rattle.httparse.specs.Spans.{name_and_value}
use Rattle.http_message.specs.declared.block.Ending.TheVariants.{EmptyLine}
use Rattle.http_message.specs.Blocks.{line_feed, most_lines, IsBlock, HasNoBlock}
use Rattle.http_message.specs.Outcome.{Outcome, Header, bad_answer, headers_too_many}

-- the lines of a block that are not empty, but for the first; its last line is the empty one
abbrev pub header_lines : List ℕ → ℕ
header_lines block = count_by (λ b. b == line_feed) block - 2

-- the bytes are this head by the grammar of `httparse`, all of them
abbrev pub IsHead : List ℕ → ResponseHead → Type 0
IsHead block h = ReadsResponse block h []

-- the header lines of a head
abbrev pub headers_of : ResponseHead → List Header
headers_of h = map name_and_value h.fields

-- What is wrong with a block that is no head: it has more than 100 header lines, or else it is in no grammar.
abbrev pub IsWrongHead : Outcome → List ℕ → Type 0
IsWrongHead (headers_too_many n) block = (most_lines < header_lines block) × (n ≡ header_lines block)
IsWrongHead bad_answer block = (header_lines block ≤ most_lines) × ((h : ResponseHead) → ¬ (IsHead block h))
IsWrongHead _ block = ⊥

-- the first n bytes are the head h
pub record StartsWithHead (bytes : List ℕ) (n : ℕ) (h : ResponseHead) : Type 0 where
  pub block : IsBlock EmptyLine bytes n
  pub lines : header_lines (take n bytes) ≤ most_lines
  pub head : IsHead (take n bytes) h

-- no head is at the front: no block is there, or one that is no head
abbrev pub HasNoHead : Outcome → List ℕ → Bool → Type 0
HasNoHead o bytes ended =
    HasNoBlock EmptyLine o bytes ended ⊎ ((n : ℕ) × IsBlock EmptyLine bytes n × IsWrongHead o (take n bytes))

-- a status of 100 to 199: another head follows
abbrev pub is_interim : ℕ → Bool
is_interim status = nat_le 100 status && nat_le status 199

-- most interim heads before an answer's own
abbrev pub most_interim : ℕ
most_interim = 8

-- so many interim heads are at the front, and then comes the rest
abbrev pub InterimHeads : ℕ → List ℕ → List ℕ → Type 0
InterimHeads zero bytes rest = rest ≡ bytes
InterimHeads (suc count) bytes rest = (n : ℕ) × (g : ResponseHead) × StartsWithHead bytes n g
    × (is_interim (status_code g) ≡ true) × InterimHeads count (drop n bytes) rest

-- at most so many interim heads, then the head h that is none, and then the rest
pub record HasFinalHead (skips : ℕ) (bytes : List ℕ) (h : ResponseHead) (rest : List ℕ) : Type 0 where
  pub count : ℕ
  pub count_fits : count ≤ skips
  pub here : List ℕ
  pub passed : InterimHeads count bytes here
  pub n : ℕ
  pub head : StartsWithHead here n h
  pub final : is_interim (status_code h) ≡ false
  pub rest_is : rest ≡ drop n here

-- There is no such head: none is behind the interim ones, or there is one interim head too many, a bad answer.
pub record HasNoFinalHead (skips : ℕ) (o : Outcome) (bytes : List ℕ) (ended : Bool) : Type 0 where
  pub count : ℕ
  pub here : List ℕ
  pub passed : InterimHeads count bytes here
  pub why : ((count ≤ skips) × HasNoHead o here ended) ⊎ ((count ≡ skips + 1) × (o ≡ bad_answer))
