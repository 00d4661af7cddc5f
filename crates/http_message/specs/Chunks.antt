-- The parts of a body in chunks: chunk lines, the bytes of a chunk, the trailer part (RFC 9112, section 7.1).
use Rattle.std.specs.Prelude.{◌≡◌, ◌≢◌, ℕ, ◌+◌, ◌-◌, ◌<◌, ◌≤◌, ◌⊎◌, Bool, ◌==◌, List, [], ◌∷◌, length, take, drop, count_by}
use Rattle.httparse.specs.Grammar.{ChunkLine, ReadsChunkLine, chunk_size, Field, LineEnd, ReadsSection}
use Rattle.http_message.specs.declared.block.Ending.TheVariants.{EmptyLine, LineFeed}
use Rattle.http_message.specs.Blocks.{line_feed, carriage_return, most_lines, IsBlock, HasNoBlock}
use Rattle.http_message.specs.Bodies.{TooFew}
use Rattle.http_message.specs.Outcome.{Outcome, bad_answer, body_too_long, headers_too_many}

-- the bytes are a chunk line of this size by the grammar of `httparse`, all of them
abbrev pub IsChunkLineOf : List ℕ → ℕ → Type 0
IsChunkLineOf block size = (l : ChunkLine) × ReadsChunkLine block l [] × (size ≡ chunk_size l)

-- they are none
abbrev pub IsWrongChunkLine : Outcome → List ℕ → Type 0
IsWrongChunkLine o block = (o ≡ bad_answer) × ((l : ChunkLine) → ¬ (ReadsChunkLine block l []))

-- the first n bytes are a chunk line of this size
pub record StartsWithChunkLine (bytes : List ℕ) (n size : ℕ) : Type 0 where
  pub block : IsBlock LineFeed bytes n
  pub line : IsChunkLineOf (take n bytes) size

-- no chunk line is at the front: no block is there, or one that is no chunk line
abbrev pub NoChunkLine : Outcome → List ℕ → Bool → Type 0
NoChunkLine o bytes ended = HasNoBlock LineFeed o bytes ended ⊎ ((n : ℕ) × IsBlock LineFeed bytes n × IsWrongChunkLine o (take n bytes))

-- the lines of a trailer part that are not empty; its last line is the empty one
abbrev pub trailer_lines : List ℕ → ℕ
trailer_lines block = count_by (λ b. b == line_feed) block - 1

-- the bytes are a trailer part by the grammar of `httparse`, all of them
abbrev pub IsTrailer : List ℕ → Type 0
IsTrailer block = (fields : List Field) × (last : LineEnd) × ReadsSection block fields last []

-- What is wrong with a block that is none: it has more than 100 lines, or else it is in no grammar.
abbrev pub IsWrongTrailer : Outcome → List ℕ → Type 0
IsWrongTrailer (headers_too_many n) block = (most_lines < trailer_lines block) × (n ≡ trailer_lines block)
IsWrongTrailer bad_answer block = (trailer_lines block ≤ most_lines) × ¬ (IsTrailer block)
IsWrongTrailer _ block = ⊥

-- the first n bytes are a trailer part
pub record StartsWithTrailer (bytes : List ℕ) (n : ℕ) : Type 0 where
  pub block : IsBlock EmptyLine bytes n
  pub lines : trailer_lines (take n bytes) ≤ most_lines
  pub trailer : IsTrailer (take n bytes)

-- no trailer part is at the front: no block is there, or one that is none
abbrev pub NoTrailer : Outcome → List ℕ → Bool → Type 0
NoTrailer o bytes ended = HasNoBlock EmptyLine o bytes ended ⊎ ((n : ℕ) × IsBlock EmptyLine bytes n × IsWrongTrailer o (take n bytes))

-- what closes the bytes of a chunk
abbrev pub closing : List ℕ
closing = carriage_return ∷ line_feed ∷ []

-- the bytes begin with a chunk's, so many, and their closing
pub record StartsWithData (bytes body : List ℕ) (size : ℕ) : Type 0 where
  pub whole : size + 2 ≤ length bytes
  pub body_is : body ≡ take size bytes
  pub closed : take 2 (drop size bytes) ≡ closing

-- They do not: too few came, or both bytes of the closing came, and are another line end.
abbrev pub NoData : ℕ → Outcome → List ℕ → Bool → Type 0
NoData size o bytes ended = TooFew (size + 2) o bytes ended
    ⊎ ((size + 2 ≤ length bytes) × (take 2 (drop size bytes) ≢ closing) × (o ≡ bad_answer))

-- a chunk has more bytes than there is room for: too long once one byte more than the room came
abbrev pub Overflows : ℕ → ℕ → Outcome → List ℕ → Bool → Type 0
Overflows room limit o bytes ended = TooFew (room + 1) o bytes ended ⊎ ((room < length bytes) × (o ≡ body_too_long (limit + 1)))
