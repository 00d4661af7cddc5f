-- A body in chunks: chunks with bytes, the last chunk, whose size is 0, and the trailer part (RFC 9112, section 7.1).
use Rattle.std.specs.Prelude.{◌≡◌, ℕ, zero, suc, ◌+◌, ◌-◌, ◌<◌, ◌≤◌, ◌⊎◌, Bool, List, [], ◌++◌, length, drop}
use Rattle.http_message.specs.Chunks.{StartsWithChunkLine, NoChunkLine, StartsWithTrailer, NoTrailer, StartsWithData, NoData, Overflows}
use Rattle.http_message.specs.Outcome.{Outcome}

-- the bytes begin with a chunk that is not the last: its line, its own bytes, and then the rest
pub record OneChunk (bytes body rest : List ℕ) : Type 0 where
  pub n : ℕ
  pub size : ℕ
  pub line : StartsWithChunkLine bytes n size
  pub not_last : 0 < size
  pub content : StartsWithData (drop n bytes) body size
  pub rest_is : rest ≡ drop (size + 2) (drop n bytes)

-- so many chunks that are not the last, all their own bytes, and then the rest
abbrev pub Chunks : ℕ → List ℕ → List ℕ → List ℕ → Type 0
Chunks zero bytes body rest = (body ≡ []) × (rest ≡ bytes)
Chunks (suc count) bytes body rest = (earlier : List ℕ) × (here : List ℕ) × (last : List ℕ)
    × Chunks count bytes earlier here × OneChunk here last rest × (body ≡ earlier ++ last)

-- the bytes begin with the last chunk's line, of n bytes, and the trailer part, of m
pub record LastChunk (bytes : List ℕ) : Type 0 where
  pub n : ℕ
  pub line : StartsWithChunkLine bytes n 0
  pub m : ℕ
  pub trailer : StartsWithTrailer (drop n bytes) m

-- the bytes begin with a body in chunks, which is within the limit
pub record ChunkedBody (limit : ℕ) (body all : List ℕ) : Type 0 where
  pub count : ℕ
  pub here : List ℕ
  pub chunks : Chunks count all body here
  pub last : LastChunk here
  pub within : length body ≤ limit

-- what is at fault behind the line of a chunk of this size, when the body had so many bytes before
pub data NoContent (limit had size : ℕ) (o : Outcome) (bytes : List ℕ) (ended : Bool) : Type 0 where
  no_trailer : size ≡ 0 → NoTrailer o bytes ended → NoContent limit had size o bytes ended
  no_data : 0 < size → had + size ≤ limit → NoData size o bytes ended → NoContent limit had size o bytes ended
  overflows : 0 < size → limit < had + size → Overflows (limit - had) limit o bytes ended → NoContent limit had size o bytes ended

-- what is at fault where the next chunk should stand
abbrev pub NoNextChunk : ℕ → ℕ → Outcome → List ℕ → Bool → Type 0
NoNextChunk limit had o bytes ended =
    NoChunkLine o bytes ended
    ⊎ ((n : ℕ) × (size : ℕ) × StartsWithChunkLine bytes n size × NoContent limit had size o (drop n bytes) ended)

-- the bytes do not begin with such a body: some chunks do come, within the limit, and the next one is at fault
pub record NoChunkedBody (limit : ℕ) (o : Outcome) (all : List ℕ) (ended : Bool) : Type 0 where
  pub count : ℕ
  pub had : List ℕ
  pub here : List ℕ
  pub chunks : Chunks count all had here
  pub within : length had ≤ limit
  pub why : NoNextChunk limit (length had) o here ended
