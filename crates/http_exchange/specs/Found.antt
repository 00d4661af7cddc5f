-- What calls that receive find.
use Rattle.std.specs.Prelude.{◌≡◌, ◌≢◌, ℕ, ◌<◌, ◌≤◌, ◌⊎◌, Bool, true, false, not, List, [], ◌++◌, length, take, drop}
use Rattle.httparse.specs.Grammar.{ResponseHead}
use Rattle.http_message.specs.declared.block.Ending.{Ending}
use Rattle.http_message.specs.declared.head.Head.{Head}
use Rattle.http_message.specs.Blocks.{IsBlock}
use Rattle.http_message.specs.Outcome.{Outcome, unfinished, bad_answer}
use Rattle.http_message.specs.Bodies.{TooFew}
use Rattle.http_message.specs.Chunks.{StartsWithChunkLine, StartsWithTrailer, closing}
use Rattle.http_message.specs.ChunkedBody.{LastChunk, NoNextChunk}
use Rattle.http_exchange.specs.declared.state.State.{State}
use Rattle.http_exchange.specs.declared.state.State.TheVariants.{Chunk, Over}
use Rattle.http_message.specs.Heads.{StartsWithHead, HasFinalHead}
use Rattle.http_message.specs.Shown.{Shows}

-- all that came waits now, and its first n bytes are a block
pub record BlockFound (ending : Ending) (after : List ℕ) (n : ℕ) (all : List ℕ) (ended : Bool) : Type 0 where
  pub waits : after ≡ all
  pub more : ended ≡ false
  pub block : IsBlock ending all n

-- a head is at the front, this is kept of it, and what follows it waits
abbrev pub HeadFound : List ℕ → Head → List ℕ → Bool → Type 0
HeadFound after head all ended =
    (n : ℕ) × (h : ResponseHead) × StartsWithHead all n h × Shows head h × (after ≡ drop n all) × (ended ≡ false)

-- the final head was found, and what follows it waits
abbrev pub FinalHeadFound : ℕ → List ℕ → Head → List ℕ → Bool → Type 0
FinalHeadFound skips after head all ended =
    (h : ResponseHead) × HasFinalHead skips all h after × Shows head h × (ended ≡ false)

-- nothing is found
abbrev pub NoneFound : {T : Type 0} → T → List ℕ → Bool → Type 0
NoneFound x all ended = ⊥

-- something came behind what waited, and was dropped, or the end came
pub record Passed (before : List ℕ) (more : Bool) (all : List ℕ) (ended : Bool) : Type 0 where
  pub tail : List ℕ
  pub all_is : all ≡ before ++ tail
  pub end_is : ended ≡ not more
  pub some : more ≡ true → 0 < length tail
  pub none : more ≡ false → tail ≡ []

-- so many bytes wait at least, of all that came
pub record Enough (count : ℕ) (after all : List ℕ) (ended : Bool) : Type 0 where
  pub waits : after ≡ all
  pub more : ended ≡ false
  pub some : count ≤ length all

-- a chunk line of this size was at the front, and what follows it waits
abbrev pub ChunkLineFound : List ℕ → ℕ → List ℕ → Bool → Type 0
ChunkLineFound after size all ended = (n : ℕ) × StartsWithChunkLine all n size × (after ≡ drop n all) × (ended ≡ false)

-- a trailer part was at the front, and what follows it waits
abbrev pub TrailerFound : List ℕ → List ℕ → Bool → Type 0
TrailerFound after all ended = (m : ℕ) × StartsWithTrailer all m × (after ≡ drop m all) × (ended ≡ false)

-- the closing of a chunk was at the front, and what follows it waits
pub record ClosingFound (after all : List ℕ) (ended : Bool) : Type 0 where
  pub whole : 2 ≤ length all
  pub closed : take 2 all ≡ closing
  pub after_is : after ≡ drop 2 all
  pub more : ended ≡ false

-- it was not: too few bytes came, or both of them are another line end
abbrev pub NoClosing : Outcome → List ℕ → Bool → Type 0
NoClosing o all ended = TooFew 2 o all ended ⊎ ((2 ≤ length all) × (take 2 all ≢ closing) × (o ≡ bad_answer))

-- the line of a chunk with bytes was at the front, or the last chunk
pub data NextFound (after : List ℕ) (state : State) (all : List ℕ) (ended : Bool) : Type 0 where
  another : (n size : ℕ) → StartsWithChunkLine all n size → 0 < size → state ≡ Chunk size → after ≡ drop n all → ended ≡ false
      → NextFound after state all ended
  last : LastChunk all → state ≡ Over → ended ≡ false → NextFound after state all ended

-- no chunk is at the front, whatever came before it and whatever the limit
abbrev pub NoNext : Outcome → List ℕ → Bool → Type 0
NoNext o all ended = (limit had : ℕ) → NoNextChunk limit had o all ended

-- the next bytes, at most so many, stand at the front of `into`, and the others wait; or the end came
pub record Given (most : ℕ) (into after : List ℕ) (n : ℕ) (all : List ℕ) (ended : Bool) : Type 0 where
  pub room : n ≤ length into
  pub within : n ≤ most
  pub there : n ≤ length all
  pub piece : take n into ≡ take n all
  pub after_is : after ≡ drop n all
  pub some : 0 < n → ended ≡ false
  pub none : n ≡ 0 → (ended ≡ true) × (all ≡ [])

-- nothing waits, and nothing came
abbrev pub NoneCame : Outcome → List ℕ → Bool → Type 0
NoneCame o all ended = (o ≡ unfinished) × (ended ≡ false) × (all ≡ [])

-- nothing waits, and nothing came, or only the end
abbrev pub NoByteCame : Outcome → List ℕ → Bool → Type 0
NoByteCame o all ended = (all ≡ []) × TooFew 1 o all ended

-- some of the next bytes
abbrev pub SomeGiven : ℕ → List ℕ → List ℕ → ℕ → List ℕ → Bool → Type 0
SomeGiven most into after n all ended = (0 < n) × Given most into after n all ended
