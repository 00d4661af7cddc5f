-- Where a reader stands that gives a body piece by piece, and what a call of it does.
use Rattle.std.specs.Prelude.{◌≡◌, ℕ, ◌+◌, ◌<◌, ◌≤◌, Bool, true, false, ◌||◌, nat_lt, List, [], ◌++◌, length, take, drop, Result, Ok, Err, IfSome, IfOk, IfErr, OnOk, MatchOption, Option, Some, None, IsTrue, IsFalse}
use Rattle.skopeo_outside.specs.Wire.{Conversations, GoesOn, with_received}
use Rattle.http_message.specs.declared.fault.AnswerFault.{AnswerFault}
use Rattle.http_message.specs.declared.framing.Framing.{Framing}
use Rattle.http_message.specs.declared.framing.Framing.TheVariants.{Sized, Chunked, ToEnd}
use Rattle.http_message.specs.Outcome.{outcome_of}
use Rattle.http_message.specs.Chunks.{StartsWithChunkLine}
use Rattle.http_message.specs.ChunkedBody.{Chunks}
use Rattle.http_exchange.specs.declared.state.State.{State}
use Rattle.http_exchange.specs.declared.state.State.TheVariants.{Left, Open, Line, Chunk, Over}
use Rattle.http_exchange.specs.Received.{Held, Notes, empty}
use Rattle.http_exchange.specs.Streaming.{IsBody, IsNoBody, IsFront, IsPassed}

-- a reader: what it holds of the bytes that came, what comes next, and the fault that it stopped with, if it did
pub record Reader : Type 0 where
  pub held : Held
  pub state : State
  pub failed : Option AnswerFault

-- a reader to which nothing came
abbrev pub fresh : Reader
fresh = record { held = empty; state = Left 0; failed = None }

-- Inside a chunk: behind whole chunks come its line and a part of its bytes, and so many are left; the others wait.
pub record InChunk (left : ℕ) (given seen waiting : List ℕ) : Type 0 where
  pub count : ℕ
  pub had : List ℕ
  pub here : List ℕ
  pub chunks : Chunks count seen had here
  pub n : ℕ
  pub size : ℕ
  pub line : StartsWithChunkLine here n size
  pub some : 0 < size
  pub part : List ℕ
  pub content : drop n here ≡ part ++ waiting
  pub left_is : length part + left ≡ size
  pub given_is : given ≡ had ++ part

-- where a reader stands that has given these bytes of those that came, when these wait
abbrev pub Stands : State → Framing → List ℕ → List ℕ → Bool → List ℕ → Type 0
Stands (Left left) f given seen was waiting = (f ≡ Sized (length given + left)) × (seen ≡ given ++ waiting) × (was ≡ false)
Stands Open f given seen was waiting = (f ≡ ToEnd) × (seen ≡ given ++ waiting) × (was ≡ false)
Stands Line f given seen was waiting = (f ≡ Chunked) × ((count : ℕ) × Chunks count seen given waiting) × (was ≡ false)
Stands (Chunk left) f given seen was waiting = (f ≡ Chunked) × InChunk left given seen waiting × (was ≡ false)
Stands Over f given seen was waiting = IsBody f given seen was

-- some bytes of the body come next, or its end
abbrev pub is_settled : State → Bool
is_settled (Left left) = nat_lt 0 left
is_settled Open = true
is_settled Line = false
is_settled (Chunk left) = nat_lt 0 left
is_settled Over = true

-- the body was given whole
abbrev pub is_over : State → Bool
is_over (Left left) = false
is_over Open = false
is_over Line = false
is_over (Chunk left) = false
is_over Over = true

-- a reader that has not failed, and has not given the whole body, has its connection open
abbrev pub IsReady : Reader → Bool → Type 0
IsReady r is_open = r.failed ≡ None → is_over r.state ≡ false → IsTrue is_open

-- the end of the body and a fault close the connection
abbrev pub ClosesAtEnd : {E : Type 0} → Result ℕ E → Bool → Type 0
ClosesAtEnd (Ok n) is_open = n ≡ 0 → IsFalse is_open
ClosesAtEnd (Err fault) is_open = IsFalse is_open

-- what a call of a reader does to its connection: it stays open while the reader may go on, and else is closed by it
pub record Keeps {E : Type 0} (before after : Reader) (is_open : Bool) (result : Result ℕ E) : Type 0 where
  pub ready : IsReady after is_open
  pub more : IfOk result (λ n. 0 < n → IsTrue is_open)
  pub closed : before.failed ≡ None → is_over before.state ≡ false → ClosesAtEnd result is_open

-- the reader goes on so, or the bytes give no body
abbrev pub SettledOr : Framing → List ℕ → List ℕ → Bool → List ℕ → Result State AnswerFault → Type 0
SettledOr f given seen ended waiting (Ok state) = Stands state f given seen ended waiting
SettledOr f given seen ended waiting (Err fault) = IfSome (outcome_of fault) (λ o. IsNoBody f given o seen ended)

-- what a call does that settles a reader
pub record Settles (old new : Conversations) (before after : Held) (state : State) (result : Result State AnswerFault) : Type 0 where
  pub added : List ℕ
  pub ended : Bool
  pub told : GoesOn (with_received added ended) old new
  pub noted : Notes before.first added after.first
  pub more : OnOk result (ended ≡ false)
  pub ready : IfOk result (λ s. is_settled s ≡ true)
  pub settled : (f : Framing) (given seen : List ℕ) (was : Bool) → Stands state f given seen was before.waiting
      → SettledOr f given (seen ++ added) (ended || was) after.waiting result

-- The reader goes on: it has given this piece more, of the bytes that came before and now.
-- It gives nothing only where it has given the whole body.
pub record Gave (f : Framing) (given piece seen : List ℕ) (ended : Bool) (state : State) (waiting : List ℕ) : Type 0 where
  pub stands : Stands state f (given ++ piece) seen ended waiting
  pub front : IsFront f (given ++ piece) seen
  pub passed : IsPassed f given piece seen ended
  pub whole : piece ≡ [] → IsBody f given seen ended

-- a piece was given, at the front of `into`, or the bytes give no body
abbrev pub GaveOr : Framing → List ℕ → List ℕ → List ℕ → Bool → List ℕ → Result (ℕ × State) AnswerFault → Type 0
GaveOr f given into seen ended waiting (Ok (n, state)) = Gave f given (take n into) seen ended state waiting
GaveOr f given into seen ended waiting (Err fault) = IfSome (outcome_of fault) (λ o. IsNoBody f given o seen ended)

-- what a call does that gives a piece
pub record Gives (old new : Conversations) (before after : Held) (state : State) (into : List ℕ) (result : Result (ℕ × State) AnswerFault) : Type 0 where
  pub added : List ℕ
  pub ended : Bool
  pub told : GoesOn (with_received added ended) old new
  pub noted : Notes before.first added after.first
  pub room : IfOk result (λ r. r.0 ≤ length into)
  pub more : IfOk result (λ r. 0 < r.0 → ended ≡ false)
  pub gave : (f : Framing) (given seen : List ℕ) (was : Bool) → Stands state f given seen was before.waiting
      → GaveOr f given into (seen ++ added) (ended || was) after.waiting result

-- A reader that has given these bytes of those that came. One that stopped says why they give no body.
abbrev pub Streams : Reader → Framing → List ℕ → List ℕ → Bool → Type 0
Streams r f given seen was =
    MatchOption r.failed (Stands r.state f given seen was r.held.waiting) (λ fault. IfSome (outcome_of fault) (λ o. IsNoBody f given o seen was))

-- a piece was given, at the front of `into`, or the bytes give no body
abbrev pub NextOr : Framing → List ℕ → List ℕ → List ℕ → Bool → Reader → Result ℕ AnswerFault → Type 0
NextOr f given into seen ended after (Ok n) = Gave f given (take n into) seen ended after.state after.held.waiting
NextOr f given into seen ended after (Err fault) = IfSome (outcome_of fault) (λ o. IsNoBody f given o seen ended)

-- what a call of a reader does; a fault stops it
pub record NextPiece (old new : Conversations) (before after : Reader) (into : List ℕ) (result : Result ℕ AnswerFault) : Type 0 where
  pub added : List ℕ
  pub ended : Bool
  pub told : GoesOn (with_received added ended) old new
  pub noted : Notes before.held.first added after.held.first
  pub room : IfOk result (λ n. n ≤ length into)
  pub more : IfOk result (λ n. 0 < n → ended ≡ false)
  pub next : (f : Framing) (given seen : List ℕ) (was : Bool) → Streams before f given seen was
      → NextOr f given into (seen ++ added) (ended || was) after result
  pub alive : OnOk result (after.failed ≡ None)
  pub stays : IfErr result (λ fault. after.failed ≡ Some fault)

-- after a fault that fault again, and the wire is not asked
pub record Again (old new : Conversations) (before after : Reader) (result : Result ℕ AnswerFault) : Type 0 where
  pub again : (fault : AnswerFault) → before.failed ≡ Some fault → (result ≡ Err fault) × (after ≡ before) × (new ≡ old)
