-- How far what was given of a body lags behind what was received, also at a fault.
use Rattle.std.specs.Prelude.{◌≡◌, ℕ, ◌+◌, ◌≤◌, Bool, false, List, ◌++◌, length, Result, None}
use Rattle.skopeo_outside.specs.Wire.{Conversations}
use Rattle.http_message.specs.declared.framing.Framing.{Framing}
use Rattle.http_message.specs.declared.fault.ExchangeFault.{ExchangeFault}
use Rattle.http_message.specs.Spelling.{FramedBody}
use Rattle.http_exchange.specs.Streaming.{IsFront}
use Rattle.http_exchange.specs.Reader.{Reader, Streams, is_over}
use Rattle.http_exchange.specs.Calls.{Opened, GivesPiece}

-- Whatever comes yet, a body is no longer than what was given, so many bytes, and what comes yet.
pub record IsBehind (f : Framing) (given seen : List ℕ) (most : ℕ) : Type 0 where
  pub behind : (limit : ℕ) (more body : List ℕ) (ended : Bool) → FramedBody f limit body (seen ++ more) ended
      → length body ≤ length given + (most + length more)

-- the reader has not failed, and more of the body may come
pub record GoesOnGiving (r : Reader) : Type 0 where
  pub alive : r.failed ≡ None
  pub more : is_over r.state ≡ false

-- what was given lags by no more than what waits
abbrev pub WaitingLags : Type 0
WaitingLags = (a : Opened) (f : Framing) (given seen : List ℕ) → GoesOnGiving a.reader → Streams a.reader f given seen false
    → IsBehind f given seen (length a.reader.held.waiting)

-- Whatever a call answers, also at a fault, what was given before is still a front of each body that the bytes can yet spell,
-- and it lags by no more than what waited, and what this call received.
abbrev pub CallKeeps : Type 0
CallKeeps = (before after : Opened) (into : List ℕ) (old new : Conversations) (result : Result ℕ ExchangeFault) (f : Framing) (given seen : List ℕ)
    → GoesOnGiving before.reader → Streams before.reader f given seen false → (g : GivesPiece old new before after into result)
    → IsFront f given (seen ++ g.added) × IsBehind f given (seen ++ g.added) (length before.reader.held.waiting + length g.added)
