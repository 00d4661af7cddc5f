-- A buffer that is filled with the next bytes of a body, over as many pieces as it takes.
use Rattle.std.specs.Prelude.{◌≡◌, ◌≢◌, ◌⊎◌, ℕ, ◌<◌, ◌≤◌, Bool, true, false, ◌||◌, List, ◌++◌, length, take, Result, Ok, Err, IfSome, IfOk, IfErr, None, Some, IsTrue, IsFalse}
use Rattle.skopeo_outside.specs.Outside.{Rose}
use Rattle.skopeo_outside.specs.Wire.{Conversations, GoesOn, with_received}
use Rattle.http_message.specs.declared.fault.AnswerFault.{AnswerFault}
use Rattle.http_message.specs.declared.fault.AnswerFault.TheVariants.{Wire}
use Rattle.http_message.specs.declared.framing.Framing.{Framing}
use Rattle.http_message.specs.Outcome.{outcome_of}
use Rattle.http_exchange.specs.Received.{Notes}
use Rattle.http_exchange.specs.Streaming.{IsNoBody, IsFront, IsPassed, IsPiece}
use Rattle.http_exchange.specs.Reader.{Reader, Streams, IsReady, is_over}

-- no more comes of a reader: it has given the whole body, or it failed
abbrev pub IsDone : Reader → Type 0
IsDone r = (is_over r.state ≡ true) ⊎ (r.failed ≢ None)

-- a call that gave fewer bytes than the buffer has room for closes the connection, and so does a fault
abbrev pub ClosesShort : {E : Type 0} → ℕ → Result ℕ E → Bool → Type 0
ClosesShort room (Ok n) is_open = n < room → IsFalse is_open
ClosesShort room (Err fault) is_open = IsFalse is_open

-- what a call that fills a buffer does to the connection: it stays open while the reader may go on, and else is closed by it
pub record KeepsFull {E : Type 0} (room : ℕ) (before after : Reader) (is_open : Bool) (result : Result ℕ E) : Type 0 where
  pub ready : IsReady after is_open
  pub more : IfOk result (λ n. room ≤ n → IsTrue is_open)
  pub closed : before.failed ≡ None → is_over before.state ≡ false → ClosesShort room result is_open

-- a reader fails by the wire only where the count of faults rose, and the count never falls
pub record BlamesWire (before after : ℕ) (old new : Reader) : Type 0 where
  pub later : before ≤ after
  pub wire : new.failed ≡ Some Wire → Rose before after ⊎ (old.failed ≡ Some Wire)

-- a reader that goes on has given this piece, of the bytes that came
pub record Gathered (f : Framing) (given piece seen : List ℕ) (was : Bool) (reader : Reader) : Type 0 where
  pub front : IsFront f (given ++ piece) seen
  pub passed : IsPassed f given piece seen was
  pub streams : Streams reader f (given ++ piece) seen was

-- so far: this piece was given, in one call or more
pub record Gathering (old now : Conversations) (before reader : Reader) (piece : List ℕ) : Type 0 where
  pub added : List ℕ
  pub told : GoesOn (with_received added false) old now
  pub noted : Notes before.held.first added reader.held.first
  pub alive : reader.failed ≡ None
  pub gathered : (f : Framing) (given seen : List ℕ) (was : Bool) → Streams before f given seen was
      → Gathered f given piece (seen ++ added) was reader

-- A piece was given, at the front of `into`, and the reader goes on behind it, or it stopped there. Or the bytes give no body.
abbrev pub FilledOr : Framing → List ℕ → List ℕ → List ℕ → Bool → Reader → Result ℕ AnswerFault → Type 0
FilledOr f given into seen ended after (Ok n) = IsPiece f given (take n into) seen ended × Streams after f (given ++ take n into) seen ended
FilledOr f given into seen ended after (Err fault) = IfSome (outcome_of fault) (λ o. IsNoBody f given o seen ended)

-- what a call of a reader does that fills a buffer; a fault stops it, and is answered at once where nothing was given
pub record Fills (old new : Conversations) (before after : Reader) (into : List ℕ) (result : Result ℕ AnswerFault) : Type 0 where
  pub added : List ℕ
  pub ended : Bool
  pub told : GoesOn (with_received added ended) old new
  pub noted : Notes before.held.first added after.held.first
  pub room : IfOk result (λ n. n ≤ length into)
  pub full : IfOk result (λ n. n < length into → IsDone after)
  pub filled : (f : Framing) (given seen : List ℕ) (was : Bool) → Streams before f given seen was
      → FilledOr f given into (seen ++ added) (ended || was) after result
  pub stays : IfErr result (λ fault. after.failed ≡ Some fault)
