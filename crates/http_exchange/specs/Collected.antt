-- A body that is collected whole, within a limit.
use Rattle.std.specs.Prelude.{◌≡◌, ◌≤◌, ℕ, Bool, false, List, [], ◌++◌, length, Result, Ok, Err, IfSome, None}
use Rattle.skopeo_outside.specs.Wire.{Conversations, GoesOn, with_received}
use Rattle.http_message.specs.declared.fault.AnswerFault.{AnswerFault}
use Rattle.http_message.specs.declared.framing.Framing.{Framing}
use Rattle.http_message.specs.Outcome.{outcome_of}
use Rattle.http_message.specs.Spelling.{FramedBody, NoFramedBody}
use Rattle.http_exchange.specs.Received.{Notes}
use Rattle.http_exchange.specs.Reader.{Reader, Streams}

-- the bytes give this body within the limit, or the fault says why they give none
abbrev pub CollectedOr : Framing → ℕ → List ℕ → Bool → Result (List ℕ) AnswerFault → Type 0
CollectedOr f limit seen ended (Ok body) = FramedBody f limit body seen ended
CollectedOr f limit seen ended (Err fault) = IfSome (outcome_of fault) (λ o. NoFramedBody f limit o seen ended)

-- what a call does that collects the body of a reader that has given nothing
pub record Collects (old new : Conversations) (before after : Reader) (limit : ℕ) (result : Result (List ℕ) AnswerFault) : Type 0 where
  pub added : List ℕ
  pub ended : Bool
  pub told : GoesOn (with_received added ended) old new
  pub noted : Notes before.held.first added after.held.first
  pub collected : (f : Framing) (seen : List ℕ) → Streams before f [] seen false → CollectedOr f limit (seen ++ added) ended result

-- so far: these bytes were given, and are within the limit
pub record Collecting (old now : Conversations) (before reader : Reader) (limit : ℕ) (bytes : List ℕ) : Type 0 where
  pub added : List ℕ
  pub told : GoesOn (with_received added false) old now
  pub noted : Notes before.held.first added reader.held.first
  pub alive : reader.failed ≡ None
  pub within : length bytes ≤ limit
  pub streams : (f : Framing) (seen : List ℕ) → Streams before f [] seen false → Streams reader f bytes (seen ++ added) false
