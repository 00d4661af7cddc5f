-- A body that is given piece by piece, against all bytes that came behind the head, and whether their end came.
use Rattle.std.specs.Prelude.{◌≡◌, ℕ, ◌+◌, ◌<◌, ◌≤◌, Bool, List, [], ◌++◌, length}
use Rattle.http_message.specs.declared.framing.Framing.{Framing}
use Rattle.http_message.specs.Outcome.{Outcome, body_too_long}
use Rattle.http_message.specs.Spelling.{FramedBody, NoFramedBody}

-- the bytes are this body, whole, under each limit that it is within
pub record IsBody (f : Framing) (body seen : List ℕ) (ended : Bool) : Type 0 where
  pub whole : (limit : ℕ) → length body ≤ limit → FramedBody f limit body seen ended

-- they give no body, but this, under each limit that what was given is within
pub record IsNoBody (f : Framing) (given : List ℕ) (o : Outcome) (seen : List ℕ) (ended : Bool) : Type 0 where
  pub none : (limit : ℕ) → length given ≤ limit → NoFramedBody f limit o seen ended

-- whatever comes yet, a body begins with these bytes
pub record IsFront (f : Framing) (given seen : List ℕ) : Type 0 where
  pub front : (limit : ℕ) (more body : List ℕ) (ended : Bool) → FramedBody f limit body (seen ++ more) ended
      → (tail : List ℕ) × (body ≡ given ++ tail)

-- a limit that this piece passes is passed by the bytes
pub record IsPassed (f : Framing) (given piece seen : List ℕ) (ended : Bool) : Type 0 where
  pub passed : (limit : ℕ) → length given ≤ limit → limit < length (given ++ piece)
      → NoFramedBody f limit (body_too_long (limit + 1)) seen ended

-- A piece was given: what was given is a front of each body, and whole where the piece is empty.
pub record IsPiece (f : Framing) (given piece seen : List ℕ) (ended : Bool) : Type 0 where
  pub front : IsFront f (given ++ piece) seen
  pub passed : IsPassed f given piece seen ended
  pub whole : piece ≡ [] → IsBody f given seen ended
