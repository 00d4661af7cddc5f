-- What one request comes to, up to the head of its answer.
use Rattle.std.specs.Prelude.{◌≡◌, ℕ, List, [], ◌∷◌, Result, Ok, Err, IfSome}
use Rattle.skopeo_outside.specs.Wire.{Conversation, Conversations, Gains}
use Rattle.http_message.specs.declared.request.Request.{Request}
use Rattle.http_message.specs.declared.fault.AnswerFault.{AnswerFault}
use Rattle.http_message.specs.declared.head.Head.{Head}
use Rattle.http_message.specs.Outcome.{Outcome, outcome_of}
use Rattle.http_message.specs.Faults.{shown}
use Rattle.http_exchange.specs.Reader.{Reader}
use Rattle.http_exchange.specs.Talk.{Asks, Comes, IsOpen}

-- one conversation with the request's host was gained, or none
pub data AtMostOne (r : Request) (body : List ℕ) (gained : List Conversation) : Type 0 where
  none : gained ≡ [] → AtMostOne r body gained
  one : (c : Conversation) → gained ≡ c ∷ [] → Asks r body c → AtMostOne r body gained

-- one conversation was gained, in which it came to this, whatever the limit; its first bytes are noted
pub record CameTo (r : Request) (body : List ℕ) (o : Outcome) (first : List ℕ) (gained : List Conversation) : Type 0 where
  pub c : Conversation
  pub gained_is : gained ≡ c ∷ []
  pub comes : (limit : ℕ) → Comes r body limit o c
  pub noted : first ≡ shown c.received

-- the same under one limit
pub record CameUnder (r : Request) (body : List ℕ) (limit : ℕ) (o : Outcome) (first : List ℕ) (gained : List Conversation) : Type 0 where
  pub c : Conversation
  pub gained_is : gained ≡ c ∷ []
  pub comes : Comes r body limit o c
  pub noted : first ≡ shown c.received

-- the answer is open, or the fault says what came; want of memory says nothing
abbrev pub OpenOr : Request → List ℕ → Reader → List Conversation → Result Head AnswerFault → Type 0
OpenOr r body reader gained (Ok head) = (c : Conversation) × (gained ≡ c ∷ []) × IsOpen r body head reader c
OpenOr r body reader gained (Err fault) = IfSome (outcome_of fault) (λ o. CameTo r body o reader.held.first gained)

-- what a call does that asks
pub record Asked (r : Request) (body : List ℕ) (old new : Conversations) (reader : Reader) (result : Result Head AnswerFault) : Type 0 where
  pub gained : List Conversation
  pub told : Gains gained old new
  pub most : AtMostOne r body gained
  pub gives : OpenOr r body reader gained result
