-- What received bytes may spell, as the answer to one request, and what a fault says of them.
use Rattle.std.specs.Prelude.{ℕ, List, Option, Some, None, IfSome, Result, Ok, Err}
use Rattle.http_message.specs.declared.fault.AnswerFault.{AnswerFault}
use Rattle.http_message.specs.declared.fault.AnswerFault.TheVariants.{BadAnswer, HeadTooLong, HeadersTooMany, BodyTooLong, Encoded, Wire, Memory}

-- a header line: its name, and its value without the white space around it
abbrev pub Header : Type 0
Header = List ℕ × List ℕ

-- an answer: its status, its header lines and its body
pub record Answer : Type 0 where
  pub status : ℕ
  pub headers : List Header
  pub body : List ℕ

-- What received bytes spell. They are unfinished where more of them, or their end, are needed to tell.
pub data Outcome : Type 0 where
  answer : Answer → Outcome
  bad_answer encoded unfinished : Outcome
  head_too_long headers_too_many body_too_long : ℕ → Outcome

-- what a fault says of the bytes; want of memory says nothing
abbrev pub outcome_of : AnswerFault → Option Outcome
outcome_of BadAnswer = Some bad_answer
outcome_of (HeadTooLong n) = Some (head_too_long n)
outcome_of (HeadersTooMany n) = Some (headers_too_many n)
outcome_of (BodyTooLong n) = Some (body_too_long n)
outcome_of Encoded = Some encoded
outcome_of Wire = Some unfinished
outcome_of Memory = None

-- the value is one that was sought, or the fault says what stopped the search
abbrev pub Gives : {T : Type 0} → (T → Type 0) → (Outcome → Type 0) → Result T AnswerFault → Type 0
Gives Found Stops (Ok x) = Found x
Gives Found Stops (Err fault) = IfSome (outcome_of fault) Stops
