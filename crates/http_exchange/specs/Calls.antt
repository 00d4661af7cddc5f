-- What the public calls say.
use Rattle.std.specs.Prelude.{◌≡◌, ◌≢◌, ◌⊎◌, ◌-◌, ◌≤◌, ℕ, Bool, false, take, ◌||◌, List, [], ◌++◌, Result, Ok, Err, IfOk, Some}
use Rattle.skopeo_outside.specs.declared.words.Step.{Step}
use Rattle.skopeo_outside.specs.declared.stop.Stop.{Stop}
use Rattle.skopeo_outside.specs.declared.stop.Stop.TheVariants.{Fault, Memory as Want}
use Rattle.skopeo_outside.specs.Wire.{Conversation, Conversations, Gains, GoesOn, with_received}
use Rattle.httparse.specs.Grammar.{ResponseHead, status_code}
use Rattle.http_message.specs.declared.request.Request.{Request}
use Rattle.http_message.specs.declared.answer.Response.{Response}
use Rattle.http_message.specs.declared.fault.AnswerFault.{AnswerFault}
use Rattle.http_message.specs.declared.fault.ExchangeFault.{ExchangeFault}
use Rattle.http_message.specs.declared.fault.ExchangeFault.TheVariants.{BadAnswer, Wire, HeadTooLong, HeadersTooMany, BodyTooLong, Encoded, TooManyRedirects, TlsRequired, Memory}
use Rattle.http_message.specs.declared.framing.Framing.{Framing}
use Rattle.http_message.specs.Outcome.{Outcome, answer, bad_answer, encoded, unfinished, head_too_long, headers_too_many, body_too_long}
use Rattle.http_message.specs.Faults.{shown}
use Rattle.http_message.specs.Shown.{answer_of}
use Rattle.http_message.specs.Spelling.{Spells}
use Rattle.http_exchange.specs.Received.{Notes}
use Rattle.http_exchange.specs.Reader.{Reader, Streams}
use Rattle.http_exchange.specs.Streaming.{IsNoBody, IsPiece}
use Rattle.http_exchange.specs.Opening.{body_framing}
use Rattle.http_exchange.specs.Sending.{SendsFront}
use Rattle.http_exchange.specs.Talk.{is_get, Opens}
use Rattle.http_exchange.specs.Asked.{AtMostOne}
use Rattle.http_exchange.specs.Chain.{Follows, Just, EndsBy, redirects, most_redirects}
use Rattle.http_exchange.specs.Hopping.{IsShown}

-- What a fault says of bytes that begin so. Want of memory says nothing, and a redirect is no fault of theirs.
abbrev pub Says : Step → List ℕ → (Outcome → Type 0) → ExchangeFault → Type 0
Says step first Is (BadAnswer s shown) = (s ≡ step) × (shown ≡ first) × Is bad_answer
Says step first Is Wire = Is unfinished
Says step first Is (HeadTooLong n) = Is (head_too_long n)
Says step first Is (HeadersTooMany n) = Is (headers_too_many n)
Says step first Is (BodyTooLong n) = Is (body_too_long n)
Says step first Is Encoded = Is encoded
Says step first Is TooManyRedirects = ⊥
Says step first Is (TlsRequired host) = ⊥
Says step first Is Memory = Unit {0}

-- the bytes spell this response to a request that is no GET, or the fault says what they spell
abbrev pub EndedSo : Step → ℕ → List ℕ → Bool → Result Response ExchangeFault → Type 0
EndedSo step limit received ended (Ok response) = Spells false limit (answer (answer_of response)) received ended
EndedSo step limit received ended (Err fault) = Says step (shown received) (λ o. Spells false limit o received ended) fault

-- what a call does that receives the answer to a request that was sent
pub record Ends (step : Step) (limit : ℕ) (old new : Conversations) (result : Result Response ExchangeFault) : Type 0 where
  pub received : List ℕ
  pub ended : Bool
  pub told : GoesOn (with_received received ended) old new
  pub ends : EndedSo step limit received ended result

-- a call that sends stops for one of these
abbrev pub IsSendingFault : ExchangeFault → Type 0
IsSendingFault fault = (fault ≡ Wire) ⊎ (fault ≡ Memory)

-- what a stop of the wire comes to
abbrev pub IsStopped : Stop → ExchangeFault → Type 0
IsStopped Fault fault = fault ≡ Wire
IsStopped Want fault = fault ≡ Memory

-- The head was not sent whole. A wire at fault has its conversation.
pub record FailsToBegin (host : List ℕ) (port : ℕ) (text : List ℕ) (fault : ExchangeFault) (old new : Conversations) : Type 0 where
  pub gained : List Conversation
  pub told : Gains gained old new
  pub sends : SendsFront host port text gained
  pub why : (fault ≡ Memory) ⊎ ((fault ≡ Wire) × (gained ≢ []))

-- an answer whose body is given piece by piece
pub record Opened : Type 0 where
  pub status : ℕ
  pub step : Step
  pub reader : Reader

-- the answer that was opened on this conversation: its head's status, and a reader behind its head that has given nothing
pub record IsOpened (step : Step) (r : Request) (a : Opened) (c : Conversation) : Type 0 where
  pub h : ResponseHead
  pub rest : List ℕ
  pub opens : Opens r [] h rest c
  pub status : a.status ≡ status_code h
  pub streams : Streams a.reader (body_framing (is_get r) h) [] rest false
  pub more : c.ended ≡ false
  pub noted : a.reader.held.first ≡ shown c.received
  pub step_is : a.step ≡ step

-- the last conversation is open, and its answer redirects nowhere; or the fault says why not, whatever the limit
abbrev pub OpenedSo : Step → Request → ℕ → List Conversation → Result Opened ExchangeFault → Type 0
OpenedSo step r left gained (Ok a) = (redirects r a.status ≡ false) × Just (IsOpened step r a) gained
OpenedSo step r left gained (Err fault) = (limit : ℕ) → EndsBy step r [] limit left gained fault

-- What a call does that opens an answer: redirects were followed, at most five, and the last request comes to this.
pub record OpensAnswer (step : Step) (r : Request) (old new : Conversations) (result : Result Opened ExchangeFault) : Type 0 where
  pub count : ℕ
  pub few : count ≤ most_redirects
  pub hops : List Conversation
  pub last : Request
  pub follows : Follows count r [] hops last
  pub gained : List Conversation
  pub told : Gains (hops ++ gained) old new
  pub most : AtMostOne last [] gained
  pub opens : OpenedSo step last (most_redirects - count) gained result

-- a piece was given, at the front of `into`, or the fault says why the bytes give no body
abbrev pub PieceSo : Framing → List ℕ → List ℕ → List ℕ → Bool → Opened → Result ℕ ExchangeFault → Type 0
PieceSo f given into seen ended a (Ok n) = IsPiece f given (take n into) seen ended
PieceSo f given into seen ended a (Err fault) = Says a.step a.reader.held.first (λ o. IsNoBody f given o seen ended) fault

-- What a call does that gives a piece. For each framing and all that was given before, of all that came behind the head.
pub record GivesPiece (old new : Conversations) (before after : Opened) (into : List ℕ) (result : Result ℕ ExchangeFault) : Type 0 where
  pub added : List ℕ
  pub ended : Bool
  pub told : GoesOn (with_received added ended) old new
  pub noted : Notes before.reader.held.first added after.reader.held.first
  pub piece : (f : Framing) (given seen : List ℕ) (was : Bool) → Streams before.reader f given seen was
      → PieceSo f given into (seen ++ added) (ended || was) after result
  pub streams : (f : Framing) (given seen : List ℕ) (was : Bool) → Streams before.reader f given seen was
      → IfOk result (λ n. Streams after.reader f (given ++ take n into) (seen ++ added) (ended || was))
  pub same : (after.status ≡ before.status) × (after.step ≡ before.step)

-- after a fault that fault again, but for want of memory, and the wire is not asked
pub record FaultAgain (old new : Conversations) (before after : Opened) (result : Result ℕ ExchangeFault) : Type 0 where
  pub again : (fault : AnswerFault) → before.reader.failed ≡ Some fault
      → (shown : ExchangeFault) × (result ≡ Err shown) × IsShown before.step before.reader.held.first fault shown × (new ≡ old)

-- a fault that was answered stays
pub record FaultStays (after : Opened) (result : Result ℕ ExchangeFault) : Type 0 where
  pub stays : (shown : ExchangeFault) → result ≡ Err shown
      → (fault : AnswerFault) × (after.reader.failed ≡ Some fault) × IsShown after.step after.reader.held.first fault shown
