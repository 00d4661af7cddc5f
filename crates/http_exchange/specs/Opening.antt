-- The head of an answer, behind which its body is given.
use Rattle.std.specs.Prelude.{◌≡◌, ◌≢◌, ℕ, Bool, false, List, [], if◌then◌else◌, Result, Ok, Err, IfSome}
use Rattle.httparse.specs.Grammar.{ResponseHead, status_code}
use Rattle.http_message.specs.declared.fault.AnswerFault.{AnswerFault}
use Rattle.http_message.specs.declared.framing.Framing.{Framing}
use Rattle.http_message.specs.declared.framing.Framing.TheVariants.{Wrong, Sized, Chunked, ToEnd}
use Rattle.http_message.specs.Outcome.{Header, Outcome, bad_answer, outcome_of}
use Rattle.http_message.specs.Heads.{HasFinalHead, most_interim, headers_of}
use Rattle.http_message.specs.Framing.{is_encoded, framing_of}
use Rattle.http_message.specs.Shown.{Shows}
use Rattle.http_message.specs.Spelling.{has_body, Spells}
use Rattle.http_exchange.specs.declared.state.State.{State}
use Rattle.http_exchange.specs.declared.state.State.TheVariants.{Left, Open, Line, Over}
use Rattle.http_exchange.specs.declared.opening.Opening.{Opening}
use Rattle.http_exchange.specs.Reader.{Stands}

-- how the body of an answer of this status ends; one that is not read is empty
abbrev pub framed : Bool → ℕ → List Header → Framing
framed get status headers = if has_body get status then framing_of headers else Sized 0

-- the same behind a head
abbrev pub body_framing : Bool → ResponseHead → Framing
body_framing get h = framed get (status_code h) (headers_of h)

-- what comes first of a body that ends so
abbrev pub first_state : Framing → State
first_state Wrong = Over
first_state (Sized size) = Left size
first_state Chunked = Line
first_state ToEnd = Open

-- a reader may begin so, or the framing is wrong
abbrev pub FirstOr : Framing → Result State AnswerFault → Type 0
FirstOr f (Ok state) = (state ≡ first_state f) × (f ≢ Wrong)
FirstOr f (Err fault) = IfSome (outcome_of fault) (λ o. (o ≡ bad_answer) × (f ≡ Wrong))

-- the final head was found, it has no content encoding, and a reader stands behind it that has given nothing
abbrev pub OpeningFound : Bool → List ℕ → Opening → List ℕ → Bool → Type 0
OpeningFound get after opening all ended = (h : ResponseHead) × HasFinalHead most_interim all h after × Shows opening.head h
    × (is_encoded (headers_of h) ≡ false) × Stands opening.state (body_framing get h) [] after false after × (ended ≡ false)

-- it was not, and the bytes spell why, whatever the limit
abbrev pub NoOpening : Bool → Outcome → List ℕ → Bool → Type 0
NoOpening get o all ended = (limit : ℕ) → Spells get limit o all ended
