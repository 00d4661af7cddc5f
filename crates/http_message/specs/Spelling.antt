-- What the bytes that were received on one connection spell, as the answer to one request (RFC 9112, sections 4, 6 and 7).
-- It is a relation on all of them, and on whether their end has come.
use Rattle.std.specs.Prelude.{◌≡◌, ◌≢◌, ℕ, Bool, true, false, ◌&&◌, ◌==◌, List, [], ◌∷◌, ◌++◌, flat_map, if◌then◌else◌}
use Rattle.std.specs.Str.{is_utf8}
use Rattle.httparse.specs.Grammar.{ResponseHead, status_code}
use Rattle.http_message.specs.declared.framing.Framing.{Framing}
use Rattle.http_message.specs.declared.framing.Framing.TheVariants.{Wrong, Sized, Chunked, ToEnd}
use Rattle.http_message.specs.Outcome.{Header, Answer, Outcome, answer, bad_answer, encoded, unfinished}
use Rattle.http_message.specs.Heads.{HasFinalHead, HasNoFinalHead, most_interim, headers_of}
use Rattle.http_message.specs.Framing.{is_encoded, framing_of}
use Rattle.http_message.specs.Bodies.{SizedBody, NoSizedBody, BodyToEnd, NoBodyToEnd}
use Rattle.http_message.specs.ChunkedBody.{ChunkedBody, NoChunkedBody}

-- only a 200 to a GET has a body that is read; every other answer is whole with its head
abbrev pub has_body : Bool → ℕ → Bool
has_body get status = get && status == 200

-- the bytes behind the head give this body
abbrev pub FramedBody : Framing → ℕ → List ℕ → List ℕ → Bool → Type 0
FramedBody Wrong limit body rest ended = ⊥
FramedBody (Sized size) limit body rest ended = SizedBody size limit body rest
FramedBody Chunked limit body rest ended = ChunkedBody limit body rest
FramedBody ToEnd limit body rest ended = BodyToEnd limit body rest ended

-- they give none, but this
abbrev pub NoFramedBody : Framing → ℕ → Outcome → List ℕ → Bool → Type 0
NoFramedBody Wrong limit o rest ended = o ≡ bad_answer
NoFramedBody (Sized size) limit o rest ended = NoSizedBody size limit o rest ended
NoFramedBody Chunked limit o rest ended = NoChunkedBody limit o rest ended
NoFramedBody ToEnd limit o rest ended = NoBodyToEnd limit o rest ended

-- a header line, where it is told: where its name and its value are UTF-8
abbrev pub told_header : Header → List Header
told_header h = if is_utf8 h.0 && is_utf8 h.1 then h ∷ [] else []

-- the header lines that are told, in order
abbrev pub told_headers : List Header → List Header
told_headers headers = flat_map told_header headers

-- the answer with this head and this body
abbrev pub answer_with : ResponseHead → List ℕ → Answer
answer_with h body = record { status = status_code h; headers = told_headers (headers_of h); body = body }

-- What an answer with the head h comes to, with these bytes behind it. An encoded one is refused, whatever its status.
pub data BehindHead (get : Bool) (limit : ℕ) (h : ResponseHead) (rest : List ℕ) (ended : Bool) (o : Outcome) : Type 0 where
  coded : is_encoded (headers_of h) ≡ true → o ≡ encoded → BehindHead get limit h rest ended o
  bare : is_encoded (headers_of h) ≡ false → has_body get (status_code h) ≡ false
      → o ≡ answer (answer_with h []) → BehindHead get limit h rest ended o
  framed : is_encoded (headers_of h) ≡ false → has_body get (status_code h) ≡ true
      → (body : List ℕ) → FramedBody (framing_of (headers_of h)) limit body rest ended
      → o ≡ answer (answer_with h body) → BehindHead get limit h rest ended o
  broken : is_encoded (headers_of h) ≡ false → has_body get (status_code h) ≡ true
      → NoFramedBody (framing_of (headers_of h)) limit o rest ended → BehindHead get limit h rest ended o

-- The bytes spell this outcome: no head stands there, or what stands behind the head gives it.
pub data Spells (get : Bool) (limit : ℕ) (o : Outcome) (bytes : List ℕ) (ended : Bool) : Type 0 where
  no_head : HasNoFinalHead most_interim o bytes ended → Spells get limit o bytes ended
  behind_head : (h : ResponseHead) (rest : List ℕ) → HasFinalHead most_interim bytes h rest
      → BehindHead get limit h rest ended o → Spells get limit o bytes ended

-- all bytes that were received spell at most one outcome
abbrev pub OneOutcome : Bool → ℕ → Type 0
OneOutcome get limit = (o p : Outcome) (bytes : List ℕ) (ended : Bool)
    → Spells get limit o bytes ended → Spells get limit p bytes ended → o ≡ p

-- what bytes spell before their end, but unfinished, they spell whatever comes behind them
abbrev pub OutcomeStays : Bool → ℕ → Type 0
OutcomeStays get limit = (o : Outcome) (bytes more : List ℕ) (ended : Bool) → o ≢ unfinished
    → Spells get limit o bytes false → Spells get limit o (bytes ++ more) ended
