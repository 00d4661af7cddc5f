-- What pieces come to together: those of a body that is given, and those of a request that is sent.
use Rattle.std.specs.Prelude.{◌≡◌, ◌≤◌, ℕ, Bool, false, ◌||◌, List, [], ◌∷◌, ◌++◌, length, take, flat_map, codes, Result, Ok, Err}
use Rattle.skopeo_outside.specs.declared.words.Step.{Step}
use Rattle.skopeo_outside.specs.Wire.{Conversation, Conversations, Gains, GoesOn, SendsPart, with_sent, with_received}
use Rattle.http_message.specs.declared.request.Request.{Request}
use Rattle.http_message.specs.declared.answer.Response.{Response}
use Rattle.http_message.specs.declared.fault.ExchangeFault.{ExchangeFault}
use Rattle.http_message.specs.Outcome.{answer}
use Rattle.http_message.specs.Requests.{text_of, MaySend}
use Rattle.http_message.specs.OneRequest.{GainsRequests}
use Rattle.http_message.specs.Sent.{is_text}
use Rattle.http_message.specs.Spelling.{answer_with}
use Rattle.http_exchange.specs.Sending.{sending_to}
use Rattle.http_exchange.specs.Talk.{is_get, Asks, Comes}
use Rattle.http_exchange.specs.Chain.{Exchanges}
use Rattle.http_exchange.specs.Calls.{Opened, IsOpened, GivesPiece, Ends, Says}

-- Calls of `next_piece` and `read_full`, one behind the other, none at fault: all that they gave, all that they received, and
-- whether the end came.
pub data Pieces (a : Opened) (old : Conversations) : List ℕ → List ℕ → Bool → Opened → Conversations → Type 0 where
  none : Pieces a old [] [] false a old
  more : (given added into : List ℕ) (ended : Bool) (n : ℕ) (b c : Opened) (mid new : Conversations) → Pieces a old given added ended b mid
      → (g : GivesPiece mid new b c into (Ok n)) → Pieces a old (given ++ take n into) (added ++ g.added) (g.ended || ended) c new

-- What pieces up to 0 gave is the body of the response that its conversation spells, under each limit that it is within.
abbrev pub PiecesGiveBody : Type 0
PiecesGiveBody = (step : Step) (r : Request) (a b d : Opened) (c : Conversation) (given added into : List ℕ) (ended : Bool) (limit : ℕ) (old mid new : Conversations)
    → (o : IsOpened step r a c) → Pieces a old given added ended b mid → (g : GivesPiece mid new b d into (Ok 0)) → length given ≤ limit
    → Comes r [] limit (answer (answer_with o.h given)) (with_received (added ++ g.added) (g.ended || ended) c)

-- A fault behind pieces says what that conversation spells, under each limit that they are within.
abbrev pub PiecesGiveFault : Type 0
PiecesGiveFault = (step : Step) (r : Request) (a b d : Opened) (c : Conversation) (given added into : List ℕ) (ended : Bool) (limit : ℕ) (old mid new : Conversations)
    (fault : ExchangeFault) → IsOpened step r a c → Pieces a old given added ended b mid → (g : GivesPiece mid new b d into (Err fault)) → length given ≤ limit
    → Says d.step d.reader.held.first (λ o. Comes r [] limit o (with_received (added ++ g.added) (g.ended || ended) c)) fault

-- what pieces hold together
abbrev pub joined : List (List ℕ) → List ℕ
joined pieces = flat_map (λ piece. piece) pieces

-- these pieces were sent, one behind the other
abbrev pub SendsPieces : List (List ℕ) → Conversations → Conversations → Type 0
SendsPieces [] old new = new ≡ old
SendsPieces (piece ∷ pieces) old new = (mid : Conversations) × GoesOn (with_sent piece) old mid × SendsPieces pieces mid new

-- A request that is neither a GET nor a HEAD, was begun, was sent in pieces, and came to an end, is one exchange of the joined body.
abbrev pub PiecesExchange : Type 0
PiecesExchange = (step : Step) (r : Request) (pieces : List (List ℕ)) (limit : ℕ) (old begun sent new : Conversations) (result : Result Response ExchangeFault)
    → is_get r ≡ false → is_text (codes "HEAD") r.method ≡ false → Gains (sending_to r (text_of r []) ∷ []) old begun
    → SendsPieces pieces begun sent → Ends step limit sent new result → Exchanges step r (joined pieces) limit old new result

-- one conversation was gained, in which no more than a front of this request was sent
abbrev pub GainsFront : Request → List ℕ → Conversations → Conversations → Type 0
GainsFront r body old new = (c : Conversation) × Gains (c ∷ []) old new × Asks r body c

-- Where a piece was sent in part, a front of the joined body was sent, whatever was to follow.
abbrev pub PiecesFront : Type 0
PiecesFront = (r : Request) (pieces : List (List ℕ)) (piece rest : List ℕ) (old begun sent new : Conversations)
    → Gains (sending_to r (text_of r []) ∷ []) old begun → SendsPieces pieces begun sent → SendsPart piece sent new
    → GainsFront r (joined pieces ++ (piece ++ rest)) old new

-- A request that may be sent, was begun, and was sent in pieces that together are no more than it counts, holds no second one,
-- also where the last piece was sent in part.
abbrev pub PiecesHoldOne : Type 0
PiecesHoldOne = (r : Request) (size : ℕ) (pieces : List (List ℕ)) (old begun sent : Conversations)
    → MaySend r size → length (joined pieces) ≤ size → Gains (sending_to r (text_of r []) ∷ []) old begun → SendsPieces pieces begun sent
    → GainsRequests old sent

abbrev pub PartHoldsOne : Type 0
PartHoldsOne = (r : Request) (size : ℕ) (pieces : List (List ℕ)) (piece : List ℕ) (old begun sent new : Conversations)
    → MaySend r size → length (joined pieces ++ piece) ≤ size → Gains (sending_to r (text_of r []) ∷ []) old begun → SendsPieces pieces begun sent
    → SendsPart piece sent new → GainsRequests old new
