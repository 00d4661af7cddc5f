-- What pieces come to together.
use Rattle.std.proofs.Common.{◌≡◌, ◌≤◌, ◌-◌, ℕ, inl, Bool, false, ◌&&◌, ◌||◌, List, [], ◌∷◌, ◌++◌, length, codes, refl, arith, ap, sym, subst, ◌∙◌, append_assoc, Result, Ok, Err}
use Rattle.skopeo_outside.specs.declared.words.Step.{Step}
use Rattle.skopeo_outside.specs.Wire.{Conversation, Conversations, Gains, GoesOn, with_sent, with_received}
use Rattle.skopeo_outside.proofs.WireLemmas.{append_none, gains_on}
use Rattle.http_message.specs.declared.request.Request.{Request}
use Rattle.http_message.specs.declared.answer.Response.{Response}
use Rattle.http_message.specs.declared.framing.Framing.{Framing}
use Rattle.http_message.specs.declared.fault.ExchangeFault.{ExchangeFault}
use Rattle.http_message.specs.declared.fault.ExchangeFault.TheVariants as long
use Rattle.http_message.specs.Outcome.{Outcome, answer}
use Rattle.http_message.specs.Faults.{shown}
use Rattle.http_message.specs.Requests.{text_of}
use Rattle.http_message.specs.Sent.{is_text}
use Rattle.http_message.specs.Shown.{answer_of}
use Rattle.http_message.specs.Spelling.{Spells, answer_with}
use Rattle.http_exchange.specs.Reader.{Streams}
use Rattle.http_exchange.specs.Streaming.{IsBody, IsNoBody}
use Rattle.http_exchange.specs.Opening.{body_framing}
use Rattle.http_exchange.specs.Sending.{sending_to}
use Rattle.http_exchange.specs.Talk.{is_get, Asks, Comes}
use Rattle.http_exchange.specs.Asked.{one}
use Rattle.http_exchange.specs.Chain.{EndsBy, EndsSo, redirects, is_redirect}
use Rattle.http_exchange.specs.Calls.{Opened, EndedSo, Says}
use Rattle.http_exchange.specs.Joined.{Pieces, none, more, PiecesGiveBody, PiecesGiveFault, joined, SendsPieces, PiecesExchange, PiecesFront, PiecesHoldOne, PartHoldsOne}
use Rattle.http_exchange.proofs.Asking.{text_of-append}
use Rattle.http_exchange.proofs.Collecting.{or_false}
use Rattle.http_exchange.proofs.PlainLaws.{gained_one}
use Rattle.http_exchange.proofs.WholeExchanges.{spells_body, spells_no_body, comes_on}

-- ---- pieces of a body

streams_on : (a : Opened) (old : Conversations) (b : Opened) (new : Conversations) (given added rest : List ℕ) (ended : Bool) (f : Framing)
    → Pieces a old given added ended b new → Streams a.reader f [] rest false → Streams b.reader f given (rest ++ added) ended
streams_on a old b new given added rest ended f none st = subst (λ (w : List ℕ). Streams a.reader f [] w false) (sym (append_none rest)) st
streams_on a old b new given added rest ended f (more given1 added1 into was n b1 c mid new1 before g) st =
    subst (λ (w : List ℕ). Streams b.reader f given w (g.ended || was)) (append_assoc rest added1 g.added)
    (g.streams f given1 (rest ++ added1) was (streams_on a old b1 mid given1 added1 rest was f before st))

pub pieces_give_body : PiecesGiveBody
pieces_give_body step r a b d c given added into ended limit old mid new o pieces g fits =
    comes_on r [] o.h o.rest c limit (added ++ g.added) (g.ended || ended) (answer (answer_with o.h given)) o.opens o.more
    (spells_body r [] o.h o.rest c limit (added ++ g.added) given (g.ended || ended) o.opens (body.whole limit fits))
  where
    f : Framing
    f = body_framing (is_get r) o.h

    body : IsBody f given (o.rest ++ (added ++ g.added)) (g.ended || ended)
    body = subst (λ (w : List ℕ). IsBody f given w (g.ended || ended)) (append_assoc o.rest added g.added)
        ((g.piece f given (o.rest ++ added) ended (streams_on a old b mid given added o.rest ended f pieces o.streams)).whole refl)

says_on : (step : Step) (first : List ℕ) (fault : ExchangeFault) (P Q : Outcome → Type 0) → ((o : Outcome) → P o → Q o) → Says step first P fault → Says step first Q fault
says_on step first (long.BadAnswer s w) P Q f h = (h.0, h.1, f _ h.2)
says_on step first long.Wire P Q f h = f _ h
says_on step first (long.HeadTooLong n) P Q f h = f _ h
says_on step first (long.HeadersTooMany n) P Q f h = f _ h
says_on step first (long.BodyTooLong n) P Q f h = f _ h
says_on step first long.Encoded P Q f h = f _ h
says_on step first long.TooManyRedirects P Q f h = h
says_on step first (long.TlsRequired host) P Q f h = h
says_on step first long.Memory P Q f h = h

pub pieces_give_fault : PiecesGiveFault
pieces_give_fault step r a b d c given added into ended limit old mid new fault o pieces g fits =
    says_on d.step d.reader.held.first fault (λ (u : Outcome). IsNoBody f given u ((o.rest ++ added) ++ g.added) (g.ended || ended))
    (λ (u : Outcome). Comes r [] limit u (with_received (added ++ g.added) (g.ended || ended) c)) comes
    (g.piece f given (o.rest ++ added) ended (streams_on a old b mid given added o.rest ended f pieces o.streams))
  where
    f : Framing
    f = body_framing (is_get r) o.h

    comes : (u : Outcome) → IsNoBody f given u ((o.rest ++ added) ++ g.added) (g.ended || ended)
        → Comes r [] limit u (with_received (added ++ g.added) (g.ended || ended) c)
    comes u n =
        comes_on r [] o.h o.rest c limit (added ++ g.added) (g.ended || ended) u o.opens o.more
        (spells_no_body r [] o.h o.rest c limit (added ++ g.added) (g.ended || ended) u o.opens
        ((subst (λ (w : List ℕ). IsNoBody f given u w (g.ended || ended)) (append_assoc o.rest added g.added) n).none limit fits))

-- ---- pieces of a request

same_sent : (r : Request) (a b : List ℕ) → with_sent b (sending_to r a) ≡ sending_to r (a ++ b)
same_sent r a b = refl

sends_on : (r : Request) (text : List ℕ) (pieces : List (List ℕ)) (old begun sent : Conversations) → Gains (sending_to r text ∷ []) old begun
    → SendsPieces pieces begun sent → Gains (sending_to r (text ++ joined pieces) ∷ []) old sent
sends_on r text [] old begun sent g s =
    subst (λ (w : List ℕ). Gains (sending_to r w ∷ []) old sent) (sym (append_none text))
    (subst (λ (t : Conversations). Gains (sending_to r text ∷ []) old t) (sym s) g)
sends_on r text (piece ∷ pieces) old begun sent g s =
    subst (λ (w : List ℕ). Gains (sending_to r w ∷ []) old sent) (append_assoc text piece (joined pieces))
    (sends_on r (text ++ piece) pieces old s.0 sent (gains_on (sending_to r text) (with_sent piece) old begun s.0 g s.1) s.2)

never : (r : Request) (status : ℕ) → is_get r ≡ false → is_text (codes "HEAD") r.method ≡ false → redirects r status ≡ false
never r status no_get no_head =
    ap (λ (a : Bool). (a || is_text (codes "HEAD") r.method) && is_redirect status) no_get ∙ ap (λ (b : Bool). (false || b) && is_redirect status) no_head

-- the conversation of a request that was sent whole
talk : Request → List ℕ → List ℕ → Bool → Conversation
talk r body received ended = with_received received ended (sending_to r (text_of r [] ++ body))

asks_all : (r : Request) (body received : List ℕ) (ended : Bool) → Asks r body (talk r body received ended)
unfolding talk
asks_all r body received ended = record {
  host_is = refl;
  port_is = refl;
  rest = [];
  front = append_none (text_of r [] ++ body) ∙ text_of-append r [] body;
}

comes_all : (r : Request) (body received : List ℕ) (ended : Bool) (limit : ℕ) (o : Outcome) → is_get r ≡ false → Spells false limit o received ended
    → Comes r body limit o (talk r body received ended)
unfolding talk
comes_all r body received ended limit o no_get spells = record {
  asks = asks_all r body received ended;
  whole = inl (text_of-append r [] body);
  spells = subst (λ (get : Bool). Spells get limit o received (ended || false)) (sym no_get)
      (subst (λ (t : Bool). Spells false limit o received t) (sym (or_false ended)) spells);
}

ends_all : (step : Step) (r : Request) (body received : List ℕ) (ended : Bool) (limit : ℕ) (result : Result Response ExchangeFault) → is_get r ≡ false
    → is_text (codes "HEAD") r.method ≡ false → EndedSo step limit received ended result → EndsSo step r body limit (5 - 0) (talk r body received ended ∷ []) result
unfolding talk
ends_all step r body received ended limit (Ok response) no_get no_head e =
    (never r response.status no_get no_head, (talk r body received ended, refl, comes_all r body received ended limit (answer (answer_of response)) no_get e))
ends_all step r body received ended limit (Err fault) no_get no_head e = by_fault fault e
  where
    c : Conversation
    c = talk r body received ended

    comes : (o : Outcome) → Spells false limit o received ended → Comes r body limit o c
    comes o s = comes_all r body received ended limit o no_get s

    by_fault : (f : ExchangeFault) → Says step (shown received) (λ o. Spells false limit o received ended) f → EndsBy step r body limit (5 - 0) (c ∷ []) f
    by_fault (long.BadAnswer s w) h = (h.0, (c, refl, inl (h.1, comes _ h.2)))
    by_fault long.Wire h = (c, refl, comes _ h)
    by_fault (long.HeadTooLong n) h = (c, refl, comes _ h)
    by_fault (long.HeadersTooMany n) h = (c, refl, comes _ h)
    by_fault (long.BodyTooLong n) h = (c, refl, comes _ h)
    by_fault long.Encoded h = (c, refl, comes _ h)
    by_fault long.TooManyRedirects h = absurd h
    by_fault (long.TlsRequired host) h = absurd h
    by_fault long.Memory h = tt

told_all : (r : Request) (pieces : List (List ℕ)) (received : List ℕ) (ended : Bool) (old begun sent new : Conversations) → Gains (sending_to r (text_of r []) ∷ []) old begun
    → SendsPieces pieces begun sent → GoesOn (with_received received ended) sent new → Gains (talk r (joined pieces) received ended ∷ []) old new
unfolding talk
told_all r pieces received ended old begun sent new g s t =
    gains_on (sending_to r (text_of r [] ++ joined pieces)) (with_received received ended) old sent new (sends_on r (text_of r []) pieces old begun sent g s) t

pub pieces_exchange : PiecesExchange
pieces_exchange step r pieces limit old begun sent new result no_get no_head g s e = record {
  count = 0;
  few = omega arith;
  hops = [];
  last = r;
  follows = (refl, refl);
  gained = talk r (joined pieces) e.received e.ended ∷ [];
  told = told_all r pieces e.received e.ended old begun sent new g s e.told;
  most = one (talk r (joined pieces) e.received e.ended) refl (asks_all r (joined pieces) e.received e.ended);
  ends = ends_all step r (joined pieces) e.received e.ended limit result no_get no_head e.ends;
}

pub pieces_front : PiecesFront
pieces_front r pieces piece rest old begun sent new g s part = (
  sending_to r ((text_of r [] ++ joined pieces) ++ part.sent),
  gains_on (sending_to r (text_of r [] ++ joined pieces)) (with_sent part.sent) old sent new (sends_on r (text_of r []) pieces old begun sent g s) part.goes_on,
  record { host_is = refl; port_is = refl; rest = part.rest ++ rest; front = front },
)
  where
    front : ((text_of r [] ++ joined pieces) ++ part.sent) ++ (part.rest ++ rest) ≡ text_of r (joined pieces ++ (piece ++ rest))
    front = append_assoc (text_of r [] ++ joined pieces) part.sent (part.rest ++ rest)
        ∙ ap (λ (w : List ℕ). (text_of r [] ++ joined pieces) ++ w) (sym (append_assoc part.sent part.rest rest) ∙ ap (λ (w : List ℕ). w ++ rest) part.front)
        ∙ append_assoc (text_of r []) (joined pieces) (piece ++ rest) ∙ text_of-append r [] (joined pieces ++ (piece ++ rest))

-- ---- no second request

pub pieces_hold_one : PiecesHoldOne
pieces_hold_one r size pieces old begun sent m le g s =
    gained_one r size (joined pieces) (sending_to r (text_of r [] ++ joined pieces)) old sent m le asks (sends_on r (text_of r []) pieces old begun sent g s)
  where
    asks : Asks r (joined pieces) (sending_to r (text_of r [] ++ joined pieces))
    asks = record { host_is = refl; port_is = refl; rest = []; front = append_none (text_of r [] ++ joined pieces) ∙ text_of-append r [] (joined pieces) }

pub part_holds_one : PartHoldsOne
part_holds_one r size pieces piece old begun sent new m le g s part =
    let front = pieces_front r pieces piece [] old begun sent new g s part in
    gained_one r size (joined pieces ++ (piece ++ [])) front.0 old new m
    (subst (λ (w : List ℕ). length (joined pieces ++ w) ≤ size) (sym (append_none piece)) le) front.2 front.1
