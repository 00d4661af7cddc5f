-- A whole exchange: the redirects, the head of the last answer, and its body.
use Rattle.std.proofs.Common.{◌≡◌, ℕ, ◌-◌, ◌⊎◌, inl, inr, Bool, true, false, ◌||◌, List, [], ◌∷◌, ◌++◌, length, take, refl, arith, ap, sym, subst, ◌∙◌, Result, Ok, Err, Option, Some, None, IfSome, option_map, append_assoc, if◌then◌else◌, length-take}
use Rattle.skopeo_outside.specs.declared.words.Step.{Step}
use Rattle.skopeo_outside.specs.Wire.{Conversation, Conversations, Gains, GoesOn, on_last, with_received}
use Rattle.skopeo_outside.proofs.WireLemmas.{on_last-append}
use Rattle.httparse.specs.Grammar.{ResponseHead, status_code}
use Rattle.http_message.specs.declared.head.Head.{Head}
use Rattle.http_message.specs.declared.request.Request.{Request}
use Rattle.http_message.specs.declared.answer.Response.{Response}
use Rattle.http_message.specs.declared.fault.AnswerFault.{AnswerFault}
use Rattle.http_message.specs.declared.fault.ExchangeFault.{ExchangeFault}
use Rattle.http_message.specs.declared.fault.ExchangeFault.TheVariants as long
use Rattle.http_message.specs.declared.framing.Framing.{Framing}
use Rattle.http_message.specs.declared.framing.Framing.TheVariants.{Sized}
use Rattle.http_message.specs.Outcome.{Outcome, Answer, answer, bad_answer, encoded, unfinished, head_too_long, headers_too_many, body_too_long, outcome_of}
use Rattle.http_message.specs.Faults.{shown}
use Rattle.http_message.specs.Heads.{headers_of, most_interim}
use Rattle.http_message.specs.Framing.{framing_of}
use Rattle.http_message.specs.Bodies.{NoSizedBody}
use Rattle.http_message.specs.Shown.{Shows, answer_of}
use Rattle.http_message.specs.Spelling.{has_body, FramedBody, NoFramedBody, answer_with, Spells, behind_head, bare, framed as with_body, broken}
use Rattle.http_exchange.specs.Received.{Notes}
use Rattle.http_exchange.specs.Reader.{Reader}
use Rattle.http_exchange.specs.Collected.{Collects}
use Rattle.http_exchange.specs.Opening.{body_framing}
use Rattle.http_exchange.specs.Talk.{is_get, Asks, Comes, Opens, IsOpen}
use Rattle.http_exchange.specs.Asked.{one, CameUnder}
use Rattle.http_exchange.specs.Chain.{redirects, Exchanges, EndsSo}
use Rattle.http_exchange.specs.Opened.{Chained}
use Rattle.http_exchange.specs.Hopping.{IsShown}
use Rattle.http_exchange.proofs.Rounds.{take_two}
use Rattle.http_exchange.proofs.Opened.{final-append}
use Rattle.http_exchange.proofs.Collecting.{or_false}
use Rattle.http_exchange.proofs.Chaining.{shown_ends}

-- a conversation that was gained behind others goes on
pub gains_on-last : (hops : List Conversation) (c : Conversation) (f : Conversation → Conversation) (old mid new : Conversations)
    → Gains (hops ++ c ∷ []) old mid → GoesOn f mid new → Gains (hops ++ f c ∷ []) old new
gains_on-last hops c f None mid new p q = q ∙ ap (λ (t : Conversations). option_map (on_last f) t) p
gains_on-last hops c f (Some cs) mid new p q =
    q ∙ ap (λ (t : Conversations). option_map (on_last f) t) p
    ∙ ap (λ (x : List Conversation). Some (on_last f x)) (sym (append_assoc cs hops (c ∷ [])))
    ∙ ap (λ (x : List Conversation). Some x) (on_last-append f (cs ++ hops) c ∙ append_assoc cs hops (f c ∷ []))

-- the first bytes of a conversation, once more came
pub shown_more : (received added first new : List ℕ) → first ≡ shown received → Notes first added new → new ≡ shown (received ++ added)
shown_more received added first new same n =
    n.shows ∙ ap (λ (w : List ℕ). w ++ take (64 - length w) added) same ∙ ap (λ (w : List ℕ). take 64 received ++ w) (rest received added)
    ∙ sym (take_two 64 received added)
  where
    rest : (a b : List ℕ) → take (64 - length (take 64 a)) b ≡ take (64 - length a) b
    rest a b = ap (λ (k : ℕ). take k b) (omega (arith, length-take 64 a))

-- ---- what stands behind a head

no_empty : (limit : ℕ) (o : Outcome) (all : List ℕ) (ended : Bool) → NoSizedBody 0 limit o all ended → ⊥
no_empty limit bad_answer all ended n = omega (arith, n.1)
no_empty limit unfinished all ended n = omega (arith, n.1)
no_empty limit (body_too_long k) all ended n = omega (arith, n.1)
no_empty limit (answer r) all ended n = n
no_empty limit encoded all ended n = n
no_empty limit (head_too_long k) all ended n = n
no_empty limit (headers_too_many k) all ended n = n

pub record BodyOf (get : Bool) (status : ℕ) (f : Framing) (limit : ℕ) (body rest : List ℕ) (ended : Bool) : Type 0 where
  pub with_one : has_body get status ≡ true → FramedBody f limit body rest ended
  pub without : has_body get status ≡ false → body ≡ []

body_of : (get : Bool) (status : ℕ) (b : Bool) (f : Framing) (limit : ℕ) (body rest : List ℕ) (ended : Bool) → has_body get status ≡ b
    → FramedBody (if b then f else Sized 0) limit body rest ended → BodyOf get status f limit body rest ended
body_of get status true f limit body rest ended e is = record { with_one = λ t. is; without = λ t. absurd (cc) }
body_of get status false f limit body rest ended e is = record { with_one = λ t. absurd (cc); without = λ t. is.body_is }

no_body_of : (get : Bool) (status : ℕ) (b : Bool) (f : Framing) (limit : ℕ) (o : Outcome) (rest : List ℕ) (ended : Bool) → has_body get status ≡ b
    → NoFramedBody (if b then f else Sized 0) limit o rest ended → (has_body get status ≡ true) × NoFramedBody f limit o rest ended
no_body_of get status true f limit o rest ended e is = (e, is)
no_body_of get status false f limit o rest ended e is = absurd (no_empty limit o rest ended is)

either : (b : Bool) → (b ≡ true) ⊎ (b ≡ false)
either true = inl refl
either false = inr refl

pub spells_body : (r : Request) (body : List ℕ) (h : ResponseHead) (rest : List ℕ) (c : Conversation) (limit : ℕ) (added given : List ℕ) (ended : Bool)
    → Opens r body h rest c → FramedBody (body_framing (is_get r) h) limit given (rest ++ added) ended
    → Spells (is_get r) limit (answer (answer_with h given)) (c.received ++ added) ended
spells_body r body h rest c limit added given ended is b = by_body (either (has_body (is_get r) (status_code h)))
  where
    o : BodyOf (is_get r) (status_code h) (framing_of (headers_of h)) limit given (rest ++ added) ended
    o = body_of (is_get r) (status_code h) (has_body (is_get r) (status_code h)) (framing_of (headers_of h)) limit given (rest ++ added) ended refl b

    by_body : (has_body (is_get r) (status_code h) ≡ true) ⊎ (has_body (is_get r) (status_code h) ≡ false)
        → Spells (is_get r) limit (answer (answer_with h given)) (c.received ++ added) ended
    by_body (inl t) = behind_head h (rest ++ added) (final-append most_interim c.received added h rest is.head) (with_body is.plain t given (o.with_one t) refl)
    by_body (inr t) = behind_head h (rest ++ added) (final-append most_interim c.received added h rest is.head)
        (bare is.plain t (ap (λ (w : List ℕ). answer (answer_with h w)) (o.without t)))

pub spells_no_body : (r : Request) (body : List ℕ) (h : ResponseHead) (rest : List ℕ) (c : Conversation) (limit : ℕ) (added : List ℕ) (ended : Bool) (o : Outcome)
    → Opens r body h rest c → NoFramedBody (body_framing (is_get r) h) limit o (rest ++ added) ended
    → Spells (is_get r) limit o (c.received ++ added) ended
spells_no_body r body h rest c limit added ended o is b =
    let n = no_body_of (is_get r) (status_code h) (has_body (is_get r) (status_code h)) (framing_of (headers_of h)) limit o (rest ++ added) ended refl b in
    behind_head h (rest ++ added) (final-append most_interim c.received added h rest is.head) (broken is.plain n.0 n.1)

-- ---- the conversation that went on

pub asks_on : (r : Request) (body : List ℕ) (c : Conversation) (added : List ℕ) (ended : Bool) → Asks r body c → Asks r body (with_received added ended c)
asks_on r body c added ended a = record { host_is = a.host_is; port_is = a.port_is; rest = a.rest; front = a.front }

pub comes_on : (r : Request) (body : List ℕ) (h : ResponseHead) (rest : List ℕ) (c : Conversation) (limit : ℕ) (added : List ℕ) (ended : Bool) (o : Outcome)
    → Opens r body h rest c → c.ended ≡ false → Spells (is_get r) limit o (c.received ++ added) ended → Comes r body limit o (with_received added ended c)
comes_on r body h rest c limit added ended o is more spells = record {
  asks = asks_on r body c added ended is.asks;
  whole = inl is.whole;
  spells = subst (λ (t : Bool). Spells (is_get r) limit o (c.received ++ added) t) (sym (ap (λ (t : Bool). ended || t) more ∙ or_false ended)) spells;
}

-- ---- the exchange

pub exchange_fault : (step : Step) (r : Request) (body : List ℕ) (limit : ℕ) (old new : Conversations) (reader : Reader) (fault : ExchangeFault)
    → Chained step r body 5 old new reader (Err fault) → Exchanges step r body limit old new (Err fault)
exchange_fault step r body limit old new reader fault p = record {
  count = p.count;
  few = p.few;
  hops = p.hops;
  last = p.last;
  follows = p.follows;
  gained = p.gained;
  told = p.told;
  most = p.most;
  ends = p.opens limit;
}

went_on : (step : Step) (r : Request) (body : List ℕ) (limit : ℕ) (old mid new : Conversations) (reader : Reader) (head : Head) (result : Result Response ExchangeFault)
    → (p : Chained step r body 5 old mid reader (Ok head)) → (added : List ℕ) (ended : Bool) → GoesOn (with_received added ended) mid new
    → EndsSo step p.last body limit (5 - p.count) (with_received added ended p.opens.1.0 ∷ []) result → Exchanges step r body limit old new result
went_on step r body limit old mid new reader head result p added ended told ends = record {
  count = p.count;
  few = p.few;
  hops = p.hops;
  last = p.last;
  follows = p.follows;
  gained = with_received added ended p.opens.1.0 ∷ [];
  told = gains_on-last p.hops p.opens.1.0 (with_received added ended) old mid new
      (subst (λ (w : List Conversation). Gains (p.hops ++ w) old mid) p.opens.1.1 p.told) told;
  most = one (with_received added ended p.opens.1.0) refl (asks_on p.last body p.opens.1.0 added ended p.opens.1.2.opens.asks);
  ends = ends;
}

pub collect_fault : (step : Step) (r : Request) (body : List ℕ) (limit : ℕ) (old mid new : Conversations) (reader after : Reader) (head : Head) (first : List ℕ) (fault : AnswerFault) (s : ExchangeFault)
    → first ≡ after.held.first → IsShown step first fault s → Chained step r body 5 old mid reader (Ok head)
    → Collects mid new reader after limit (Err fault) → Exchanges step r body limit old new (Err s)
collect_fault step r body limit old mid new reader after head first fault s same is p q =
    went_on step r body limit old mid new reader head (Err s) p q.added q.ended q.told
    (shown_ends step p.last body limit (5 - p.count) (with_received q.added q.ended c ∷ []) after.held.first fault s
    (subst (λ (w : List ℕ). IsShown step w fault s) same is) (by_cause (outcome_of fault) (q.collected (body_framing (is_get p.last) o.h) o.rest o.streams)))
  where
    c : Conversation
    c = p.opens.1.0

    o : IsOpen p.last body head reader c
    o = p.opens.1.2

    by_cause : (x : Option Outcome) → IfSome x (λ u. NoFramedBody (body_framing (is_get p.last) o.h) limit u (o.rest ++ q.added) q.ended)
        → IfSome x (λ u. CameUnder p.last body limit u after.held.first (with_received q.added q.ended c ∷ []))
    by_cause None n = tt
    by_cause (Some u) n = record {
      c = with_received q.added q.ended c;
      gained_is = refl;
      comes = comes_on p.last body o.h o.rest c limit q.added q.ended u o.opens o.more (spells_no_body p.last body o.h o.rest c limit q.added q.ended u o.opens n);
      noted = shown_more c.received q.added reader.held.first after.held.first o.noted q.noted;
    }

pub collect_lost : (step : Step) (r : Request) (body : List ℕ) (limit : ℕ) (old mid new : Conversations) (reader after : Reader) (head : Head) (bytes : List ℕ)
    → Chained step r body 5 old mid reader (Ok head) → Collects mid new reader after limit (Ok bytes) → Exchanges step r body limit old new (Err long.Memory)
collect_lost step r body limit old mid new reader after head bytes p q =
    went_on step r body limit old mid new reader head (Err long.Memory) p q.added q.ended q.told tt

pub exchanged : (step : Step) (r : Request) (body : List ℕ) (limit : ℕ) (old mid new : Conversations) (reader after : Reader) (head : Head) (bytes : List ℕ) (response : Response)
    → ((h : ResponseHead) → Shows head h → answer_of response ≡ answer_with h bytes) → Chained step r body 5 old mid reader (Ok head)
    → Collects mid new reader after limit (Ok bytes) → Exchanges step r body limit old new (Ok response)
exchanged step r body limit old mid new reader after head bytes response shows p q =
    went_on step r body limit old mid new reader head (Ok response) p q.added q.ended q.told (
      ap (λ (n : ℕ). redirects p.last n) (ap (λ (a : Answer). a.status) (shows o.h o.shows) ∙ sym o.shows.status) ∙ p.opens.0,
      (
        with_received q.added q.ended c,
        refl,
        comes_on p.last body o.h o.rest c limit q.added q.ended (answer (answer_of response)) o.opens o.more
            (subst (λ (a : Answer). Spells (is_get p.last) limit (answer a) (c.received ++ q.added) q.ended) (sym (shows o.h o.shows))
            (spells_body p.last body o.h o.rest c limit q.added bytes q.ended o.opens (q.collected (body_framing (is_get p.last) o.h) o.rest o.streams))),
      ),
    )
  where
    c : Conversation
    c = p.opens.1.0

    o : IsOpen p.last body head reader c
    o = p.opens.1.2
