-- One request, from the calls that send it and receive the head of its answer.
use Rattle.std.proofs.Common.{◌≡◌, ◌≢◌, ℕ, inl, inr, Bool, false, List, [], ◌∷◌, ◌++◌, take, refl, arith, ap, sym, subst, ◌∙◌, append_assoc, Ok, Err, Option, Some, None, IfSome, MatchOption}
use Rattle.skopeo_outside.specs.declared.stop.Stop.{Stop}
use Rattle.skopeo_outside.specs.declared.stop.Stop.TheVariants.{Fault, Memory}
use Rattle.skopeo_outside.specs.Wire.{Conversation, Conversations, Gains, GoesOn, SendsPart, with_sent, with_received}
use Rattle.skopeo_outside.proofs.WireLemmas.{gains_on, append_none}
use Rattle.http_message.specs.declared.fault.AnswerFault.{AnswerFault}
use Rattle.http_message.specs.declared.request.Request.{Request}
use Rattle.http_message.specs.Outcome.{Outcome, unfinished, outcome_of}
use Rattle.http_message.specs.Faults.{shown}
use Rattle.http_message.specs.Requests.{text_of, lines_of}
use Rattle.http_message.specs.Sent.{with_head}
use Rattle.http_message.specs.Spelling.{Spells, no_head}
use Rattle.http_exchange.specs.declared.state.State.{State}
use Rattle.http_exchange.specs.declared.opening.Opening.{Opening}
use Rattle.http_exchange.specs.Received.{Held, Receives, fault_of_stop, empty}
use Rattle.http_exchange.specs.Reader.{Reader, fresh, Stands, Streams}
use Rattle.http_exchange.specs.Streaming.{IsNoBody}
use Rattle.http_message.specs.declared.framing.Framing.{Framing}
use Rattle.http_exchange.specs.Opening.{OpeningFound, NoOpening, body_framing}
use Rattle.http_exchange.specs.Sending.{sending_to, host_name, SendsFront, nothing, front, FailsSending}
use Rattle.http_exchange.specs.Talk.{is_get, Asks, Comes}
use Rattle.http_exchange.specs.Asked.{AtMostOne, none, one, CameTo, OpenOr, Asked}
use Rattle.http_exchange.proofs.Collecting.{or_false}

with_head-append : (ls : List (List ℕ)) (a b : List ℕ) → with_head ls a ++ b ≡ with_head ls (a ++ b)
with_head-append [] a b = refl
with_head-append (l ∷ ls) a b =
    append_assoc l (13 ∷ 10 ∷ with_head ls a) b ∙ ap (λ (w : List ℕ). l ++ (13 ∷ 10 ∷ w)) (with_head-append ls a b)

-- the head of a request, and then its body
pub text_of-append : (r : Request) (a b : List ℕ) → text_of r a ++ b ≡ text_of r (a ++ b)
text_of-append r a b = with_head-append (lines_of r) a b

-- where nothing came, nothing is known
pub nothing_yet : (get : Bool) (limit : ℕ) → Spells get limit unfinished [] false
nothing_yet get limit = no_head (record {
  count = 0;
  here = [];
  passed = refl;
  why = inl (omega arith, inl (refl, omega arith, λ i h. absurd (omega arith)));
})

part_of_head : (r : Request) (body sent rest : List ℕ) → sent ++ rest ≡ text_of r [] → Asks r body (sending_to r sent)
part_of_head r body sent rest e = record {
  host_is = refl;
  port_is = refl;
  rest = rest ++ body;
  front = sym (append_assoc sent rest body) ∙ ap (λ (w : List ℕ). w ++ body) e ∙ text_of-append r [] body;
}

part_of_body : (r : Request) (body sent rest : List ℕ) → sent ++ rest ≡ body → Asks r body (sending_to r (text_of r [] ++ sent))
part_of_body r body sent rest e = record {
  host_is = refl;
  port_is = refl;
  rest = rest;
  front = append_assoc (text_of r []) sent rest ∙ ap (λ (w : List ℕ). text_of r [] ++ w) e ∙ text_of-append r [] body;
}

-- a part was sent, and nothing came
came_nothing : (r : Request) (body sent first : List ℕ) → Asks r body (sending_to r sent) → first ≡ [] → CameTo r body unfinished first (sending_to r sent ∷ [])
came_nothing r body sent first asks known = record {
  c = sending_to r sent;
  gained_is = refl;
  comes = λ limit. record { asks = asks; whole = inr (refl, refl); spells = nothing_yet (is_get r) limit };
  noted = known;
}

pub head_failed : (stop : Stop) (r : Request) (body : List ℕ) (old new : Conversations) (reader : Reader) → reader ≡ fresh
    → FailsSending (host_name r.host) r.port (text_of r []) stop old new → Asked r body old new reader (Err (fault_of_stop stop))
head_failed stop r body old new reader is f = record { gained = f.gained; told = f.told; most = most f.sends; gives = by_stop stop f.sends f.some }
  where
    known : reader.held.first ≡ []
    known = ap (λ (w : Reader). w.held.first) is

    most : SendsFront (host_name r.host) r.port (text_of r []) f.gained → AtMostOne r body f.gained
    most (nothing e) = none e
    most (front sent rest e g) = one (sending_to r sent) g (part_of_head r body sent rest e)

    by_stop : (s : Stop) → SendsFront (host_name r.host) r.port (text_of r []) f.gained → (s ≡ Fault → f.gained ≢ [])
        → OpenOr r body reader f.gained (Err (fault_of_stop s))
    by_stop Memory sends some = tt
    by_stop Fault (nothing e) some = absurd (some refl e)
    by_stop Fault (front sent rest e g) some =
        subst (λ (w : List Conversation). CameTo r body unfinished reader.held.first w) (sym g)
        (came_nothing r body sent reader.held.first (part_of_head r body sent rest e) known)

pub body_failed : (stop : Stop) (r : Request) (body : List ℕ) (old mid new : Conversations) (reader : Reader) → reader ≡ fresh
    → Gains (sending_to r (text_of r []) ∷ []) old mid → SendsPart body mid new → Asked r body old new reader (Err (fault_of_stop stop))
body_failed stop r body old mid new reader is g s = record {
  gained = sending_to r (text_of r [] ++ s.sent) ∷ [];
  told = gains_on (sending_to r (text_of r [])) (with_sent s.sent) old mid new g s.goes_on;
  most = one (sending_to r (text_of r [] ++ s.sent)) refl asks;
  gives = by_stop stop;
}
  where
    asks : Asks r body (sending_to r (text_of r [] ++ s.sent))
    asks = part_of_body r body s.sent s.rest s.front

    by_stop : (t : Stop) → OpenOr r body reader (sending_to r (text_of r [] ++ s.sent) ∷ []) (Err (fault_of_stop t))
    by_stop Memory = tt
    by_stop Fault = came_nothing r body (text_of r [] ++ s.sent) reader.held.first asks (ap (λ (w : Reader). w.held.first) is)

-- ---- what came behind a request that was sent whole

whole_talk : Request → List ℕ → List ℕ → Bool → Conversation
whole_talk r body received ended = with_received received ended (sending_to r (text_of r [] ++ body))

sent_whole : (r : Request) (body received : List ℕ) (ended : Bool) → (whole_talk r body received ended).sent ≡ text_of r body
unfolding whole_talk
sent_whole r body received ended = text_of-append r [] body

asks_whole : (r : Request) (body received : List ℕ) (ended : Bool) → Asks r body (whole_talk r body received ended)
unfolding whole_talk
asks_whole r body received ended = record {
  host_is = refl;
  port_is = refl;
  rest = [];
  front = append_none (text_of r [] ++ body) ∙ text_of-append r [] body;
}

told_whole : (r : Request) (body received : List ℕ) (ended : Bool) (old m1 m2 new : Conversations) → Gains (sending_to r (text_of r []) ∷ []) old m1
    → GoesOn (with_sent body) m1 m2 → GoesOn (with_received received ended) m2 new → Gains (whole_talk r body received ended ∷ []) old new
unfolding whole_talk
told_whole r body received ended old m1 m2 new g s t =
    gains_on (sending_to r (text_of r [] ++ body)) (with_received received ended) old m2 new
    (gains_on (sending_to r (text_of r [])) (with_sent body) old m1 m2 g s) t

spelled_whole : (r : Request) (body received : List ℕ) (ended : Bool) (limit : ℕ) (o : Outcome) → Spells (is_get r) limit o received ended
    → Comes r body limit o (whole_talk r body received ended)
unfolding whole_talk
spelled_whole r body received ended limit o spells = record {
  asks = asks_whole r body received ended;
  whole = inl (sent_whole r body received ended);
  spells = subst (λ (t : Bool). Spells (is_get r) limit o received t) (sym (or_false ended)) spells;
}

noted_whole : (r : Request) (body received first : List ℕ) (ended : Bool) → first ≡ take 64 received → first ≡ shown (whole_talk r body received ended).received
unfolding whole_talk
noted_whole r body received first ended e = e

pub not_opened : (r : Request) (body : List ℕ) (get : Bool) (old m1 m2 new : Conversations) (reader : Reader) (h k : Held) (fault : AnswerFault) → get ≡ is_get r
    → h ≡ empty → reader.held ≡ k → Gains (sending_to r (text_of r []) ∷ []) old m1 → GoesOn (with_sent body) m1 m2
    → Receives m2 new h k (OpeningFound get k.waiting) (NoOpening get) (Err fault) → Asked r body old new reader (Err fault)
not_opened r body get old m1 m2 new reader h k fault same none_held held g s p = record {
  gained = whole_talk r body q.added q.ended ∷ [];
  told = told_whole r body q.added q.ended old m1 m2 new g s q.told;
  most = one (whole_talk r body q.added q.ended) refl (asks_whole r body q.added q.ended);
  gives = by_cause (outcome_of fault) q.gives;
}
  where
    q : Receives m2 new empty k (OpeningFound get k.waiting) (NoOpening get) (Err fault)
    q = subst (λ (w : Held). Receives m2 new w k (OpeningFound get k.waiting) (NoOpening get) (Err fault)) none_held p

    by_cause : (o : Option Outcome) → IfSome o (λ u. NoOpening get u q.added q.ended)
        → IfSome o (λ u. CameTo r body u reader.held.first (whole_talk r body q.added q.ended ∷ []))
    by_cause None n = tt
    by_cause (Some u) n = record {
      c = whole_talk r body q.added q.ended;
      gained_is = refl;
      comes = λ limit. spelled_whole r body q.added q.ended limit u (subst (λ (b : Bool). Spells b limit u q.added q.ended) same (n limit));
      noted = noted_whole r body q.added reader.held.first q.ended (ap (λ (w : Held). w.first) held ∙ q.noted.shows);
    }

streams_so : (reader : Reader) (f : Framing) → reader.failed ≡ None → Stands reader.state f [] reader.held.waiting false reader.held.waiting
    → Streams reader f [] reader.held.waiting false
streams_so reader f alive st =
    subst (λ (w : Option AnswerFault). MatchOption w (Stands reader.state f [] reader.held.waiting false reader.held.waiting)
    (λ e. IfSome (outcome_of e) (λ o. IsNoBody f [] o reader.held.waiting false))) (sym alive) st

pub opened : (r : Request) (body : List ℕ) (get : Bool) (old m1 m2 new : Conversations) (reader : Reader) (h : Held) (opening : Opening) → get ≡ is_get r
    → h ≡ empty → reader.state ≡ opening.state → reader.failed ≡ None → Gains (sending_to r (text_of r []) ∷ []) old m1 → GoesOn (with_sent body) m1 m2
    → Receives m2 new h reader.held (OpeningFound get reader.held.waiting) (NoOpening get) (Ok opening)
    → Asked r body old new reader (Ok opening.head)
unfolding whole_talk
opened r body get old m1 m2 new reader h opening same none_held state alive g s p = record {
  gained = c ∷ [];
  told = told_whole r body q.added q.ended old m1 m2 new g s q.told;
  most = one c refl (asks_whole r body q.added q.ended);
  gives = (
    c,
    refl,
    record {
      h = q.gives.0;
      rest = reader.held.waiting;
      opens = record { asks = asks_whole r body q.added q.ended; whole = sent_whole r body q.added q.ended; head = q.gives.1; plain = q.gives.3 };
      shows = q.gives.2;
      streams = streams_so reader (body_framing (is_get r) q.gives.0) alive
          (subst (λ (t : State). Stands t (body_framing (is_get r) q.gives.0) [] reader.held.waiting false reader.held.waiting) (sym state)
          (subst (λ (b : Bool). Stands opening.state (body_framing b q.gives.0) [] reader.held.waiting false reader.held.waiting) same q.gives.4));
      more = or_false q.ended ∙ q.gives.5;
      noted = noted_whole r body q.added reader.held.first q.ended q.noted.shows;
    },
  );
}
  where
    q : Receives m2 new empty reader.held (OpeningFound get reader.held.waiting) (NoOpening get) (Ok opening)
    q = subst (λ (w : Held). Receives m2 new w reader.held (OpeningFound get reader.held.waiting) (NoOpening get) (Ok opening)) none_held p

    c : Conversation
    c = whole_talk r body q.added q.ended
