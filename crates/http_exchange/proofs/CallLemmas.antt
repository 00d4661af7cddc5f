-- The public calls, from what they are made of.
use Rattle.std.proofs.Common.{◌≡◌, ◌≢◌, ◌⊎◌, inl, inr, ℕ, Bool, false, ◌||◌, List, [], ◌++◌, refl, ap, sym, subst, ◌∙◌, Ok, Err, Option, Some, None, IfSome, MatchOption}
use Rattle.skopeo_outside.specs.declared.stop.Stop.{Stop}
use Rattle.skopeo_outside.specs.declared.stop.Stop.TheVariants.{Fault, Memory as Want}
use Rattle.skopeo_outside.specs.declared.words.Step.{Step}
use Rattle.skopeo_outside.specs.Wire.{Conversation, Conversations, Gains}
use Rattle.httparse.specs.Grammar.{ResponseHead}
use Rattle.http_message.specs.declared.request.Request.{Request}
use Rattle.http_message.specs.declared.answer.Response.{Response}
use Rattle.http_message.specs.declared.fault.AnswerFault.{AnswerFault}
use Rattle.http_message.specs.declared.fault.AnswerFault.TheVariants as short
use Rattle.http_message.specs.declared.fault.ExchangeFault.{ExchangeFault}
use Rattle.http_message.specs.declared.fault.ExchangeFault.TheVariants as long
use Rattle.http_message.specs.Outcome.{Outcome, Answer, answer, outcome_of}
use Rattle.http_message.specs.Faults.{fault_of, shown}
use Rattle.http_message.specs.Shown.{Shows, answer_of}
use Rattle.http_message.specs.Spelling.{Spells, behind_head, bare, answer_with}
use Rattle.http_exchange.specs.declared.opening.Opening.{Opening}
use Rattle.http_exchange.specs.Received.{Held, Notes, Receives, empty}
use Rattle.http_message.specs.declared.framing.Framing.{Framing}
use Rattle.http_exchange.specs.Reader.{Reader, NextPiece, Stands, Streams}
use Rattle.http_exchange.specs.Filling.{Fills}
use Rattle.http_exchange.specs.Streaming.{IsNoBody}
use Rattle.http_exchange.specs.Opening.{OpeningFound, NoOpening}
use Rattle.http_exchange.specs.Sending.{FailsSending}
use Rattle.http_exchange.specs.Hopping.{IsShown}
use Rattle.http_exchange.specs.Opened.{Chained}
use Rattle.http_exchange.specs.Calls.{Says, Ends, IsStopped, FailsToBegin, Opened, OpensAnswer, GivesPiece}

fault_says : (step : Step) (first : List ℕ) (fault : AnswerFault) (Is : Outcome → Type 0) → IfSome (outcome_of fault) Is → Says step first Is (fault_of step first fault)
fault_says step first short.BadAnswer Is is = (refl, refl, is)
fault_says step first (short.HeadTooLong n) Is is = is
fault_says step first (short.HeadersTooMany n) Is is = is
fault_says step first (short.BodyTooLong n) Is is = is
fault_says step first short.Encoded Is is = is
fault_says step first short.Wire Is is = is
fault_says step first short.Memory Is is = tt

pub shown_says : (step : Step) (first : List ℕ) (fault : AnswerFault) (s : ExchangeFault) (Is : Outcome → Type 0) → IsShown step first fault s
    → IfSome (outcome_of fault) Is → Says step first Is s
shown_says step first fault s Is (inl memory) is = subst (λ (e : ExchangeFault). Says step first Is e) (sym memory) tt
shown_says step first fault s Is (inr same) is = subst (λ (e : ExchangeFault). Says step first Is e) (sym same) (fault_says step first fault Is is)

-- ---- the end of a request that was sent

pub end_fault : (step : Step) (limit : ℕ) (a b : Conversations) (h k : Held) (first : List ℕ) (fault : AnswerFault) (s : ExchangeFault) → h ≡ empty → first ≡ k.first
    → IsShown step first fault s → Receives a b h k (OpeningFound false k.waiting) (NoOpening false) (Err fault) → Ends step limit a b (Err s)
end_fault step limit a b h k first fault s none same is p = record {
  received = q.added;
  ended = q.ended;
  told = q.told;
  ends = shown_says step (shown q.added) fault s (λ (o : Outcome). Spells false limit o q.added q.ended)
      (subst (λ (w : List ℕ). IsShown step w fault s) (same ∙ q.noted.shows) is) (by_cause (outcome_of fault) q.gives);
}
  where
    q : Receives a b empty k (OpeningFound false k.waiting) (NoOpening false) (Err fault)
    q = subst (λ (w : Held). Receives a b w k (OpeningFound false k.waiting) (NoOpening false) (Err fault)) none p

    by_cause : (o : Option Outcome) → IfSome o (λ u. NoOpening false u q.added q.ended) → IfSome o (λ u. Spells false limit u q.added q.ended)
    by_cause None n = tt
    by_cause (Some u) n = n limit

pub end_done : (step : Step) (limit : ℕ) (a b : Conversations) (h k : Held) (opening : Opening) (body : List ℕ) (response : Response) → h ≡ empty → body ≡ []
    → ((g : ResponseHead) → Shows opening.head g → answer_of response ≡ answer_with g body)
    → Receives a b h k (OpeningFound false k.waiting) (NoOpening false) (Ok opening) → Ends step limit a b (Ok response)
end_done step limit a b h k opening body response none no_body shows p = record {
  received = q.added;
  ended = q.ended;
  told = q.told;
  ends = behind_head q.gives.0 k.waiting q.gives.1 (bare q.gives.3 refl
      (ap (λ (x : Answer). answer x) (shows q.gives.0 q.gives.2 ∙ ap (λ (w : List ℕ). answer_with q.gives.0 w) no_body)));
}
  where
    q : Receives a b empty k (OpeningFound false k.waiting) (NoOpening false) (Ok opening)
    q = subst (λ (w : Held). Receives a b w k (OpeningFound false k.waiting) (NoOpening false) (Ok opening)) none p

-- ---- a request that was not begun

stop_why : (stop : Stop) (fault : ExchangeFault) (gained : List Conversation) → IsStopped stop fault → (stop ≡ Fault → gained ≢ [])
    → (fault ≡ long.Memory) ⊎ ((fault ≡ long.Wire) × (gained ≢ []))
stop_why Fault fault gained is some = inr (is, some refl)
stop_why Want fault gained is some = inl is

pub begin_fails : (stop : Stop) (fault : ExchangeFault) (host : List ℕ) (port : ℕ) (text : List ℕ) (old mid new : Conversations) → IsStopped stop fault → new ≡ mid
    → FailsSending host port text stop old mid → FailsToBegin host port text fault old new
begin_fails stop fault host port text old mid new is same f = record {
  gained = f.gained;
  told = subst (λ (t : Conversations). Gains f.gained old t) (sym same) f.told;
  sends = f.sends;
  why = stop_why stop fault f.gained is f.some;
}

-- ---- an answer that was not opened

pub open_fault : (step : Step) (r : Request) (old mid new : Conversations) (reader : Reader) (fault : ExchangeFault) → new ≡ mid
    → Chained step r [] 5 old mid reader (Err fault) → OpensAnswer step r old new (Err fault)
open_fault step r old mid new reader fault same p = record {
  count = p.count;
  few = p.few;
  hops = p.hops;
  last = p.last;
  follows = p.follows;
  gained = p.gained;
  told = subst (λ (t : Conversations). Gains (p.hops ++ p.gained) old t) (sym same) p.told;
  most = p.most;
  opens = p.opens;
}

-- ---- a piece at fault

pub no_fault_failed : (fault : AnswerFault) → Some fault ≡ None → ⊥
no_fault_failed fault e = cc

pub piece_fault : (a b : Conversations) (before mid after : Opened) (r : Reader) (into : List ℕ) (fault : AnswerFault) (s : ExchangeFault) → r ≡ before.reader
    → mid.status ≡ before.status → mid.step ≡ before.step → after.status ≡ mid.status → after.step ≡ mid.step → after.reader.held ≡ mid.reader.held
    → IsShown mid.step mid.reader.held.first fault s → NextPiece a b r mid.reader into (Err fault) → GivesPiece a b before after into (Err s)
piece_fault a b before mid after r into fault s was status step status' step' held is p = record {
  added = q.added;
  ended = q.ended;
  told = q.told;
  noted = subst (λ (h : Held). Notes before.reader.held.first q.added h.first) (sym held) q.noted;
  piece = λ f given seen w st.
      subst (λ (h : Held). Says after.step h.first (λ o. IsNoBody f given o (seen ++ q.added) (q.ended || w)) s) (sym held)
      (subst (λ (x : Step). Says x mid.reader.held.first (λ o. IsNoBody f given o (seen ++ q.added) (q.ended || w)) s) (sym step')
      (shown_says mid.step mid.reader.held.first fault s (λ (o : Outcome). IsNoBody f given o (seen ++ q.added) (q.ended || w)) is (q.next f given seen w st)));
  streams = λ f given seen w st. tt;
  same = (status' ∙ status, step' ∙ step);
}
  where
    q : NextPiece a b before.reader mid.reader into (Err fault)
    q = subst (λ (x : Reader). NextPiece a b x mid.reader into (Err fault)) was p

-- ---- a reader that has not failed, and one that did

pub streams_alive : (r : Reader) (f : Framing) (given seen : List ℕ) (was : Bool) → r.failed ≡ None → Stands r.state f given seen was r.held.waiting → Streams r f given seen was
streams_alive r f given seen was alive st =
    subst (λ (x : Option AnswerFault). MatchOption x (Stands r.state f given seen was r.held.waiting) (λ e. IfSome (outcome_of e) (λ o. IsNoBody f given o seen was))) (sym alive) st

pub fill_stops : {a b : Conversations} {before after : Reader} (into : List ℕ) (fault : AnswerFault) → Fills a b before after into (Err fault)
    → NextPiece a b before after into (Err fault)
fill_stops into fault p = record {
  added = p.added;
  ended = p.ended;
  told = p.told;
  noted = p.noted;
  room = tt;
  more = tt;
  next = λ f given seen w st. p.filled f given seen w st;
  alive = tt;
  stays = p.stays;
}
