-- Redirects that are followed, one conversation each.
use Rattle.std.proofs.Common.{◌≡◌, ℕ, suc, ◌-◌, ◌<◌, inl, inr, true, false, List, [], ◌∷◌, ◌++◌, refl, arith, ap, sym, subst, ◌∙◌, append_assoc, Result, Ok, Err, Option, Some, None, IfSome, option_map}
use Rattle.skopeo_outside.specs.declared.words.Step.{Step}
use Rattle.skopeo_outside.specs.Wire.{Conversation, Conversations, Gains}
use Rattle.http_message.specs.declared.head.Head.{Head}
use Rattle.http_message.specs.declared.request.Request.{Request}
use Rattle.http_message.specs.declared.fault.AnswerFault.{AnswerFault}
use Rattle.http_message.specs.declared.fault.AnswerFault.TheVariants as short
use Rattle.http_message.specs.declared.fault.ExchangeFault.{ExchangeFault}
use Rattle.http_message.specs.declared.fault.ExchangeFault.TheVariants as long
use Rattle.http_message.specs.Outcome.{Header, Outcome, outcome_of}
use Rattle.http_message.specs.Faults.{fault_of}
use Rattle.http_message.specs.Spelling.{told_headers}
use Rattle.http_exchange.specs.Reader.{Reader}
use Rattle.http_exchange.specs.Talk.{IsOpen}
use Rattle.http_exchange.specs.Asked.{Asked, CameTo, CameUnder}
use Rattle.http_exchange.specs.Locations.{Lead, plain, tls, nowhere, lead_in, shown_location}
use Rattle.http_exchange.specs.Chain.{redirects, Redirected, Strays, EndsBy}
use Rattle.http_exchange.specs.Opened.{Chained, OpenSo}
use Rattle.http_exchange.specs.Hopping.{IsShown, kept_lead, kept_location, IsNext, NoNext}

pub gains_more : (xs ys : List Conversation) (old mid new : Conversations) → Gains xs old mid → Gains ys mid new → Gains (xs ++ ys) old new
gains_more xs ys None mid new p q = q ∙ ap (λ (t : Conversations). option_map (λ (cs : List Conversation). cs ++ ys) t) p
gains_more xs ys (Some cs) mid new p q =
    q ∙ ap (λ (t : Conversations). option_map (λ (ds : List Conversation). ds ++ ys) t) p
    ∙ ap (λ (ds : List Conversation). Some ds) (append_assoc cs xs ys)

no_less : (n : ℕ) → n ≡ n - 0
no_less n = omega arith

-- ---- the first request comes to a fault

fault_ends : (step : Step) (r : Request) (body : List ℕ) (limit left : ℕ) (gained : List Conversation) (first : List ℕ) (fault : AnswerFault)
    → IfSome (outcome_of fault) (λ o. CameUnder r body limit o first gained) → EndsBy step r body limit left gained (fault_of step first fault)
fault_ends step r body limit left gained first short.BadAnswer came = (refl, (came.c, came.gained_is, inl (came.noted, came.comes)))
fault_ends step r body limit left gained first (short.HeadTooLong n) came = (came.c, came.gained_is, came.comes)
fault_ends step r body limit left gained first (short.HeadersTooMany n) came = (came.c, came.gained_is, came.comes)
fault_ends step r body limit left gained first (short.BodyTooLong n) came = (came.c, came.gained_is, came.comes)
fault_ends step r body limit left gained first short.Encoded came = (came.c, came.gained_is, came.comes)
fault_ends step r body limit left gained first short.Wire came = (came.c, came.gained_is, came.comes)
fault_ends step r body limit left gained first short.Memory came = tt

pub shown_ends : (step : Step) (r : Request) (body : List ℕ) (limit left : ℕ) (gained : List Conversation) (first : List ℕ) (fault : AnswerFault) (s : ExchangeFault)
    → IsShown step first fault s → IfSome (outcome_of fault) (λ o. CameUnder r body limit o first gained) → EndsBy step r body limit left gained s
shown_ends step r body limit left gained first fault s (inl memory) came =
    subst (λ (e : ExchangeFault). EndsBy step r body limit left gained e) (sym memory) tt
shown_ends step r body limit left gained first fault s (inr is) came =
    subst (λ (e : ExchangeFault). EndsBy step r body limit left gained e) (sym is) (fault_ends step r body limit left gained first fault came)

under : (r : Request) (body : List ℕ) (limit : ℕ) (first : List ℕ) (gained : List Conversation) (o : Option Outcome)
    → IfSome o (λ u. CameTo r body u first gained) → IfSome o (λ u. CameUnder r body limit u first gained)
under r body limit first gained None n = tt
under r body limit first gained (Some u) n = record { c = n.c; gained_is = n.gained_is; comes = n.comes limit; noted = n.noted }

pub follow_fault : (step : Step) (r : Request) (body : List ℕ) (left : ℕ) (old new : Conversations) (reader : Reader) (first : List ℕ) (fault : AnswerFault) (s : ExchangeFault)
    → first ≡ reader.held.first → IsShown step first fault s → Asked r body old new reader (Err fault) → Chained step r body left old new reader (Err s)
follow_fault step r body left old new reader first fault s same is asked = record {
  count = 0;
  few = omega arith;
  hops = [];
  last = r;
  follows = (refl, refl);
  gained = asked.gained;
  told = asked.told;
  most = asked.most;
  opens = λ limit. shown_ends step r body limit (left - 0) asked.gained reader.held.first fault s
      (subst (λ (w : List ℕ). IsShown step w fault s) same is) (under r body limit reader.held.first asked.gained (outcome_of fault) asked.gives);
}

-- ---- the first request is answered

redirected : (r : Request) (body : List ℕ) (head : Head) (reader : Reader) (lead : Lead) (c : Conversation) → IsOpen r body head reader c
    → redirects r head.status ≡ true → kept_lead r head ≡ lead → Redirected r body lead c
redirected r body head reader lead c is status leads = record {
  h = is.h;
  rest = is.rest;
  opens = is.opens;
  status = sym (ap (λ (n : ℕ). redirects r n) is.shows.status) ∙ status;
  leads = sym (ap (λ (hs : List Header). lead_in r.host r.port (told_headers hs)) is.shows.fields) ∙ leads;
}

strays : (r : Request) (body : List ℕ) (head : Head) (reader : Reader) (first : List ℕ) (c : Conversation) → IsOpen r body head reader c
    → redirects r head.status ≡ true → first ≡ kept_location head → kept_lead r head ≡ nowhere → Strays r body first c
unfolding redirected
strays r body head reader first c is status shows leads = record {
  redirected = redirected r body head reader nowhere c is status leads;
  location = shows ∙ ap (λ (hs : List Header). shown_location (told_headers hs)) is.shows.fields;
}

stops_ends : (step : Step) (r : Request) (body : List ℕ) (head : Head) (reader : Reader) (limit left : ℕ) (gained : List Conversation) (fault : ExchangeFault)
    → (c : Conversation) → gained ≡ c ∷ [] → IsOpen r body head reader c → redirects r head.status ≡ true
    → NoNext step r head left fault → EndsBy step r body limit (left - 0) gained fault
stops_ends step r body head reader limit left gained (long.BadAnswer s w) c one is status n = (
  n.1,
  (c, one, inr (omega (arith, n.0), strays r body head reader w c is status n.2 n.3)),
)
stops_ends step r body head reader limit left gained long.TooManyRedirects c one is status n =
    (omega (arith, n), (c, one, (kept_lead r head, redirected r body head reader (kept_lead r head) c is status refl)))
stops_ends step r body head reader limit left gained (long.TlsRequired host) c one is status n =
    (omega (arith, n.0), (c, one, redirected r body head reader (tls host) c is status n.1))
stops_ends step r body head reader limit left gained long.Memory c one is status n = tt
stops_ends step r body head reader limit left gained long.Wire c one is status n = absurd n
stops_ends step r body head reader limit left gained (long.HeadTooLong k) c one is status n = absurd n
stops_ends step r body head reader limit left gained (long.HeadersTooMany k) c one is status n = absurd n
stops_ends step r body head reader limit left gained (long.BodyTooLong k) c one is status n = absurd n
stops_ends step r body head reader limit left gained long.Encoded c one is status n = absurd n

pub follow_stops : (step : Step) (r : Request) (body : List ℕ) (left : ℕ) (old new : Conversations) (reader : Reader) (head : Head) (fault : ExchangeFault)
    → redirects r head.status ≡ true → NoNext step r head left fault
    → Asked r body old new reader (Ok head) → Chained step r body left old new reader (Err fault)
follow_stops step r body left old new reader head fault status n asked = record {
  count = 0;
  few = omega arith;
  hops = [];
  last = r;
  follows = (refl, refl);
  gained = asked.gained;
  told = asked.told;
  most = asked.most;
  opens = λ limit. stops_ends step r body head reader limit left asked.gained fault asked.gives.0 asked.gives.1 asked.gives.2 status n;
}

pub follow_done : (step : Step) (r : Request) (body : List ℕ) (left : ℕ) (old new : Conversations) (reader : Reader) (head : Head)
    → redirects r head.status ≡ false → Asked r body old new reader (Ok head) → Chained step r body left old new reader (Ok head)
follow_done step r body left old new reader head status asked = record {
  count = 0;
  few = omega arith;
  hops = [];
  last = r;
  follows = (refl, refl);
  gained = asked.gained;
  told = asked.told;
  most = asked.most;
  opens = (status, asked.gives);
}

one_less : (left count : ℕ) → 0 < left → (left - 1) - count ≡ left - suc count
one_less left count some = omega arith

pub follow_on : (step : Step) (r next : Request) (body : List ℕ) (left : ℕ) (old mid new : Conversations) (reader after : Reader) (head : Head) (result : Result Head ExchangeFault)
    → redirects r head.status ≡ true → 0 < left → IsNext r head next → Asked r body old mid reader (Ok head)
    → Chained step next body (left - 1) mid new after result → Chained step r body left old new after result
follow_on step r next body left old mid new reader after head result status some is asked q = record {
  count = suc q.count;
  few = omega (arith, q.few, some);
  hops = c ∷ q.hops;
  last = q.last;
  follows = (
    next,
    c,
    q.hops,
    refl,
    record {
      host = is.host;
      port = is.port;
      target = is.target;
      redirected = redirected r body head reader (plain is.host is.port is.target) c asked.gives.2 status is.leads;
      next_is = is.next_is;
    },
    q.follows,
  );
  gained = q.gained;
  told = gains_more (c ∷ []) (q.hops ++ q.gained) old mid new (subst (λ (w : List Conversation). Gains w old mid) asked.gives.1 asked.told) q.told;
  most = q.most;
  opens = subst (λ (k : ℕ). OpenSo step q.last body k q.gained after result) (one_less left q.count some) q.opens;
}
  where
    c : Conversation
    c = asked.gives.0
