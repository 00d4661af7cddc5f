-- Requests that put no manifest stay such requests wherever redirects lead.
use Rattle.std.proofs.Common.{◌≡◌, ℕ, zero, suc, ◌≤◌, ◌⊎◌, inl, inr, Bool, true, false, cond, ◌&&◌, nat_le, nat_eq, List, [], ◌∷◌, ◌++◌, length, drop, codes, refl, arith, ap, sym, subst, ◌∙◌, Option, Some, None, Result, map, Contains}
use Rattle.std.specs.List.{starts_with}
use Rattle.std.proofs.lemmas.List.Elements.{Contains-append_cases}
use Rattle.std.proofs.lemmas.Bool.{and_parts}
use Rattle.std.proofs.lemmas.Bool.Decides.{nat_tests}
use Rattle.skopeo_outside.specs.declared.words.Step.{Step}
use Rattle.skopeo_outside.specs.Wire.{Conversation, Conversations, Gains}
use Rattle.image_ref.specs.Characters.{slash}
use Rattle.image_ref.specs.Cuts.{cut_at}
use Rattle.image_ref.specs.Domain.{is_domain}
use Rattle.image_ref.proofs.DomainLaw.{is_domain-to, domain_byte, domain_bytes}
use Rattle.http_message.specs.declared.request.Request.{Request}
use Rattle.http_message.specs.declared.answer.Response.{Response}
use Rattle.http_message.specs.declared.fault.ExchangeFault.{ExchangeFault}
use Rattle.http_message.specs.Heads.{headers_of}
use Rattle.http_message.specs.Spelling.{told_headers}
use Rattle.http_message.specs.Sent.{is_one_line}
use Rattle.http_message.specs.Requests.{MaySend, text_of}
use Rattle.http_message.specs.OneRequest.{IsOneRequest, GainsRequests}
use Rattle.http_message.proofs.LaxHeads.{weaker, visible_line, holds_one}
use Rattle.http_message.specs.Writes.{BeginsPlain}
use Rattle.http_message.proofs.WriteLaws.{plain_requests}
use Rattle.http_message.specs.Visible.{are_visible}
use Rattle.http_message.specs.declared.head.Head.{Head}
use Rattle.skopeo_outside.specs.declared.stop.Stop.{Stop}
use Rattle.skopeo_outside.proofs.WireLemmas.{append_none}
use Rattle.http_exchange.specs.Reader.{Reader}
use Rattle.http_exchange.specs.Opened.{Chained}
use Rattle.http_exchange.specs.Sending.{host_name, sending_to, SendsFront, nothing, front, FailsSending}
use Rattle.http_exchange.specs.Locations.{plain, tls, nowhere, target_in, port_of, plain_lead, path_lead, lead_by, location_in}
use Rattle.http_exchange.specs.Talk.{Asks}
use Rattle.http_exchange.specs.Asked.{AtMostOne, none, one}
use Rattle.http_exchange.specs.Chain.{Hop, Follows, Exchanges, request_at}
use Rattle.http_message.specs.Shown.{field_bytes}
use Rattle.http_exchange.specs.Hopping.{IsNext}
use Rattle.http_exchange.specs.Plain.{IsMild, PlainExchange, PlainOpening}

-- ---- texts of visible bytes

domain_is_visible : (b : ℕ) → domain_byte b ≡ true → (nat_le 33 b && nat_le b 126) ≡ true
domain_is_visible b h = grind (arith, nat_tests)

pub domain_visible : (text : List ℕ) → is_domain text ≡ true → are_visible text ≡ true
domain_visible text h = weaker domain_byte (λ b. nat_le 33 b && nat_le b 126) domain_is_visible text (domain_bytes text (is_domain-to text h))

pub domain_line : (text : List ℕ) → is_domain text ≡ true → is_one_line text ≡ true
domain_line text h = visible_line text (domain_visible text h)

-- ---- where a location leads

-- to the host that was asked or to a domain, and to a visible target
record Led (asked host target : List ℕ) : Type 0 where
  host_is : (host ≡ asked) ⊎ (is_domain host ≡ true)
  visible : are_visible target ≡ true

no_lead : (host target : List ℕ) (port : ℕ) → nowhere ≡ plain host port target → ⊥
no_lead host target port e = cc

no_tls : (name host target : List ℕ) (port : ℕ) → tls name ≡ plain host port target → ⊥
no_tls name host target port e = cc

same_place : (asked h t host target : List ℕ) (p port : ℕ) → plain h p t ≡ plain host port target → (h ≡ asked) ⊎ (is_domain h ≡ true)
    → are_visible t ≡ true → Led asked host target
same_place asked h t host target p port e a b =
    let f : h ≡ host = cc in
    let g : t ≡ target = cc in
    record {
      host_is = subst (λ (w : List ℕ). (w ≡ asked) ⊎ (is_domain w ≡ true)) f a;
      visible = subst (λ (w : List ℕ). are_visible w ≡ true) g b;
    }

plain_led : (asked : List ℕ) (b : Bool) (h : List ℕ) (path : Option (List ℕ)) (host target : List ℕ) (port : ℕ) → (is_domain h && are_visible (target_in path)) ≡ b
    → cond b (plain h (port_of h) (target_in path)) nowhere ≡ plain host port target → Led asked host target
plain_led asked true h path host target port is e =
    let p = and_parts (is_domain h) (are_visible (target_in path)) is in
    same_place asked h (target_in path) host target (port_of h) port e (inr p.0) p.1
plain_led asked false h path host target port is e = absurd (no_lead host target port e)

path_led : (a b : Bool) (h : List ℕ) (p : ℕ) (text host target : List ℕ) (port : ℕ) → are_visible text ≡ b
    → cond (a && b) (plain h p text) nowhere ≡ plain host port target → Led h host target
path_led true true h p text host target port is e = same_place h h text host target p port e (inl refl) is
path_led true false h p text host target port is e = absurd (no_lead host target port e)
path_led false b h p text host target port is e = absurd (no_lead host target port e)

of_led : (a b : Bool) (h : List ℕ) (p : ℕ) (text host target : List ℕ) (port : ℕ)
    → cond a (plain_lead (cut_at slash (drop 7 text)).0 (cut_at slash (drop 7 text)).1) (cond b (tls (cut_at slash (drop 8 text)).0) (path_lead h p text)) ≡ plain host port target
    → Led h host target
of_led true b h p text host target port e =
    plain_led h (is_domain (cut_at slash (drop 7 text)).0 && are_visible (target_in (cut_at slash (drop 7 text)).1)) (cut_at slash (drop 7 text)).0 (cut_at slash (drop 7 text)).1
    host target port refl e
of_led false true h p text host target port e = absurd (no_tls (cut_at slash (drop 8 text)).0 host target port e)
of_led false false h p text host target port e = path_led (starts_with nat_eq text (codes "/")) (are_visible text) h p text host target port refl e

lead_led : (h : List ℕ) (p : ℕ) (location : Option (List ℕ)) (host target : List ℕ) (port : ℕ) → lead_by h p location ≡ plain host port target → Led h host target
lead_led h p None host target port e = absurd (no_lead host target port e)
lead_led h p (Some value) host target port e =
    of_led (starts_with nat_eq (cut_at 35 value).0 (codes "http://")) (starts_with nat_eq (cut_at 35 value).0 (codes "https://")) h p (cut_at 35 value).0 host target port e

hop_led : (r next : Request) (body : List ℕ) (c : Conversation) → (hop : Hop r body next c) → Led r.host hop.host hop.target
hop_led r next body c hop = lead_led r.host r.port (location_in (told_headers (headers_of hop.redirected.h))) hop.host hop.target hop.port hop.redirected.leads

-- ---- requests that stay mild

mild_at : (r : Request) (body host target : List ℕ) (port : ℕ) → Led r.host host target → IsMild r body → IsMild (request_at r host port target) body
mild_at r body host target port led m = record {
  clean = record { method = m.clean.method; host = line led.host_is; target = visible_line target led.visible; content_type = m.clean.content_type; size = m.clean.size };
  fits = m.fits;
  no_put = m.no_put;
  no_delete = m.no_delete;
}
  where
    line : (host ≡ r.host) ⊎ (is_domain host ≡ true) → is_one_line host ≡ true
    line (inl same) = ap is_one_line same ∙ m.clean.host
    line (inr domain) = domain_line host domain

mild_next : (r next : Request) (body : List ℕ) (c : Conversation) → IsMild r body → Hop r body next c → IsMild next body
mild_next r next body c m hop =
    subst (λ (q : Request). IsMild q body) (sym hop.next_is) (mild_at r body hop.host hop.target hop.port (hop_led r next body c hop) m)

begins_mild : (r : Request) (body : List ℕ) (c : Conversation) → IsMild r body → Asks r body c → BeginsPlain c
begins_mild r body c m asks = record {
  request = r;
  body = body;
  begun = record { tail = asks.rest; begins = record { clean = m.clean; fits = m.fits; front = asks.front } };
  no_put = m.no_put;
  no_delete = m.no_delete;
}

only : (c d : Conversation) → Contains (c ∷ []) d → c ≡ d
only c d (zero, inside, is) = is
only c d (suc k, inside, is) = absurd (omega arith)

none_there : (d : Conversation) → Contains {X = Conversation} [] d → ⊥
none_there d (k, inside, is) = omega arith

last_plain : (r : Request) (body : List ℕ) (gained : List Conversation) (d : Conversation) → IsMild r body → AtMostOne r body gained → Contains gained d → BeginsPlain d
last_plain r body gained d m (none e) among = absurd (none_there d (subst (λ (w : List Conversation). Contains w d) e among))
last_plain r body gained d m (one c e asks) among =
    subst BeginsPlain (only c d (subst (λ (w : List Conversation). Contains w d) e among)) (begins_mild r body c m asks)

each_plain : (count : ℕ) (r : Request) (body : List ℕ) (hops : List Conversation) (last : Request) (gained : List Conversation) (d : Conversation) → IsMild r body
    → Follows count r body hops last → AtMostOne last body gained → Contains (hops ++ gained) d → BeginsPlain d
each_plain zero r body hops last gained d m f most among =
    last_plain r body gained d m (subst (λ (q : Request). AtMostOne q body gained) f.1 most)
    (subst (λ (w : List Conversation). Contains (w ++ gained) d) f.0 among)
each_plain (suc count) r body hops last gained d m f most among =
    by_place (Contains-append_cases (f.1 ∷ []) (f.2 ++ gained) d (subst (λ (w : List Conversation). Contains (w ++ gained) d) f.3 among))
    (λ there. each_plain count f.0 body f.2 last gained d (mild_next r f.0 body f.1 m f.4) f.5 most there)
  where
    by_place : Contains (f.1 ∷ []) d ⊎ Contains (f.2 ++ gained) d → (Contains (f.2 ++ gained) d → BeginsPlain d) → BeginsPlain d
    by_place (inl here) later = subst BeginsPlain (only f.1 d here) (begins_mild r body f.1 m f.4.redirected.opens.asks)
    by_place (inr there) later = later there

pub plain_exchange : PlainExchange
plain_exchange step r body limit old new result m e = record {
  gained = e.hops ++ e.gained;
  told = e.told;
  plain = plain_requests (e.hops ++ e.gained) (λ d among. each_plain e.count r body e.hops e.last e.gained d m e.follows e.most among);
}

pub plain_opening : PlainOpening
plain_opening step r old new result m e = record {
  gained = e.hops ++ e.gained;
  told = e.told;
  plain = plain_requests (e.hops ++ e.gained) (λ d among. each_plain e.count r [] e.hops e.last e.gained d m e.follows e.most among);
}

-- ---- requests that hold no second one

may_at : (r : Request) (size : ℕ) (host target : List ℕ) (port : ℕ) → Led r.host host target → MaySend r size → MaySend (request_at r host port target) size
may_at r size host target port led m = record {
  method = m.method;
  host = visible led.host_is;
  target = led.visible;
  content_type = m.content_type;
  counts = m.counts;
  small = m.small;
  asks = m.asks;
}
  where
    visible : (host ≡ r.host) ⊎ (is_domain host ≡ true) → are_visible host ≡ true
    visible (inl same) = ap are_visible same ∙ m.host
    visible (inr domain) = domain_visible host domain

may_next : (r next : Request) (body : List ℕ) (size : ℕ) (c : Conversation) → MaySend r size → Hop r body next c → MaySend next size
may_next r next body size c m hop =
    subst (λ (q : Request). MaySend q size) (sym hop.next_is) (may_at r size hop.host hop.target hop.port (hop_led r next body c hop) m)

asks_one : (r : Request) (body : List ℕ) (size : ℕ) (c : Conversation) → MaySend r size → length body ≤ size → Asks r body c → IsOneRequest c.sent
asks_one r body size c m fits asks = holds_one r size body c.sent asks.rest m fits asks.front

last_one : (r : Request) (body : List ℕ) (size : ℕ) (gained : List Conversation) (d : Conversation) → MaySend r size → length body ≤ size
    → AtMostOne r body gained → Contains gained d → IsOneRequest d.sent
last_one r body size gained d m fits (none e) among = absurd (none_there d (subst (λ (w : List Conversation). Contains w d) e among))
last_one r body size gained d m fits (one c e asks) among =
    subst (λ (x : Conversation). IsOneRequest x.sent) (only c d (subst (λ (w : List Conversation). Contains w d) e among)) (asks_one r body size c m fits asks)

each_one : (count : ℕ) (r : Request) (body : List ℕ) (size : ℕ) (hops : List Conversation) (last : Request) (gained : List Conversation) (d : Conversation) → MaySend r size
    → length body ≤ size → Follows count r body hops last → AtMostOne last body gained → Contains (hops ++ gained) d → IsOneRequest d.sent
each_one zero r body size hops last gained d m fits f most among =
    last_one r body size gained d m fits (subst (λ (q : Request). AtMostOne q body gained) f.1 most)
    (subst (λ (w : List Conversation). Contains (w ++ gained) d) f.0 among)
each_one (suc count) r body size hops last gained d m fits f most among =
    by_place (Contains-append_cases (f.1 ∷ []) (f.2 ++ gained) d (subst (λ (w : List Conversation). Contains (w ++ gained) d) f.3 among))
    (λ there. each_one count f.0 body size f.2 last gained d (may_next r f.0 body size f.1 m f.4) fits f.5 most there)
  where
    by_place : Contains (f.1 ∷ []) d ⊎ Contains (f.2 ++ gained) d → (Contains (f.2 ++ gained) d → IsOneRequest d.sent) → IsOneRequest d.sent
    by_place (inl here) later = subst (λ (x : Conversation). IsOneRequest x.sent) (only f.1 d here) (asks_one r body size f.1 m fits f.4.redirected.opens.asks)
    by_place (inr there) later = later there

pub one_exchange : (step : Step) (r : Request) (body : List ℕ) (limit : ℕ) (old new : Conversations) (result : Result Response ExchangeFault)
    → MaySend r (length body) → Exchanges step r body limit old new result → GainsRequests old new
one_exchange step r body limit old new result m e = record {
  gained = e.hops ++ e.gained;
  told = e.told;
  each = λ d among. each_one e.count r body (length body) e.hops e.last e.gained d m (omega arith) e.follows e.most among;
}

pub one_chained : (step : Step) (r : Request) (left : ℕ) (old new : Conversations) (reader : Reader) (result : Result Head ExchangeFault)
    → MaySend r 0 → Chained step r [] left old new reader result → GainsRequests old new
one_chained step r left old new reader result m e = record {
  gained = e.hops ++ e.gained;
  told = e.told;
  each = λ d among. each_one e.count r [] 0 e.hops e.last e.gained d m (omega arith) e.follows e.most among;
}

-- the head of a request, or a front of it
head_one : (r : Request) (size : ℕ) (gained : List Conversation) (d : Conversation) → MaySend r size
    → SendsFront (host_name r.host) r.port (text_of r []) gained → Contains gained d → IsOneRequest d.sent
head_one r size gained d m (nothing e) among = absurd (none_there d (subst (λ (w : List Conversation). Contains w d) e among))
head_one r size gained d m (front sent rest e is) among =
    subst (λ (x : Conversation). IsOneRequest x.sent) (only (sending_to r sent) d (subst (λ (w : List Conversation). Contains w d) is among))
    (holds_one r size [] sent rest m (omega arith) e)

pub one_begun : (r : Request) (size : ℕ) (old new : Conversations) → MaySend r size → Gains (sending_to r (text_of r []) ∷ []) old new → GainsRequests old new
one_begun r size old new m g = record {
  gained = sending_to r (text_of r []) ∷ [];
  told = g;
  each = λ d among. head_one r size (sending_to r (text_of r []) ∷ []) d m (front (text_of r []) [] (append_none (text_of r [])) refl) among;
}

pub one_stopped : (r : Request) (size : ℕ) (stop : Stop) (old new : Conversations) → MaySend r size
    → FailsSending (host_name r.host) r.port (text_of r []) stop old new → GainsRequests old new
one_stopped r size stop old new m f = record { gained = f.gained; told = f.told; each = λ d among. head_one r size f.gained d m f.sends among }

-- closing gains nothing
pub requests_closed : (old mid new : Conversations) → new ≡ mid → GainsRequests old mid → GainsRequests old new
requests_closed old mid new same g = subst (λ (t : Conversations). GainsRequests old t) (sym same) g

-- one conversation of a request, within what it counts
pub gained_one : (r : Request) (size : ℕ) (body : List ℕ) (c : Conversation) (old new : Conversations) → MaySend r size → length body ≤ size → Asks r body c
    → Gains (c ∷ []) old new → GainsRequests old new
gained_one r size body c old new m le asks g = record {
  gained = c ∷ [];
  told = g;
  each = λ d among. subst (λ (x : Conversation). IsOneRequest x.sent) (only c d among) (asks_one r body size c m le asks);
}

-- the request that a redirect leads to may be sent too
pub may_follow : (r next : Request) (head : Head) (size : ℕ) → MaySend r size → IsNext r head next → MaySend next size
may_follow r next head size m is =
    let led : Led r.host is.host is.target = lead_led r.host r.port (location_in (told_headers (map field_bytes head.fields.items))) is.host is.target is.port is.leads in
    subst (λ (q : Request). MaySend q size) (sym is.next_is) (may_at r size is.host is.target is.port led m)
