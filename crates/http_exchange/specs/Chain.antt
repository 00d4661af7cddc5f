-- A request, and the redirects that are followed from it: at most five, of a GET or a HEAD.
use Rattle.std.specs.Prelude.{◌≡◌, ◌⊎◌, ◌-◌, ◌<◌, ◌≤◌, ℕ, zero, suc, ◌==◌, ◌&&◌, ◌||◌, Bool, true, false, List, [], ◌∷◌, ◌++◌, codes, Result, Ok, Err}
use Rattle.skopeo_outside.specs.declared.words.Step.{Step}
use Rattle.skopeo_outside.specs.Wire.{Conversation, Conversations, Gains}
use Rattle.httparse.specs.Grammar.{ResponseHead, status_code}
use Rattle.http_message.specs.declared.request.Request.{Request}
use Rattle.http_message.specs.declared.answer.Response.{Response}
use Rattle.http_message.specs.declared.fault.ExchangeFault.{ExchangeFault}
use Rattle.http_message.specs.declared.fault.ExchangeFault.TheVariants.{BadAnswer, Wire, HeadTooLong, HeadersTooMany, BodyTooLong, Encoded, TooManyRedirects, TlsRequired, Memory}
use Rattle.http_message.specs.Outcome.{answer, bad_answer, encoded, unfinished, head_too_long, headers_too_many, body_too_long}
use Rattle.http_message.specs.Faults.{shown}
use Rattle.http_message.specs.Heads.{headers_of}
use Rattle.http_message.specs.Sent.{is_text}
use Rattle.http_message.specs.Shown.{answer_of}
use Rattle.http_message.specs.Spelling.{told_headers}
use Rattle.http_exchange.specs.Locations.{Lead, plain, tls, nowhere, lead_in, shown_location}
use Rattle.http_exchange.specs.Talk.{is_get, Comes, Opens}
use Rattle.http_exchange.specs.Asked.{AtMostOne}

-- most redirects that are followed
abbrev pub most_redirects : ℕ
most_redirects = 5

-- a status that redirects
abbrev pub is_redirect : ℕ → Bool
is_redirect status = (status == 301) || ((status == 302) || ((status == 303) || ((status == 307) || (status == 308))))

-- an answer of this status redirects the request: it is a GET or a HEAD
abbrev pub redirects : Request → ℕ → Bool
redirects r status = (is_get r || is_text (codes "HEAD") r.method) && is_redirect status

-- the same request of another place
abbrev pub request_at : Request → List ℕ → ℕ → List ℕ → Request
request_at r host port target = record r { host = host; port = port; target = target }

-- the request was sent whole, and its answer redirects it, and leads so
pub record Redirected (r : Request) (body : List ℕ) (lead : Lead) (c : Conversation) : Type 0 where
  pub h : ResponseHead
  pub rest : List ℕ
  pub opens : Opens r body h rest c
  pub status : redirects r (status_code h) ≡ true
  pub leads : lead_in r.host r.port (told_headers (headers_of h)) ≡ lead

-- the answer of this conversation redirects the request nowhere, and these are the first bytes of its location
pub record Strays (r : Request) (body first : List ℕ) (c : Conversation) : Type 0 where
  pub redirected : Redirected r body nowhere c
  pub location : first ≡ shown_location (told_headers (headers_of redirected.h))

-- the answer of this conversation leads the request to the next one
pub record Hop (r : Request) (body : List ℕ) (next : Request) (c : Conversation) : Type 0 where
  pub host : List ℕ
  pub port : ℕ
  pub target : List ℕ
  pub redirected : Redirected r body (plain host port target) c
  pub next_is : next ≡ request_at r host port target

-- so many redirects were followed from this request, one conversation each, and they lead to the last request
abbrev pub Follows : ℕ → Request → List ℕ → List Conversation → Request → Type 0
Follows zero r body hops last = (hops ≡ []) × (last ≡ r)
Follows (suc count) r body hops last = (next : Request) × (c : Conversation) × (cs : List Conversation) × (hops ≡ c ∷ cs)
    × Hop r body next c × Follows count next body cs last

-- one conversation was gained, and it is so
abbrev pub Just : (Conversation → Type 0) → List Conversation → Type 0
Just Is gained = (c : Conversation) × (gained ≡ c ∷ []) × Is c

-- Why the last request gave no response, when so many more redirects may be followed. Want of memory says nothing.
abbrev pub EndsBy : Step → Request → List ℕ → ℕ → ℕ → List Conversation → ExchangeFault → Type 0
EndsBy step r body limit left gained (BadAnswer s first) = (s ≡ step) × Just (λ c.
    ((first ≡ shown c.received) × Comes r body limit bad_answer c) ⊎ ((0 < left) × Strays r body first c)) gained
EndsBy step r body limit left gained Wire = Just (Comes r body limit unfinished) gained
EndsBy step r body limit left gained (HeadTooLong n) = Just (Comes r body limit (head_too_long n)) gained
EndsBy step r body limit left gained (HeadersTooMany n) = Just (Comes r body limit (headers_too_many n)) gained
EndsBy step r body limit left gained (BodyTooLong n) = Just (Comes r body limit (body_too_long n)) gained
EndsBy step r body limit left gained Encoded = Just (Comes r body limit encoded) gained
EndsBy step r body limit left gained TooManyRedirects = (left ≡ 0) × Just (λ c. (lead : Lead) × Redirected r body lead c) gained
EndsBy step r body limit left gained (TlsRequired host) = (0 < left) × Just (Redirected r body (tls host)) gained
EndsBy step r body limit left gained Memory = Unit {0}

-- the last conversation spells the response, which redirects nowhere, or the fault says why it does not
abbrev pub EndsSo : Step → Request → List ℕ → ℕ → ℕ → List Conversation → Result Response ExchangeFault → Type 0
EndsSo step r body limit left gained (Ok response) =
    (redirects r response.status ≡ false) × Just (Comes r body limit (answer (answer_of response))) gained
EndsSo step r body limit left gained (Err fault) = EndsBy step r body limit left gained fault

-- What a call does that exchanges: redirects were followed, at most five, and the last request comes to this.
pub record Exchanges (step : Step) (r : Request) (body : List ℕ) (limit : ℕ) (old new : Conversations) (result : Result Response ExchangeFault) : Type 0 where
  pub count : ℕ
  pub few : count ≤ most_redirects
  pub hops : List Conversation
  pub last : Request
  pub follows : Follows count r body hops last
  pub gained : List Conversation
  pub told : Gains (hops ++ gained) old new
  pub most : AtMostOne last body gained
  pub ends : EndsSo step last body limit (most_redirects - count) gained result
