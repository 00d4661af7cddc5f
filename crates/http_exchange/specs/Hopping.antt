-- One redirect, as the code decides on it.
use Rattle.std.specs.Prelude.{◌≡◌, ◌⊎◌, ◌<◌, ℕ, true, false, List, map, Option, Some, None, Result, Ok, Err}
use Rattle.skopeo_outside.specs.declared.words.Step.{Step}
use Rattle.http_message.specs.declared.request.Request.{Request}
use Rattle.http_message.specs.declared.head.Head.{Head}
use Rattle.http_message.specs.declared.fault.AnswerFault.{AnswerFault}
use Rattle.http_message.specs.declared.fault.ExchangeFault.{ExchangeFault}
use Rattle.http_message.specs.declared.fault.ExchangeFault.TheVariants.{BadAnswer, TooManyRedirects, TlsRequired, Memory}
use Rattle.http_message.specs.Faults.{fault_of}
use Rattle.http_message.specs.Shown.{field_bytes}
use Rattle.http_message.specs.Spelling.{told_headers}
use Rattle.http_exchange.specs.Locations.{Lead, plain, tls, nowhere, lead_in, shown_location}
use Rattle.http_exchange.specs.Chain.{redirects, request_at}

-- the fault, with the step and the first bytes where it is a bad answer; or want of memory
abbrev pub IsShown : Step → List ℕ → AnswerFault → ExchangeFault → Type 0
IsShown step first fault shown = (shown ≡ Memory) ⊎ (shown ≡ fault_of step first fault)

-- where a kept head leads
abbrev pub kept_lead : Request → Head → Lead
kept_lead r head = lead_in r.host r.port (told_headers (map field_bytes head.fields.items))

-- the first bytes of the location in a kept head
abbrev pub kept_location : Head → List ℕ
kept_location head = shown_location (told_headers (map field_bytes head.fields.items))

-- the request that follows
pub record IsNext (r : Request) (head : Head) (next : Request) : Type 0 where
  pub host : List ℕ
  pub port : ℕ
  pub target : List ℕ
  pub leads : kept_lead r head ≡ plain host port target
  pub next_is : next ≡ request_at r host port target

-- why none is followed, though the answer redirects
abbrev pub NoNext : Step → Request → Head → ℕ → ExchangeFault → Type 0
NoNext step r head left (BadAnswer s first) = (0 < left) × (s ≡ step) × (first ≡ kept_location head) × (kept_lead r head ≡ nowhere)
NoNext step r head left TooManyRedirects = left ≡ 0
NoNext step r head left (TlsRequired host) = (0 < left) × (kept_lead r head ≡ tls host)
NoNext step r head left Memory = Unit {0}
NoNext step r head left _ = ⊥

-- no redirect, the request that follows, or why none does
abbrev pub NextOr : Step → Request → Head → ℕ → Result (Option Request) ExchangeFault → Type 0
NextOr step r head left (Ok None) = redirects r head.status ≡ false
NextOr step r head left (Ok (Some next)) = (redirects r head.status ≡ true) × (0 < left) × IsNext r head next
NextOr step r head left (Err fault) = (redirects r head.status ≡ true) × NoNext step r head left fault
