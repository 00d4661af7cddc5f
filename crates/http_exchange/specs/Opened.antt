-- What a call does that opens an answer, redirects included.
use Rattle.std.specs.Prelude.{◌≡◌, ◌-◌, ◌≤◌, ℕ, false, List, ◌++◌, Result, Ok, Err, IsErrOf}
use Rattle.skopeo_outside.specs.Outside.{Rose}
use Rattle.skopeo_outside.specs.declared.words.Step.{Step}
use Rattle.skopeo_outside.specs.Wire.{Conversation, Conversations, Gains}
use Rattle.http_message.specs.declared.request.Request.{Request}
use Rattle.http_message.specs.declared.head.Head.{Head}
use Rattle.http_message.specs.declared.fault.ExchangeFault.{ExchangeFault}
use Rattle.http_message.specs.declared.fault.ExchangeFault.TheVariants.{Wire}
use Rattle.http_exchange.specs.Reader.{Reader}
use Rattle.http_exchange.specs.Talk.{IsOpen}
use Rattle.http_exchange.specs.Asked.{AtMostOne}
use Rattle.http_exchange.specs.Chain.{Follows, Just, EndsBy, redirects}

-- the last conversation is open behind this head, which redirects nowhere, or the fault says why it is not, whatever the limit
abbrev pub OpenSo : Step → Request → List ℕ → ℕ → List Conversation → Reader → Result Head ExchangeFault → Type 0
OpenSo step r body left gained reader (Ok head) = (redirects r head.status ≡ false) × Just (IsOpen r body head reader) gained
OpenSo step r body left gained reader (Err fault) = (limit : ℕ) → EndsBy step r body limit left gained fault

-- redirects were followed, at most so many, and the last request comes to this
pub record Chained (step : Step) (r : Request) (body : List ℕ) (left : ℕ) (old new : Conversations) (reader : Reader) (result : Result Head ExchangeFault) : Type 0 where
  pub count : ℕ
  pub few : count ≤ left
  pub hops : List Conversation
  pub last : Request
  pub follows : Follows count r body hops last
  pub gained : List Conversation
  pub told : Gains (hops ++ gained) old new
  pub most : AtMostOne last body gained
  pub opens : OpenSo step last body (left - count) gained reader result

-- the count of faults never falls, and the wire is named only where it rose
pub record CountsWire {T : Type 0} (before after : ℕ) (result : Result T ExchangeFault) : Type 0 where
  pub later : before ≤ after
  pub wire : IsErrOf result Wire → Rose before after
