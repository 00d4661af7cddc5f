-- What is gained by requests that put no manifest and delete nothing, wherever redirects lead.
use Rattle.std.specs.Prelude.{◌≢◌, ◌≤◌, ℕ, List, [], length, codes, Result}
use Rattle.skopeo_outside.specs.declared.words.Step.{Step}
use Rattle.skopeo_outside.specs.Wire.{Conversation, Conversations, Gains}
use Rattle.http_message.specs.declared.request.Request.{Request}
use Rattle.http_message.specs.declared.answer.Response.{Response}
use Rattle.http_message.specs.declared.fault.ExchangeFault.{ExchangeFault}
use Rattle.http_message.specs.Requests.{IsClean, IsManifestPut, counted}
use Rattle.http_message.specs.Writes.{IsPlain}
use Rattle.http_exchange.specs.Chain.{Exchanges}
use Rattle.http_exchange.specs.Calls.{Opened, OpensAnswer}

-- the request puts no manifest and deletes nothing, nothing in it ends a line, and it counts the bytes of its body
pub record IsMild (r : Request) (body : List ℕ) : Type 0 where
  pub clean : IsClean r
  pub fits : length body ≤ counted r.length
  pub no_put : ¬ (IsManifestPut r)
  pub no_delete : r.method ≢ codes "DELETE"

-- no manifest was put and nothing was deleted in what was gained
pub record GainsPlain (old new : Conversations) : Type 0 where
  pub gained : List Conversation
  pub told : Gains gained old new
  pub plain : IsPlain gained

-- An exchange of such a request puts no manifest and deletes nothing, whatever hosts and targets its answers name.
abbrev pub PlainExchange : Type 0
PlainExchange = (step : Step) (r : Request) (body : List ℕ) (limit : ℕ) (old new : Conversations) (result : Result Response ExchangeFault)
    → IsMild r body → Exchanges step r body limit old new result → GainsPlain old new

-- And so does a call that opens an answer to it.
abbrev pub PlainOpening : Type 0
PlainOpening = (step : Step) (r : Request) (old new : Conversations) (result : Result Opened ExchangeFault)
    → IsMild r [] → OpensAnswer step r old new result → GainsPlain old new
