use Rattle.std.proofs.Common.{codes, ◌≡◌, ◌∙◌}
use Rattle.std.proofs.lemmas.Result.{IfOk-weaker}
use Rattle.http_message.specs.declared.request.Request.{Request}
use Rattle.http_message.specs.Requests.{MaySend}
use Rattle.registry_http.specs.Requests.{request_at, place_at}
use Rattle.registry_http.proofs.MildLemmas.{may_delete_made}
use Rattle.registry_http.proofs.requests.delete_request.Goals as goal

pub returns-clause-may : goal.returns-clause-may
returns-clause-may c =
    let x = c.in_ok-target.target in
    IfOk-weaker c.request_to.result (λ (r : Request). r ≡ request_at (codes "DELETE") (place_at c.args.registry.now x)) (λ r. MaySend r 0)
    (λ r e. may_delete_made r c.args.registry.now c.args.digest.now x c.as_str.result.now c.as_str-2.result.now e c.in_ok-target.ensures c.as_str.ensures
    (c.as_str-2.ensures ∙ c.in_ok-reference.ensures.text) c.requires c.as_bytes-bytes.ensures.digest)
    c.request_to.ensures
