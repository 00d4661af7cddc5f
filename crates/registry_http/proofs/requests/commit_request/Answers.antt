use Rattle.registry_http.proofs.MildLemmas.{mild_commit, may_commit}
use Rattle.registry_http.proofs.requests.commit_request.Goals as goal

pub returns-clause-mild : goal.returns-clause-mild
returns-clause-mild c =
    mild_commit c.in_ok-request.request c.args.upload.now c.args.digest.now c.host.result.now c.as_str.result.now c.in_ok-target.target c.target.result.now c.port.result
    c.in_ok-request.ensures c.host.ensures.host c.port.ensures.port c.as_str.ensures c.in_ok-target.ensures.target c.target.ensures.target c.host.ensures.place c.in_ok-target.ensures.digest

pub returns-clause-may : goal.returns-clause-may
returns-clause-may c =
    may_commit c.in_ok-request.request c.args.upload.now c.args.digest.now c.host.result.now c.as_str.result.now c.in_ok-target.target c.target.result.now c.port.result
    c.in_ok-request.ensures c.host.ensures.host c.port.ensures.port c.as_str.ensures c.in_ok-target.ensures.target c.target.ensures.target c.host.ensures.place c.in_ok-target.ensures.digest
