use Rattle.std.proofs.Common.{arith}
use Rattle.registry_http.proofs.MildLemmas.{may_put_made}
use Rattle.registry_http.proofs.requests.put_request.Goals as goal

pub returns-clause-may : goal.returns-clause-may
returns-clause-may c =
    may_put_made c.in_ok-request.request c.args.registry.now c.args.reference.now c.args.media.now c.in_ok-target.target c.as_str.result.now c.in_ok-copy_of.field-0 c.args.size
    c.in_ok-request.ensures c.in_ok-target.ensures c.as_str.ensures c.in_ok-copy_of.ensures c.requires.asked c.requires.reference c.requires.media (omega arith)
