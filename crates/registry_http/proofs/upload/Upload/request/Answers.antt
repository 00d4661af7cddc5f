use Rattle.std.proofs.Common.{arith}
use Rattle.registry_http.proofs.MildLemmas.{mild_piece, may_piece}
use Rattle.registry_http.proofs.upload.Upload.request.Goals as goal

pub returns-clause-mild : goal.returns-clause-mild
returns-clause-mild c = λ body fits.
    mild_piece c.in_ok-request.request c.args.self.now c.args.size body c.host.result.now c.target.result.now c.in_ok-copy_of.field-0 c.port.result
    c.in_ok-request.ensures c.host.ensures.host c.port.ensures.port c.target.ensures.target c.in_ok-copy_of.ensures c.host.ensures.place (omega arith) fits

pub returns-clause-may : goal.returns-clause-may
returns-clause-may c =
    may_piece c.in_ok-request.request c.args.self.now c.args.size c.host.result.now c.target.result.now c.in_ok-copy_of.field-0 c.port.result
    c.in_ok-request.ensures c.host.ensures.host c.port.ensures.port c.target.ensures.target c.in_ok-copy_of.ensures c.host.ensures.place (omega arith)
