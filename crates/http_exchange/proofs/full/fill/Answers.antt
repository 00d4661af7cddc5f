use Rattle.std.proofs.Common.{ap, sym, ◌∙◌}
use Rattle.http_exchange.specs.Reader.{Reader}
use Rattle.http_exchange.proofs.Giving.{failed_again}
use Rattle.http_exchange.proofs.Filling.{filled_again}
use Rattle.http_exchange.proofs.full.fill.Goals as goal

pub returns-in-Some-clause-fills : goal.returns-in-Some-clause-fills
returns-in-Some-clause-fills g c =
    filled_again _ c.args.body.now c.args.into.now c.in-Some.fault
    (failed_again _ c.args.body.now c.args.into.now c.in-Some.fault (ap (λ (r : Reader). r.failed) (sym c.body.view_is) ∙ c.in-Some.is))
