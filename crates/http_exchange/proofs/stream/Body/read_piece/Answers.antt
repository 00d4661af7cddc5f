use Rattle.std.proofs.Common.{ap, sym, ◌∙◌}
use Rattle.http_exchange.specs.Reader.{Reader}
use Rattle.http_exchange.proofs.Giving.{failed_again}
use Rattle.http_exchange.proofs.stream.Body.read_piece.Goals as goal

pub returns-in-Some-clause-piece : goal.returns-in-Some-clause-piece
returns-in-Some-clause-piece g c =
    failed_again _ c.args.self.now c.args.into.now c.in-Some.fault (ap (λ (r : Reader). r.failed) (sym c.self.view_is) ∙ c.in-Some.is)
