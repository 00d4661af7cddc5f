use Rattle.std.proofs.Common.{ap, sym, ◌∙◌}
use Rattle.http_exchange.specs.Reader.{Reader, is_over}
use Rattle.http_exchange.proofs.Giving.{over_again}
use Rattle.http_exchange.proofs.stream.Body.read_unless_over.Goals as goal

pub returns-then-is_over-clause-piece : goal.returns-then-is_over-clause-piece
returns-then-is_over-clause-piece g c =
    over_again _ c.args.self.now c.args.into.now c.requires.alive (ap (λ (r : Reader). is_over r.state) (sym c.self.view_is) ∙ sym c.is_over.ensures ∙ c.if-is_over.true)
