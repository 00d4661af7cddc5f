use Rattle.std.proofs.Common.{ap}
use Rattle.http_exchange.specs.Calls.{Opened}
use Rattle.http_exchange.proofs.CallLemmas.{piece_fault, fill_stops}
use Rattle.http_exchange.proofs.answer.read_full.Goals as goal

pub returns-in-Err-clause-piece : goal.returns-in-Err-clause-piece
returns-in-Err-clause-piece g c =
    piece_fault _ _ c.args.answer.now (record { status = c.answer.inside.status; step = c.answer.inside.step; reader = c.fill.new.body })
    c.stop.new.self c.answer.inside.body c.fill.new.into c.in-Err.fault c.stop.result
    (ap (λ (a : Opened). a.reader) c.answer.view_is) (ap (λ (a : Opened). a.status) c.answer.view_is) (ap (λ (a : Opened). a.step) c.answer.view_is)
    c.stop.ensures.same.0 c.stop.ensures.same.1 c.stop.ensures.same.2 c.stop.ensures.shown (fill_stops c.fill.new.into c.in-Err.fault c.in-Err.ensures.fills)
