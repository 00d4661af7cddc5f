use Rattle.std.proofs.lemmas.Result.{err_from_is_err_and}
use Rattle.http_exchange.proofs.Giving.{settle_then, settle_stops}
use Rattle.http_exchange.proofs.stream.give_next.Goals as goal

pub returns-in_err-ready-clause-gives : goal.returns-in_err-ready-clause-gives
returns-in_err-ready-clause-gives g c =
    let p = err_from_is_err_and c.from_residual.result c.from_residual.ensures.1 in
    rw (p.1, p.2) (settle_stops c.args.state _ _ c.in_err-ready.ensures.settled)

pub returns-clause-gives : goal.returns-clause-gives
returns-clause-gives g c =
    settle_then c.args.state c.in_ok-ready.ready _ c.take_piece.result c.in_ok-ready.ensures.settled c.take_piece.ensures.gives
