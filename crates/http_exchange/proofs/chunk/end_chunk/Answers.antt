use Rattle.std.proofs.lemmas.Result.{err_from_is_err_and}
use Rattle.http_exchange.proofs.Settling.{closing_then, closing_stops}
use Rattle.http_exchange.proofs.chunk.end_chunk.Goals as goal

pub returns-in_err-receive_closing-clause-settled : goal.returns-in_err-receive_closing-clause-settled
returns-in_err-receive_closing-clause-settled g c =
    let p = err_from_is_err_and c.from_residual.result c.from_residual.ensures.1 in
    rw (p.1, p.2) (closing_stops _ c.in_err-receive_closing.ensures.received)

pub returns-clause-settled : goal.returns-clause-settled
returns-clause-settled g c = closing_then _ _ c.in_ok-receive_closing.ensures.received c.next_chunk.ensures.received
