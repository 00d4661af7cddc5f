use Rattle.std.proofs.Common.{arith, ◌<◌, ◌≡◌}
use Rattle.std.proofs.lemmas.Result.{err_from_is_err_and}
use Rattle.http_exchange.proofs.NextChunk.{one_line, last_line, no_trailer_line}
use Rattle.http_exchange.proofs.chunk.next_chunk.Goals as goal

pub returns-then-size-gt0-clause-received : goal.returns-then-size-gt0-clause-received
returns-then-size-gt0-clause-received g c =
    let some : 0 < c.in_ok-size.size = omega arith in
    one_line c.in_ok-size.size some c.in_ok-size.ensures.received

pub returns-in_err-receive_trailer-clause-received : goal.returns-in_err-receive_trailer-clause-received
returns-in_err-receive_trailer-clause-received g c =
    let none : c.in_ok-size.size ≡ 0 = omega arith in
    let p = err_from_is_err_and c.from_residual-in_err-receive_trailer.result c.from_residual-in_err-receive_trailer.ensures.1 in
    rw (p.1, p.2) (no_trailer_line c.in_ok-size.size _ none c.in_ok-size.ensures.received c.in_err-receive_trailer.ensures.received)

pub returns-clause-received : goal.returns-clause-received
returns-clause-received g c =
    let none : c.in_ok-size.size ≡ 0 = omega arith in
    last_line c.in_ok-size.size _ none c.in_ok-size.ensures.received c.in_ok-receive_trailer.ensures.received
