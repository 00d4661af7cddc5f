use Rattle.std.proofs.Common.{arith, ◌<◌}
use Rattle.http_exchange.proofs.Giving.{open_gave, open_over}
use Rattle.http_exchange.proofs.stream.take_open.Goals as goal

pub returns-then-count-eq0-clause-gives : goal.returns-then-count-eq0-clause-gives
returns-then-count-eq0-clause-gives g c = open_over 18446744073709551615 c.in_ok-count.count c.give.new.into c.if-count-eq0.true c.in_ok-count.ensures.received

pub returns-clause-gives : goal.returns-clause-gives
returns-clause-gives g c =
    let some : 0 < c.in_ok-count.count = omega arith in
    open_gave 18446744073709551615 c.in_ok-count.count c.give.new.into some c.in_ok-count.ensures.received
