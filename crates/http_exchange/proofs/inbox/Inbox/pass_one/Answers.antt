use Rattle.std.proofs.Common.{refl}
use Rattle.http_exchange.proofs.Rounds.{stopped_fill, passed_so}
use Rattle.http_exchange.proofs.inbox.Inbox.pass_one.Goals as goal

pub returns-in-Err-clause-received : goal.returns-in-Err-clause-received
returns-in-Err-clause-received g c =
    rw c.fault_of_stop.ensures (stopped_fill c.in-Err.stop c.args.self.now c.args.self.now _ refl c.in-Err.ensures.nothing)

pub returns-clause-received : goal.returns-clause-received
returns-clause-received g c = record {
  added = _;
  ended = _;
  told = c.in-Ok.ensures.received;
  noted = c.note_came.ensures.noted;
  gives = passed_so c.args.self.now.waiting _ c.in-Ok.count c.in-Ok.ensures.within;
}
