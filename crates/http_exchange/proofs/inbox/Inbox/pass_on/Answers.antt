use Rattle.std.proofs.Common.{refl}
use Rattle.http_exchange.proofs.Rounds.{none_stopped, passed_on}
use Rattle.http_exchange.proofs.inbox.Inbox.pass_on.Goals as goal

pub returns-in-Err-clause-received : goal.returns-in-Err-clause-received
returns-in-Err-clause-received g c =
    rw c.fault_of_stop.ensures (none_stopped c.in-Err.stop c.args.self.now c.args.self.now _ refl c.requires.none c.in-Err.ensures.nothing)

pub returns-clause-received : goal.returns-clause-received
returns-clause-received g c = record {
  added = _;
  ended = _;
  told = c.in-Ok.ensures.received;
  noted = c.note_came.ensures.noted;
  gives = passed_on c.args.self.now c.recv.new.into c.note_came.new.self.waiting c.in-Ok.count c.requires.none c.note_came.ensures.waiting c.in-Ok.ensures.within;
}
