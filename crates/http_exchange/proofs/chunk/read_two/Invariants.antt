use Rattle.std.proofs.Common.{◌≤◌, ◌-◌, length, IsTrue}
use Rattle.http_exchange.specs.Received.{Came}
use Rattle.http_exchange.proofs.chunk.read_two.Given as goal

abbrev pub invariant-pieces : goal.invariant-pieces
invariant-pieces g l = record {
  ready : IsTrue (g.W.Wire.is_open l.wire);
  came : Came (g.W.Wire.conversations l.fn.wire) (g.W.Wire.conversations l.wire) l.fn.inbox l.inbox;
  faults : g.W.Wire.faults l.fn.wire ≤ g.W.Wire.faults l.wire;
}

abbrev pub decreases-pieces : goal.decreases-pieces
decreases-pieces g l = 2 - length l.inbox.waiting
