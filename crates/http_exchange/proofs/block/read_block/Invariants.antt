use Rattle.std.proofs.Common.{◌≤◌, ◌-◌, length, IsTrue}
use Rattle.http_message.specs.Blocks.{HasNoEnd}
use Rattle.http_exchange.specs.Received.{Came}
use Rattle.http_exchange.proofs.block.read_block.Given as goal

abbrev pub invariant-loop-at : goal.invariant-loop-at
invariant-loop-at g l = record {
  ready : IsTrue (g.W.Wire.is_open l.wire);
  came : Came (g.W.Wire.conversations l.fn.wire) (g.W.Wire.conversations l.wire) l.fn.inbox l.inbox;
  none : HasNoEnd l.ending l.inbox.waiting l.from;
  within : l.from ≤ length l.inbox.waiting;
  faults : g.W.Wire.faults l.fn.wire ≤ g.W.Wire.faults l.wire;
}

abbrev pub decreases-loop-at : goal.decreases-loop-at
decreases-loop-at g l = 65537 - length l.inbox.waiting
