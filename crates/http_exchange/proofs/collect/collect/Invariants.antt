use Rattle.std.proofs.Common.{◌≤◌, ◌+◌, ◌-◌, length, IsTrue, ◌≡◌}
use Rattle.http_exchange.specs.Collected.{Collecting}
use Rattle.http_exchange.proofs.collect.collect.Given as goal

abbrev pub invariant-pieces : goal.invariant-pieces
invariant-pieces g l = record {
  ready : IsTrue (g.W.Wire.is_open l.wire);
  so_far : Collecting (g.W.Wire.conversations l.fn.wire) (g.W.Wire.conversations l.wire) l.fn.body l.body l.limit l.bytes;
  room : length l.piece ≡ 8192;
  faults : g.W.Wire.faults l.fn.wire ≤ g.W.Wire.faults l.wire;
}

abbrev pub decreases-pieces : goal.decreases-pieces
decreases-pieces g l = l.limit + 1 - length l.bytes
