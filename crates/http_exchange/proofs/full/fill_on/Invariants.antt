use Rattle.std.proofs.Common.{◌≤◌, ◌<◌, ◌-◌, length, take, IsTrue, ◌≡◌, false}
use Rattle.http_exchange.specs.Reader.{IsReady, is_over}
use Rattle.http_exchange.specs.Filling.{Gathering}
use Rattle.http_exchange.proofs.full.fill_on.Given as goal

abbrev pub invariant-pieces : goal.invariant-pieces
invariant-pieces g l = record {
  ready : IsReady l.body (g.W.Wire.is_open l.wire);
  going : is_over l.fn.body.state ≡ false → is_over l.body.state ≡ false;
  so_far : Gathering (g.W.Wire.conversations l.fn.wire) (g.W.Wire.conversations l.wire) l.fn.body l.body (take l.count l.into);
  within : l.count ≤ length l.into;
  room : length l.into ≡ length l.fn.into;
  faults : g.W.Wire.faults l.fn.wire ≤ g.W.Wire.faults l.wire;
  more : 0 < l.count → IsTrue (g.W.Wire.is_open l.wire);
}

abbrev pub decreases-pieces : goal.decreases-pieces
decreases-pieces g l = length l.into - l.count
