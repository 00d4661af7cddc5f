use Rattle.std.proofs.Common.{◌≡◌, ◌+◌, All}
use Rattle.location_cache_tests.proofs.tests.make_drawers.Given as goal

abbrev pub invariant-loop : goal.invariant-loop
invariant-loop g l = record {
  own : All (λ d. d.seat.desk ≡ l.desk) l.drawers.items;
  desk : l.seat.desk ≡ l.desk;
  room : l.seat.view.room + l.counter ≡ 17;
}
