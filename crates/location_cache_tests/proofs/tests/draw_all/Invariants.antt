use Rattle.std.proofs.Common.{◌≡◌}
use Rattle.location_cache_tests.proofs.tests.draw_all.Given as goal

abbrev pub invariant-loop : goal.invariant-loop
invariant-loop g l = l.drawer.seat.desk ≡ l.desk
