use Rattle.std.proofs.Common.{◌≡◌, length}
use Rattle.skopeo_app.specs.Numbered.{AreNumbered}
use Rattle.skopeo_app_tests.proofs.registry.make_lanes.Given as goal

abbrev pub invariant-loop-number : goal.invariant-loop-number
invariant-loop-number l = record { count : length l.lanes.items ≡ l.number; numbered : AreNumbered l.lanes.items }
