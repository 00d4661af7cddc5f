use Rattle.std.proofs.Common.{length}
use Rattle.trials_app.proofs.left.gather.Given as goal

abbrev pub invariant-loop-lane : goal.invariant-loop-lane
invariant-loop-lane l = Unit {0}

abbrev pub decreases-loop-lane : goal.decreases-loop-lane
decreases-loop-lane l = length l.lanes.items
