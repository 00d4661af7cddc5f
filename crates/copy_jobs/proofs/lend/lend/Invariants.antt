use Rattle.std.proofs.Common.{◌≤◌, ◌-◌, length, vec_capacity}
use Rattle.copy_jobs.specs.Lent.{AreLent}
use Rattle.copy_jobs.proofs.lend.lend.Given as goal

abbrev pub invariant-loop-alloc : goal.invariant-loop-alloc
invariant-loop-alloc g l = record {
  lent : AreLent l.source l.dest (length l.list.items) l.fn.lanes.items l.lanes.items l.list.items;
  few : length l.list.items ≤ l.count;
  room : l.count ≤ vec_capacity l.list;
  lanes_room : length l.fn.lanes.items ≤ vec_capacity l.lanes;
}

abbrev pub decreases-loop-alloc : goal.decreases-loop-alloc
decreases-loop-alloc g l = l.count - length l.list.items
