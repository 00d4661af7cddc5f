use Rattle.std.proofs.Common.{◌≤◌, ◌+◌, length, vec_len, vec_capacity}
use Rattle.copy_jobs.proofs.LentLemmas.{IsBack}
use Rattle.copy_jobs.proofs.lend.give_back.Given as goal

abbrev pub invariant-loop-state : goal.invariant-loop-state
invariant-loop-state g l = record {
  back : IsBack l.fn.list.items l.list.items l.fn.lanes.items l.lanes.items;
  room : length l.list.items + length l.lanes.items ≤ vec_capacity l.lanes;
}

abbrev pub decreases-loop-state : goal.decreases-loop-state
decreases-loop-state g l = vec_len l.list
