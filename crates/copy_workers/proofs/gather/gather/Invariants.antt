use Rattle.std.proofs.Common.{◌≡◌, ◌≤◌, ◌+◌, ◌++◌, All, vec_len, vec_capacity}
use Rattle.copy_workers.specs.Works.{Stopped}
use Rattle.copy_workers.specs.Teams.{IsFinished, AreNumbered, rooms, outcomes_of, lanes_of}
use Rattle.copy_workers.specs.Gathered.{Gathered}
use Rattle.copy_workers.proofs.gather.gather.Given as goal

abbrev pub invariant-loop-worker : goal.invariant-loop-worker
invariant-loop-worker g l = record {
  own : l.seat.desk ≡ l.desk;
  gathered : Gathered g.L.BlobLane.tells l.jobs l.lanes.items l.outcomes.items l.seat.view;
  stopped : Stopped l.seat.view;
  finished : All (IsFinished g.L.BlobLane.tells l.desk l.jobs) l.workers.items;
  numbered : AreNumbered (vec_len l.workers + vec_len l.lanes) l.workers.items;
  room : rooms l.workers.items + l.seat.view.room ≡ 16;
  lanes : l.lanes.items ++ lanes_of l.workers.items ≡ lanes_of l.fn.workers.items;
  lanes_room : vec_len l.workers + vec_len l.lanes ≤ vec_capacity l.lanes;
  outcomes_room : outcomes_of l.workers.items + vec_len l.outcomes ≤ vec_capacity l.outcomes;
}

abbrev pub decreases-loop-worker : goal.decreases-loop-worker
decreases-loop-worker g l = vec_len l.workers
