use Rattle.std.proofs.Common.{◌≡◌, ◌≤◌, [], All, IsOk, take, length, vec_capacity}
use Rattle.copy_workers.specs.Lanes.{Calm}
use Rattle.copy_workers.specs.Kept.{KeepsAll}
use Rattle.copy_workers.specs.Works.{Works}
use Rattle.copy_workers.specs.Gathered.{InOrder}
use Rattle.copy_workers.specs.Plain.{alone_view}
use Rattle.copy_workers.proofs.plain.run_plain.Given as goal

abbrev pub invariant-loop-job : goal.invariant-loop-job
invariant-loop-job g l = record {
  works : Works g.L.BlobLane.tells l.jobs l.lane l.outcomes.items (alone_view l.job-index []);
  calm : Calm g.L.BlobLane.tells l.lane;
  number : All (λ o. o.lane ≡ 0) l.outcomes.items;
  fine : All (λ o. IsOk o.end) l.outcomes.items;
  ordered : InOrder 0 l.outcomes.items;
  count : length l.outcomes.items ≡ l.job-index;
  room : length l.jobs ≤ vec_capacity l.outcomes;
  kept : KeepsAll g.L.BlobLane.tells (take l.job-index l.jobs) l.fn.lane l.lane;
}
