use Rattle.std.proofs.Common.{◌≡◌, ◌⊎◌, ℕ, ◌<◌, ◌≤◌, ◌-◌, All, length, vec_len, vec_capacity}
use Rattle.location_cache.specs.Rule.{times}
use Rattle.copy_workers.specs.Lanes.{Calm}
use Rattle.copy_workers.specs.Kept.{KeepsAll}
use Rattle.copy_workers.specs.Works.{Works}
use Rattle.copy_workers.proofs.worker.Worker.work.Given as goal

abbrev pub invariant-loop-number : goal.invariant-loop-number
invariant-loop-number g l = record {
  own : l.self.seat.desk ≡ l.desk;
  works : Works g.L.BlobLane.tells l.jobs l.self.lane l.self.outcomes.items l.self.seat.view;
  lane : All (λ o. o.lane ≡ l.fn.self.number) l.self.outcomes.items;
  number : l.self.number ≡ l.fn.self.number;
  room : l.self.seat.view.room ≡ l.fn.self.seat.view.room;
  capacity : length l.jobs ≤ vec_capacity l.self.outcomes;
  count : vec_len l.self.outcomes ≤ l.last;
  within : l.last ≤ length l.jobs;
  last : 0 < l.last → 0 < times l.last l.self.seat.view.drawn;
  calm : Calm g.L.BlobLane.tells l.self.lane ⊎ ((job : ℕ) × (0 < times job l.self.seat.view.failed));
  kept : KeepsAll g.L.BlobLane.tells l.jobs l.fn.self.lane l.self.lane;
}

abbrev pub decreases-loop-number : goal.decreases-loop-number
decreases-loop-number g l = length l.jobs - l.last
