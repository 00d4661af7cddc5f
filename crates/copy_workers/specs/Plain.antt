-- What a lane that works alone has done.
use Rattle.std.specs.Prelude.{◌≡◌, ◌⊎◌, ℕ, zero, suc, ◌+◌, ◌<◌, ◌≤◌, false, List, [], ◌∷◌, ◌++◌, length, Contains, All, IsOk, IsErr, slice_index_or}
use Rattle.location_cache.specs.declared.view.View.{View}
use Rattle.digest_reader.specs.declared.job.Job.{Job}
use Rattle.copy_workers.specs.Lanes.{Lore}
use Rattle.copy_workers.specs.declared.receipt.Outcome.{Outcome}
use Rattle.copy_workers.specs.Works.{Works}
use Rattle.copy_workers.specs.Gathered.{InOrder}

-- the jobs from 1 up to a last one
abbrev pub up_to : ℕ → List ℕ
up_to zero = []
up_to (suc n) = up_to n ++ suc n ∷ []

-- the seat of a lane that works alone, as if it had one
abbrev pub alone_view : ℕ → List ℕ → View
alone_view n failed = record { drawn = up_to n; failed = failed; done = false; room = 1; seen = 0 }

-- the outcomes are in order, only the last may be a failure, and they are all unless it is one
pub record HasDone {L O : Type 0} (tells : Lore L O) (jobs : List Job) (lane : L) (outcomes : List Outcome) : Type 0 where
  pub view : View
  pub works : Works tells jobs lane outcomes view
  pub number : All (λ o. o.lane ≡ 0) outcomes
  pub ordered : InOrder 0 outcomes
  pub few : length outcomes ≤ length jobs
  pub fine : (k : ℕ) (o : Outcome) → k + 1 < length outcomes → IsOk (slice_index_or outcomes k o).end
  pub ended : (length outcomes ≡ length jobs) ⊎ ((o : Outcome) × Contains outcomes o × IsErr o.end)
