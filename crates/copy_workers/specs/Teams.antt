-- Workers before and after they run.
use Rattle.std.specs.Prelude.{◌≡◌, ◌≤◌, ◌<◌, ◌+◌, ℕ, sum_by, map, reverse, vec_len, List, [], ◌∷◌, ◌++◌, length, slice_index_or, All, vec_capacity}
use Rattle.location_cache.specs.Seats.{TableId, Seated}
use Rattle.digest_reader.specs.declared.job.Job.{Job}
use Rattle.std.specs.Prelude.{Vec}
use Rattle.std.specs.declared.alloc.Global.{Global}
use Rattle.copy_workers.specs.declared.receipt.Outcome.{Outcome}
use Rattle.copy_workers.specs.declared.worker.Worker.{Worker}
use Rattle.copy_workers.specs.Lanes.{Lore, IsUnused}
use Rattle.copy_workers.specs.Works.{IsFresh, Stopped, Works}
use Rattle.copy_workers.specs.Kept.{KeepsAll}

module _ {L J O : Type 0} (tells : Lore L O) where
  -- nothing has been done, and there is room for an outcome of each job
  pub record IsReady (desk : TableId) (jobs : List Job) (w : Worker L J) : Type 0 where
    pub own : w.seat.desk ≡ desk
    pub room : length jobs ≤ vec_capacity w.outcomes
    pub seat : IsFresh w.seat.view
    pub empty : w.outcomes.items ≡ []
    pub unused : IsUnused tells jobs w.lane

  -- the worker has stopped, and its outcomes are those of the jobs that it drew
  pub record HasWorked (desk : TableId) (jobs : List Job) (old new : Worker L J) : Type 0 where
    pub own : new.seat.desk ≡ desk
    pub works : Works tells jobs new.lane new.outcomes.items new.seat.view
    pub stopped : Stopped new.seat.view
    pub lane : All (λ o. o.lane ≡ old.number) new.outcomes.items
    pub number : new.number ≡ old.number
    pub few : vec_len new.outcomes ≤ length jobs
    pub room : new.seat.view.room ≡ old.seat.view.room
    pub kept : KeepsAll tells jobs old.lane new.lane

  -- each worker has
  abbrev pub EachWorked : TableId → List Job → List (Worker L J) → List (Worker L J) → Type 0
  EachWorked desk jobs old new = (k : ℕ) (w : Worker L J) → k < length old → HasWorked desk jobs (slice_index_or old k w) (slice_index_or new k w)

  -- the worker has stopped
  pub record IsFinished (desk : TableId) (jobs : List Job) (w : Worker L J) : Type 0 where
    pub own : w.seat.desk ≡ desk
    pub works : Works tells jobs w.lane w.outcomes.items w.seat.view
    pub stopped : Stopped w.seat.view
    pub lane : All (λ o. o.lane ≡ w.number) w.outcomes.items

-- the workers are numbered from the last one, from 0
abbrev pub AreNumbered : {L J : Type 0} → ℕ → List (Worker L J) → Type 0
AreNumbered {L} {J} total workers = (k : ℕ) (w : Worker L J) → k < length workers → (slice_index_or workers k w).number + k + 1 ≡ total

-- all the room of their seats
abbrev pub rooms : {L J : Type 0} → List (Worker L J) → ℕ
rooms workers = sum_by (λ w. w.seat.view.room) workers

-- how many outcomes they have
abbrev pub outcomes_of : {L J : Type 0} → List (Worker L J) → ℕ
outcomes_of workers = sum_by (λ w. vec_len w.outcomes) workers

-- their lanes, from the last one
abbrev pub lanes_of : {L J : Type 0} → List (Worker L J) → List L
lanes_of workers = reverse (map (λ w. w.lane) workers)

-- a list that is empty, with room for this many
pub record HasRoom (n : ℕ) (outcomes : Vec Outcome Global) : Type 0 where
  pub empty : outcomes.items ≡ []
  pub room : n ≤ vec_capacity outcomes

-- no lane tells a failure or was asked for one of the jobs
abbrev pub AreUnused : {L O : Type 0} → Lore L O → List Job → List L → Type 0
AreUnused tells jobs lanes = All (IsUnused tells jobs) lanes

-- the last lane and the last list became the last worker
pub record Hires {L J : Type 0} (seat : Seated) (lanes kept : List L) (lists rest : List (Vec Outcome Global)) (workers after : List (Worker L J)) : Type 0 where
  pub worker : Worker L J
  pub seat_is : worker.seat ≡ seat
  pub number_is : worker.number ≡ length kept
  pub lanes_are : lanes ≡ kept ++ worker.lane ∷ []
  pub lists_are : lists ≡ rest ++ worker.outcomes ∷ []
  pub added : after ≡ workers ++ worker ∷ []
