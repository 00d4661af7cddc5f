-- A lane of the engine: what it shows, and what it tells of jobs since it was made.
use Rattle.std.specs.Prelude.{◌≡◌, ◌≢◌, ◌⊎◌, ◌==◌, List, [], ℕ, if◌then◌else◌, Option, Some, None}
use Rattle.std.specs.Str.{bytes_eq}
use Rattle.skopeo_outside.specs.Outside.{Rose}
use Rattle.skopeo_outside.specs.LaneTold.{LaneTold}
use Rattle.digest_reader.specs.declared.job.Job.{Job}
use Rattle.copy_workers.specs.declared.cause.Cause.{Cause}
use Rattle.copy_workers.specs.declared.cause.Cause.TheVariants as why
use Rattle.copy_workers.specs.Asked.{Answered, answers_to}
use Rattle.copy_workers.specs.Lanes.{Lore}
use Rattle.transports.specs.declared.source.Source.{Source}
use Rattle.transports.specs.declared.dest.Dest.{Dest}
use Rattle.transports.specs.Places.{AreApart}
use Rattle.transports.specs.StepEnds.{IsDone, FailsBy}
use Rattle.transports.specs.Fair.{Works}
use Rattle.transports.specs.Named.{AddsOnly, BringsOnly}
use Rattle.transports.specs.Uploads.{LeavesNoPart}

-- no part of the job's blob is left, or a call that failed kept it from being removed
abbrev pub GivesUpPart : Dest → Job → LaneTold → LaneTold → Type 0
GivesUpPart dest job old new = LeavesNoPart dest job old new ⊎ Rose old.files.faults new.files.faults ⊎ Rose old.to.faults new.to.faults

-- the lane now and when it was made, between which source and destination it carries, the job that has failed on it with its
-- cause, and what it answered when it was asked
pub record LaneState : Type 0 where
  pub lane : LaneTold
  pub origin : LaneTold
  pub source : Source
  pub dest : Dest
  pub failure : Option (Job × Cause)
  pub asked : Answered

-- the cause of a job that has failed, which is one of the failed job's digest; of another size nothing is claimed of it, as
-- of want of memory
abbrev pub fault_of : Option (Job × Cause) → Job → Option Cause
fault_of None job = None
fault_of (Some f) job =
    if bytes_eq f.0.digest job.digest then Some (if f.0.size == job.size then f.1 else why.Memory) else None

-- the lane was asked for a job of this digest
abbrev pub WasAsked : Answered → List ℕ → Type 0
WasAsked asked digest = answers_to asked digest ≢ []

-- what holds of each lane since it was made: it worked at the destination alone; a job that failed did so for its cause;
-- nothing was added but blobs of jobs that it was asked for, and parts of them; and no part while none has failed
pub record IsSound (l : LaneState) : Type 0 where
  pub apart : AreApart l.source l.dest
  pub works : Works l.dest l.origin l.lane
  pub cause : (job : Job) (cause : Cause) → l.failure ≡ Some (job, cause) → FailsBy l.source job cause l.origin l.lane
  pub brings : BringsOnly l.dest (WasAsked l.asked) l.origin l.lane
  pub adds : l.failure ≡ None → AddsOnly l.dest (WasAsked l.asked) l.origin l.lane

-- nothing was answered yet
pub record IsUnasked (asked : Answered) : Type 0 where
  pub none : (digest : List ℕ) → answers_to asked digest ≡ []

-- a lane as it was made of one
pub record IsFresh (source : Source) (dest : Dest) (lane : LaneTold) (l : LaneState) : Type 0 where
  pub is : l ≡ record { lane = lane; origin = lane; source = source; dest = dest; failure = None; asked = l.asked }
  pub unasked : IsUnasked l.asked

-- what a lane tells: a job is secured where it was done since the lane was made; nothing is mounted in a folder
abbrev pub lane_lore : Lore LaneState (LaneTold × Source × Dest)
lane_lore = record {
  secured = λ l job. IsDone l.source l.dest job l.origin l.lane;
  failed = λ l job. fault_of l.failure job;
  named = λ l job. [];
  asked = λ l job. answers_to l.asked job.digest;
  target = λ l. None;
  origin = λ l. (l.origin, l.source, l.dest);
}
