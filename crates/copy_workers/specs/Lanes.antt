-- What a lane tells of jobs, and what a call for one job leaves as it was.
use Rattle.std.specs.Prelude.{◌≡◌, ◌≢◌, ℕ, Option, Some, None, Result, Ok, Err, List, [], ◌∷◌, ◌++◌, All}
use Rattle.digest_reader.specs.declared.job.Job.{Job}
use Rattle.copy_workers.specs.declared.asked.LaneAnswer.{LaneAnswer}
use Rattle.copy_workers.specs.declared.cause.Cause.{Cause}
use Rattle.copy_workers.specs.declared.receipt.How.{How}
use Rattle.copy_workers.specs.Answers.{answers_of, Failed}

-- what a lane tells: of each job whether it is secured, its cause where it has failed, the repositories that its mounts
-- named, and what the lane answered when it was asked for it, in order; the target, as host and repository; and the origin
pub record Lore (L O : Type 0) : Type 1 where
  pub secured : L → Job → Type 0
  pub failed : L → Job → Option Cause
  pub named : L → Job → List (List ℕ)
  pub asked : L → Job → List LaneAnswer
  pub target : L → Option (List ℕ × List ℕ)
  pub origin : L → O

-- the lane tells no failure
abbrev pub Calm : {L O : Type 0} → Lore L O → L → Type 0
Calm tells lane = (job : Job) → tells.failed lane job ≡ None

module _ {L O : Type 0} (tells : Lore L O) where
  -- one more mount named this repository
  abbrev pub WasNamed : Job → List ℕ → L → L → Type 0
  WasNamed job from old new = tells.named new job ≡ tells.named old job ++ from ∷ []

  -- of a job of another digest the lane tells as before, and was asked nothing; target and origin stay
  pub record Keeps (job : Job) (old new : L) : Type 0 where
    pub stays : (other : Job) → other.digest ≢ job.digest
        → tells.secured old other → tells.secured new other
    pub fails : (other : Job) → other.digest ≢ job.digest → tells.failed new other ≡ tells.failed old other
    pub names : (other : Job) → other.digest ≢ job.digest → tells.named new other ≡ tells.named old other
    pub asks : (other : Job) → other.digest ≢ job.digest → tells.asked new other ≡ tells.asked old other
    pub target : tells.target new ≡ tells.target old
    pub origin : tells.origin new ≡ tells.origin old

  -- a job that ended so is secured, or is told as failed with this cause; and the lane answered so when it was asked for it
  abbrev pub EndsAs : L → Job → Result How Cause → Type 0
  EndsAs lane job (Ok how) =
      tells.secured lane job × (tells.failed lane job ≡ None) × (tells.asked lane job ≡ answers_of how)
  EndsAs lane job (Err cause) = (tells.failed lane job ≡ Some cause) × Failed (tells.asked lane job)

  -- the lane tells no failure, and was asked for none of the jobs
  pub record IsUnused (jobs : List Job) (lane : L) : Type 0 where
    pub calm : Calm tells lane
    pub unasked : All (λ j. tells.asked lane j ≡ []) jobs
