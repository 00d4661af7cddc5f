-- What a worker has done.
use Rattle.std.specs.Prelude.{◌≡◌, ◌⊎◌, ℕ, ◌<◌, ◌≤◌, ◌==◌, nat_le, cond, true, None, List, [], ◌∷◌, ◌++◌, length, count_by, Contains, IsErr}
use Rattle.location_cache.specs.declared.view.View.{View}
use Rattle.location_cache.specs.Rule.{times, none_failed}
use Rattle.digest_reader.specs.declared.job.Job.{Job}
use Rattle.copy_workers.specs.declared.receipt.Outcome.{Outcome}
use Rattle.copy_workers.specs.Lanes.{Lore, Calm, EndsAs, Keeps}

-- how often a job has ended
abbrev pub ended : ℕ → List Outcome → ℕ
ended job outcomes = count_by (λ o. o.job == job) outcomes

-- a seat at which its worker stops: it is done, or it has seen a failed job
abbrev pub Stopped : View → Type 0
Stopped v = (v.done ≡ true) ⊎ (v.seen < none_failed)

-- of the jobs that there are, the same were drawn
pub record DrewPast (jobs : ℕ) (v w : View) : Type 0 where
  pub drawn : (job : ℕ) → job ≤ jobs → times job w.drawn ≡ times job v.drawn
  pub failed : w.failed ≡ v.failed
  pub room : w.room ≡ v.room

-- this one was drawn
pub record DrewOne (job : ℕ) (v w : View) : Type 0 where
  pub drawn : w.drawn ≡ v.drawn ++ job ∷ []
  pub failed : w.failed ≡ v.failed
  pub room : w.room ≡ v.room

-- nothing was drawn at the seat
pub record IsFresh (v : View) : Type 0 where
  pub drawn : v.drawn ≡ []
  pub failed : v.failed ≡ []

module _ {L O : Type 0} (tells : Lore L O) where
  -- the outcomes are what the lane tells, and those of the jobs that the seat drew
  pub record Works (jobs : List Job) (lane : L) (outcomes : List Outcome) (v : View) : Type 0 where
    pub told : (o : Outcome) (j : Job) → Contains outcomes o → Contains jobs j → j.number ≡ o.job
        → EndsAs tells lane j o.end
    pub quiet : (j : Job) → Contains jobs j → ended j.number outcomes ≡ 0
        → (tells.failed lane j ≡ None) × (tells.asked lane j ≡ [])
    pub drawn : (job : ℕ) → ended job outcomes ≡ cond (nat_le job (length jobs)) (times job v.drawn) 0
    pub fails : (job : ℕ) → 0 < times job v.failed → (o : Outcome) × Contains outcomes o × IsErr o.end

  -- a job ended on the lane, which its seat noted if it failed
  pub record Ends (job : Job) (number : ℕ) (old new : L) (v w : View) (before after : List Outcome) : Type 0 where
    pub outcome : Outcome
    pub job_is : outcome.job ≡ job.number
    pub lane_is : outcome.lane ≡ number
    pub added : after ≡ before ++ outcome ∷ []
    pub told : EndsAs tells new job outcome.end
    pub names : tells.named new job ≡ tells.named old job
    pub kept : Keeps tells job old new
    pub drawn : w.drawn ≡ v.drawn
    pub room : w.room ≡ v.room
    pub noted : (Calm tells new × (w.failed ≡ v.failed)) ⊎ (IsErr outcome.end × (w.failed ≡ v.failed ++ job.number ∷ []))
