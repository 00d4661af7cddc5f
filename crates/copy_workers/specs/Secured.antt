-- What running jobs on lanes needs, and what it comes to.
use Rattle.std.specs.Prelude.{◌≡◌, ◌≢◌, ◌⊎◌, ℕ, ◌+◌, ◌<◌, ◌≤◌, Some, None, Result, List, [], length, take, slice_index_or, slice_get, Contains, All}
use Rattle.image_ref.specs.Domain.{IsDomain}
use Rattle.image_ref.specs.Reference.{IsPath}
use Rattle.digest_reader.specs.declared.job.Job.{Job}
use Rattle.location_cache.specs.declared.cache.CacheRow.{CacheRow}
use Rattle.copy_workers.specs.declared.cause.Cause.{Cause}
use Rattle.copy_workers.specs.declared.cause.Cause.TheVariants as cause
use Rattle.copy_workers.specs.declared.receipt.How.{How}
use Rattle.copy_workers.specs.declared.receipt.JobFault.{JobFault}
use Rattle.copy_workers.specs.Receipts.{Issued}
use Rattle.copy_workers.specs.Answers.{answers_of, Failed}
use Rattle.copy_workers.specs.Lanes.{Lore, Calm, EndsAs}
use Rattle.copy_workers.specs.Kept.{KeepsAll}

-- each row's host is a domain, and its repository a path
abbrev pub AreNames : List CacheRow → Type 0
AreNames rows = All (λ row. IsDomain row.host × IsPath row.repository) rows

module _ {L O : Type 0} (tells : Lore L O) (jobs : List Job) where
  -- no lane tells a failure, or a mount for one of the jobs, or was asked for one; and all have one target
  pub record AreLanes (lanes : List L) : Type 0 where
    pub calm : All (Calm tells) lanes
    pub unnamed : All (λ l. All (λ j. tells.named l j ≡ []) jobs) lanes
    pub unasked : All (λ l. All (λ j. tells.asked l j ≡ []) jobs) lanes
    pub target : (k m : ℕ) (l : L) → k < length lanes → m < length lanes
        → tells.target (slice_index_or lanes k l) ≡ tells.target (slice_index_or lanes m l)

  module _ (lanes : List L) where
    -- the receipt names the job; its lane tells the job as secured, and answered as the receipt says how; no other lane was
    -- asked for the job
    pub record IsSecuredBy (r : Issued) (j : Job) : Type 0 where
      pub job : r.job ≡ j.number
      pub on : L
      pub lane : slice_get lanes r.lane ≡ Some on
      pub told : tells.secured on j
      pub asked : tells.asked on j ≡ answers_of r.how
      pub alone : (m : ℕ) (l : L) → slice_get lanes m ≡ Some l → m ≢ r.lane → tells.asked l j ≡ []

    -- there is a receipt for each job, in order, and no lane tells a failure
    pub record AreSecured (receipts : List Issued) : Type 0 where
      pub count : length receipts ≡ length jobs
      pub each : (k : ℕ) (r : Issued) (j : Job) → k < length jobs
          → IsSecuredBy (slice_index_or receipts k r) (slice_index_or jobs k j)
      pub quiet : All (λ l. All (λ j. tells.failed l j ≡ None) jobs) lanes

    -- a lane was asked for the job and tells it as secured, and none tells a failure of it
    pub record Succeeded (j : Job) : Type 0 where
      pub on : L
      pub lane : Contains lanes on
      pub told : tells.secured on j
      pub how : How
      pub asked : tells.asked on j ≡ answers_of how
      pub quiet : All (λ l. tells.failed l j ≡ None) lanes

    -- the job was finished on a lane, which tells how; no other lane was asked for it
    pub record WasDrawn (j : Job) : Type 0 where
      pub place : ℕ
      pub on : L
      pub lane : slice_get lanes place ≡ Some on
      pub outcome : Result How Cause
      pub told : EndsAs tells on j outcome
      pub alone : (m : ℕ) (l : L) → slice_get lanes m ≡ Some l → m ≢ place → tells.asked l j ≡ []

    -- the jobs up to this number were drawn: each of them was finished, and for no other was any lane asked
    pub record WereDrawn (drawn : ℕ) : Type 0 where
      pub finished : (k : ℕ) (j : Job) → k < drawn → slice_get jobs k ≡ Some j → WasDrawn j
      pub none : (k : ℕ) (j : Job) → drawn ≤ k → slice_get jobs k ≡ Some j → All (λ l. tells.asked l j ≡ []) lanes

    -- a lane tells this cause of the job, and every lower job succeeded
    pub record IsLeastFault (fault : JobFault) : Type 0 where
      pub place : ℕ
      pub is : fault.job ≡ place + 1
      pub job : Job
      pub at : slice_get jobs place ≡ Some job
      pub on : L
      pub lane : Contains lanes on
      pub cause : tells.failed on job ≡ Some fault.cause
      pub asked : Failed (tells.asked on job)
      pub lower : (k : ℕ) (j : Job) → k < place → slice_get jobs k ≡ Some j → Succeeded j
      pub drawn : ℕ
      pub among : place < drawn
      pub first : WereDrawn drawn

  -- the fault is that of the least job that failed; or it is of job 0, want of memory, and no lane was used
  abbrev pub IsJobFault : List L → List L → JobFault → Type 0
  IsJobFault old new fault =
      IsLeastFault new fault ⊎ ((fault.job ≡ 0) × (fault.cause ≡ cause.Memory) × (new ≡ old))

  -- the first lane was asked for none but the first jobs, up to this number, and tells of all others as before
  abbrev pub OnlyAsked : ℕ → List L → List L → Type 0
  OnlyAsked last old new =
      (l : L) → KeepsAll tells (take last jobs) (slice_index_or old 0 l) (slice_index_or new 0 l)
