-- What running jobs leaves as it was.
use Rattle.std.specs.Prelude.{◌≡◌, ◌≢◌, ◌<◌, ℕ, List, All, Contains, length, slice_index_or}
use Rattle.digest_reader.specs.declared.job.Job.{Job}
use Rattle.copy_workers.specs.Lanes.{Lore}

module _ {L O : Type 0} (tells : Lore L O) where
  -- of a job whose digest is that of none of these jobs the lane tells as before, and was asked nothing; target and origin
  -- stay
  pub record KeepsOthers (jobs : List Job) (old new : L) : Type 0 where
    pub stays : (other : Job) → All (λ j. other.digest ≢ j.digest) jobs
        → tells.secured old other → tells.secured new other
    pub fails : (other : Job) → All (λ j. other.digest ≢ j.digest) jobs
        → tells.failed new other ≡ tells.failed old other
    pub names : (other : Job) → All (λ j. other.digest ≢ j.digest) jobs
        → tells.named new other ≡ tells.named old other
    pub asks : (other : Job) → All (λ j. other.digest ≢ j.digest) jobs
        → tells.asked new other ≡ tells.asked old other
    pub target : tells.target new ≡ tells.target old
    pub origin : tells.origin new ≡ tells.origin old

  -- and of these jobs no more mounts are told than before
  pub record KeepsAll (jobs : List Job) (old new : L) : Type 0 where
    pub others : KeepsOthers jobs old new
    pub mounts : (job : Job) → Contains jobs job → tells.named new job ≡ tells.named old job

  -- each lane does
  abbrev pub EachKeeps : List Job → List L → List L → Type 0
  EachKeeps jobs old new =
      (k : ℕ) (l : L) → k < length old → KeepsAll jobs (slice_index_or old k l) (slice_index_or new k l)
