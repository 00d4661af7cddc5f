-- The jobs of an image over several lanes: each is secured on some lane, or the least that failed is told.
use Rattle.std.specs.Prelude.{◌≡◌, ◌≢◌, ◌⊎◌, ◌<◌, ℕ, List, [], ◌∷◌, Some, Result, Ok, Err, ⊤, length, take, slice_get, IfSome}
use Rattle.skopeo_outside.specs.Tree.{Tree, file_at}
use Rattle.skopeo_outside.specs.LaneTold.{LaneTold}
use Rattle.skopeo_outside.specs.Seen.{OnEach, OnSome}
use Rattle.digest_reader.specs.declared.job.Job.{Job}
use Rattle.layouts.specs.Paths.{blob_path}
use Rattle.copy_workers.specs.declared.cause.Cause.{Cause}
use Rattle.copy_workers.specs.Receipts.{Issued}
use Rattle.transports.specs.declared.source.Source.{Source}
use Rattle.transports.specs.declared.source.Source.TheVariants as source
use Rattle.transports.specs.declared.dest.Dest.{Dest}
use Rattle.transports.specs.declared.refusal.Refusal.{Refusal}
use Rattle.transports.specs.declared.refusal.Refusal.TheVariants as refusal
use Rattle.transports.specs.Refusals.{by_cause}
use Rattle.transports.specs.Blobs.{looked_at}
use Rattle.transports.specs.Has.{HasBlob}
use Rattle.transports.specs.StepEnds.{IsDone, FailsBy}
use Rattle.transports.specs.Named.{BringsOnly, IsOfJobs}

-- on some lane, in this call, the destination has the job's blob
abbrev pub IsSecured : Dest → List LaneTold → List LaneTold → Job → Type 0
IsSecured dest old new job = OnSome (λ place a b. HasBlob dest job a b) old new

-- each of the jobs is
abbrev pub AreSecured : Dest → List Job → List LaneTold → List LaneTold → Type 0
AreSecured dest jobs old new = (k : ℕ) (job : Job) → slice_get jobs k ≡ Some job → IsSecured dest old new job

-- each of the first jobs was done on some lane
abbrev pub AreDone : Source → Dest → List Job → ℕ → List LaneTold → List LaneTold → Type 0
AreDone source dest jobs count old new = (k : ℕ) (job : Job) → k < count → slice_get jobs k ≡ Some job → OnSome (λ place a b. IsDone source dest job a b) old new

-- the job was done on some lane, or failed there for its cause; on no other lane was anything of it added
pub record WasDrawn (source : Source) (dest : Dest) (job : Job) (old new : List LaneTold) : Type 0 where
  pub place : ℕ
  pub before : LaneTold
  pub after : LaneTold
  pub was : slice_get old place ≡ Some before
  pub now : slice_get new place ≡ Some after
  pub ends : IsDone source dest job before after ⊎ ((cause : Cause) × FailsBy source job cause before after)
  pub once : OnEach (λ other a b. (other ≡ place) ⊎ BringsOnly dest (λ digest. digest ≢ job.digest) a b) old new

-- the jobs up to this number were drawn: each was done or failed; and of no other was anything added on any lane
pub record WereDrawn (source : Source) (dest : Dest) (jobs : List Job) (count : ℕ) (old new : List LaneTold) : Type 0 where
  pub each : (k : ℕ) (job : Job) → k < count → slice_get jobs k ≡ Some job → WasDrawn source dest job old new
  pub others : OnEach (λ place a b. BringsOnly dest (IsOfJobs (take count jobs)) a b) old new

-- the least job that failed, on some lane and for this cause; each lower job was done; and it is among the first, which were
-- drawn and no others
pub record IsLeast (source : Source) (dest : Dest) (jobs : List Job) (old new : List LaneTold) (e : Refusal) : Type 0 where
  pub place : ℕ
  pub job : Job
  pub at : slice_get jobs place ≡ Some job
  pub cause : Cause
  pub is : e ≡ by_cause job.number cause
  pub failed : OnSome (λ lane a b. FailsBy source job cause a b) old new
  pub lower : AreDone source dest jobs place old new
  pub drawn : ℕ
  pub among : place < drawn
  pub first : WereDrawn source dest jobs drawn old new

-- how the jobs end: all were done, or the least failure is told; or memory was wanting before one was begun
abbrev pub JobsEnd : {A : Type 0} → Source → Dest → List Job → List LaneTold → List LaneTold → Result A Refusal → Type 0
JobsEnd source dest jobs old new (Ok done) = AreDone source dest jobs (length jobs) old new
JobsEnd source dest jobs old new (Err e) = IsLeast source dest jobs old new e ⊎ ((e ≡ refusal.Memory) × (new ≡ old))

-- there is a receipt for each job, in their order
pub record AreReceipts (jobs : List Job) (receipts : List Issued) : Type 0 where
  pub count : length receipts ≡ length jobs
  pub job : (k : ℕ) (r : Issued) (j : Job) → slice_get receipts k ≡ Some r → slice_get jobs k ≡ Some j → r.job ≡ j.number

-- ---- the same for folders, as a function of one tree

-- a lane's files have at the blobs' places what this tree has. (A premise of completeness, for folders alone,
-- and of nothing else.)
unfoldable pub SameBlobs : Source → List Job → Tree → LaneTold → Type 0
SameBlobs (source.Registry reference) jobs tree lane = ⊥
SameBlobs (source.Folder path) jobs tree lane = IfSome lane.files.tree (λ t. (k : ℕ) (job : Job) → slice_get jobs k ≡ Some job → file_at t (blob_path path job.digest) ≡ file_at tree (blob_path path job.digest))

abbrev pub or_next : ℕ → Result (List ℕ) Cause → Result ⊤ Refusal → Result ⊤ Refusal
or_next number (Ok bytes) next = next
or_next number (Err cause) next = Err (refusal.Job number cause)

-- the least job whose bytes in the folder are absent or wrong
abbrev pub first_fault : Tree → List ℕ → List Job → Result ⊤ Refusal
first_fault tree folder [] = Ok tt
first_fault tree folder (job ∷ jobs) = or_next job.number (looked_at job (file_at tree (blob_path folder job.digest))) (first_fault tree folder jobs)
