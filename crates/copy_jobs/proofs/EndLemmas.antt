-- How jobs end comes to one thing where the lanes' sources start equal: this is where "trees start equal" is used.
use Rattle.std.proofs.Common.{◌≡◌, ◌⊎◌, ◌∙◌, ◌<◌, ℕ, zero, suc, false, true, List, [], ◌∷◌, Option, Some, None, Result, Ok, Err, IfSome, length, slice_get, inl, inr, refl, sym, ap, arith}
use Rattle.skopeo_outside.specs.Tree.{Tree, file_at}
use Rattle.skopeo_outside.specs.LaneTold.{LaneTold}
use Rattle.digest_reader.specs.declared.job.Job.{Job}
use Rattle.layouts.specs.Paths.{blob_path}
use Rattle.copy_workers.specs.declared.cause.Cause.{Cause}
use Rattle.transports.specs.declared.source.Source.TheVariants.{Folder}
use Rattle.transports.specs.declared.dest.Dest.TheVariants as dest
use Rattle.transports.specs.declared.refusal.Refusal.{Refusal}
use Rattle.transports.specs.declared.refusal.Refusal.TheVariants as refusal
use Rattle.transports.specs.Refusals.{is_free_cause}
use Rattle.transports.specs.Blobs.{looked_at}
use Rattle.transports.specs.Given.{BlobEnds}
use Rattle.transports.specs.Has.{IsReported}
use Rattle.transports.specs.StepEnds.{IsDone, FailsBy, FailsFreely}
use Rattle.copy_jobs.specs.Secured.{AreDone, IsLeast, SameBlobs, first_fault, or_next}

-- a blob's bytes in a folder, by this tree
abbrev at : Tree → List ℕ → Job → Option (List ℕ)
at tree folder job = file_at tree (blob_path folder job.digest)

-- the lane tells its files, and has at the blobs' places what the tree has
pub record TellsBlobs (folder : List ℕ) (jobs : List Job) (tree : Tree) (lane : LaneTold) : Type 0 where
  pub files : Tree
  pub told : lane.files.tree ≡ Some files
  pub same : SameBlobs (Folder folder) jobs tree lane

-- of equal trees a reading ends as by this one
pub ends_at : (tree : Tree) (folder : List ℕ) (jobs : List Job) (place : ℕ) (job : Job) (a b : LaneTold) (r : Result (List ℕ) Cause) → TellsBlobs folder jobs tree a → slice_get jobs place ≡ Some job → BlobEnds (Folder folder) job a b r → r ≡ looked_at job (at tree folder job)
unfolding BlobEnds SameBlobs
ends_at tree folder jobs place job a b r tells is ends = by a.files.tree tells.told tells.same ends
  where
    by : (x : Option Tree) → x ≡ Some tells.files → IfSome x (λ u. (k : ℕ) (j : Job) → slice_get jobs k ≡ Some j → file_at u (blob_path folder j.digest) ≡ file_at tree (blob_path folder j.digest)) → IfSome x (λ u. r ≡ looked_at job (file_at u (blob_path folder job.digest))) → r ≡ looked_at job (at tree folder job)
    by None e same ends = let no : None ≡ Some tells.files = e in cc
    by (Some u) e same ends = ends ∙ ap (looked_at job) (same place job is)

-- a job that was done has its bytes there
pub done_at_source : (tree : Tree) (folder path : List ℕ) (jobs : List Job) (place : ℕ) (job : Job) (a b : LaneTold) → TellsBlobs folder jobs tree a → slice_get jobs place ≡ Some job
    → IsDone (Folder folder) (dest.Folder path) job a b → (bytes : List ℕ) × (looked_at job (at tree folder job) ≡ Ok bytes)
unfolding IsReported
done_at_source tree folder path jobs place job a b tells is done = by done.how
  where
    by : ⊥ ⊎ ((bytes : List ℕ) × BlobEnds (Folder folder) job a b (Ok bytes)) → (bytes : List ℕ) × (looked_at job (at tree folder job) ≡ Ok bytes)
    by (inl none) = absurd none
    by (inr gave) = (gave.0, sym (ends_at tree folder jobs place job a b (Ok gave.0) tells is gave.1))

-- a job that failed for no cause that may come at any step fails there
pub failed_at_source : (tree : Tree) (folder : List ℕ) (jobs : List Job) (place : ℕ) (job : Job) (e : Cause) (a b : LaneTold) → TellsBlobs folder jobs tree a → slice_get jobs place ≡ Some job
    → is_free_cause e ≡ false → FailsBy (Folder folder) job e a b → looked_at job (at tree folder job) ≡ Err e
failed_at_source tree folder jobs place job e a b tells is free failed = by failed
  where
    by : FailsFreely e a b ⊎ BlobEnds (Folder folder) job a b (Err e) → looked_at job (at tree folder job) ≡ Err e
    by (inl f) = let no : true ≡ false = sym f.free ∙ free in cc
    by (inr ends) = sym (ends_at tree folder jobs place job a b (Err e) tells is ends)

-- a job that was done on one lane did not fail for its source on another
pub done_or_failed : (tree : Tree) (folder path : List ℕ) (jobs : List Job) (place : ℕ) (job : Job) (e : Cause) (a b c d : LaneTold) → TellsBlobs folder jobs tree a → TellsBlobs folder jobs tree c
    → slice_get jobs place ≡ Some job → is_free_cause e ≡ false → IsDone (Folder folder) (dest.Folder path) job a b → FailsBy (Folder folder) job e c d → ⊥
done_or_failed tree folder path jobs place job e a b c d sa sc is free done failed =
    let well = done_at_source tree folder path jobs place job a b sa is done in
    let ill = failed_at_source tree folder jobs place job e c d sc is free failed in
    let no : Ok well.0 ≡ Err e = sym well.1 ∙ ill in
    cc

-- ---- all jobs, over lanes that start equal

-- each lane tells the same
abbrev pub TellBlobs : List ℕ → List Job → Tree → List LaneTold → Type 0
TellBlobs folder jobs tree lanes = (place : ℕ) (lane : LaneTold) → slice_get lanes place ≡ Some lane → TellsBlobs folder jobs tree lane

-- the bytes of jobs that were done are there
pub all_at_source : (tree : Tree) (folder path : List ℕ) (jobs : List Job) (count : ℕ) (old new : List LaneTold) → TellBlobs folder jobs tree old → AreDone (Folder folder) (dest.Folder path) jobs count old new → (k : ℕ) (job : Job) → k < count → slice_get jobs k ≡ Some job → (bytes : List ℕ) × (looked_at job (at tree folder job) ≡ Ok bytes)
all_at_source tree folder path jobs count old new tell done k job lt is =
    let on = done k job lt is in
    done_at_source tree folder path jobs k job on.before on.after (tell on.place on.before on.was) is on.holds

-- where all are, the folder has no fault
pub no_fault : (tree : Tree) (folder : List ℕ) (jobs : List Job) → ((k : ℕ) (job : Job) → k < length jobs → slice_get jobs k ≡ Some job → (bytes : List ℕ) × (looked_at job (at tree folder job) ≡ Ok bytes)) → first_fault tree folder jobs ≡ Ok tt
no_fault tree folder [] whole = refl
no_fault tree folder (job ∷ jobs) whole =
    let first = whole 0 job (omega arith) refl in
    ap (λ r. or_next job.number r (first_fault tree folder jobs)) first.1 ∙ no_fault tree folder jobs (λ k j lt is. whole (suc k) j (omega (arith, lt)) is)

-- where the first are and the next fails, that is the folder's fault
pub least_fault : (tree : Tree) (folder : List ℕ) (jobs : List Job) (place : ℕ) (job : Job) (e : Cause) → slice_get jobs place ≡ Some job → looked_at job (at tree folder job) ≡ Err e
    → ((k : ℕ) (j : Job) → k < place → slice_get jobs k ≡ Some j → (bytes : List ℕ) × (looked_at j (at tree folder j) ≡ Ok bytes)) → first_fault tree folder jobs ≡ Err (refusal.Job job.number e)
least_fault tree folder [] place job e is fails whole = let no : None ≡ Some job = is in cc
least_fault tree folder (first ∷ jobs) zero job e is fails whole =
    let same : first ≡ job = some_same first job is in
    ap (λ r. or_next first.number r (first_fault tree folder jobs)) (ap (λ j. looked_at j (at tree folder j)) same ∙ fails) ∙ ap (λ (j : Job). Err (refusal.Job j.number e)) same
  where
    some_same : (t u : Job) → Some t ≡ Some u → t ≡ u
    some_same t u e = cc
least_fault tree folder (first ∷ jobs) (suc place) job e is fails whole =
    let well = whole 0 first (omega arith) refl in
    ap (λ r. or_next first.number r (first_fault tree folder jobs)) well.1 ∙ least_fault tree folder jobs place job e is fails (λ k j lt here. whole (suc k) j (omega (arith, lt)) here)

-- jobs that were all done, over lanes that start equal: the folder has no fault
pub done_no_fault : (tree : Tree) (folder path : List ℕ) (jobs : List Job) (old new : List LaneTold) → TellBlobs folder jobs tree old → AreDone (Folder folder) (dest.Folder path) jobs (length jobs) old new → first_fault tree folder jobs ≡ Ok tt
done_no_fault tree folder path jobs old new tell done = no_fault tree folder jobs (all_at_source tree folder path jobs (length jobs) old new tell done)

-- and the least job that failed for no cause that may come at any step is the folder's fault
pub least_is_fault : (tree : Tree) (folder path : List ℕ) (jobs : List Job) (old new : List LaneTold) (e : Refusal) → TellBlobs folder jobs tree old → (l : IsLeast (Folder folder) (dest.Folder path) jobs old new e) → is_free_cause l.cause ≡ false → first_fault tree folder jobs ≡ Err (refusal.Job l.job.number l.cause)
least_is_fault tree folder path jobs old new e tell l free =
    least_fault tree folder jobs l.place l.job l.cause l.at
    (failed_at_source tree folder jobs l.place l.job l.cause l.failed.before l.failed.after (tell l.failed.place l.failed.before l.failed.was) l.at free l.failed.holds)
    (all_at_source tree folder path jobs l.place old new tell l.lower)
