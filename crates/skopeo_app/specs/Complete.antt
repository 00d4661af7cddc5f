-- Completeness: a copy between two folders without a program that judges signatures ends as one tree says, where each
-- lane's files start with the same blobs and no object outside fails.
use Rattle.std.specs.Prelude.{◌≡◌, ◌≢◌, ◌⊎◌, List, ℕ, Some, None, Result, Ok, Err, ⊤, slice_get}
use Rattle.skopeo_outside.specs.Tree.{Tree, file_at}
use Rattle.skopeo_outside.specs.Outside.{Rose}
use Rattle.skopeo_outside.specs.LaneTold.{LaneTold}
use Rattle.skopeo_outside.specs.Seen.{Seen, OnEach}
use Rattle.image_ref.specs.declared.place.Place.TheVariants.{Dir}
use Rattle.layouts.specs.Paths.{blob_path}
use Rattle.layouts.specs.Destination.{MayReplace}
use Rattle.policy_file.specs.PolicyLists.{PolicyLists}
use Rattle.transports.specs.declared.refusal.Refusal.{Refusal}
use Rattle.transports.specs.declared.refusal.Refusal.TheVariants.{NotAnImageDir}
use Rattle.manifest_convert.specs.Blobs.{blobs}
use Rattle.admission.specs.Judged.{Submission}
use Rattle.copy_jobs.specs.Secured.{first_fault}
use Rattle.skopeo_app.specs.declared.task.CopyTask.{CopyTask}
use Rattle.skopeo_app.specs.declared.task.Task.TheVariants.{Copy}
use Rattle.skopeo_app.specs.Sinks.{SinkTold}
use Rattle.skopeo_app.specs.Courses.{CommandTold}
use Rattle.skopeo_app.specs.Task.{task_of}
use Rattle.skopeo_app.specs.Headline.{first_tree}
use Rattle.skopeo_app.specs.Answer.{CommandEnds}
use Rattle.skopeo_app.specs.ByTree.{policy_at, admitted_in, answer_in}

-- a lane tells its files, and has at each blob's place in a folder what the tree has
pub record StartsWith (folder : List ℕ) (tree : Tree) (lane : LaneTold) : Type 0 where
  pub files : Tree
  pub told : lane.files.tree ≡ Some files
  pub same : (digest : List ℕ) → file_at files (blob_path folder digest) ≡ file_at tree (blob_path folder digest)

-- each lane does
abbrev pub AllStart : List ℕ → Tree → Seen → Type 0
AllStart folder tree old = (place : ℕ) (lane : LaneTold) → slice_get old.lanes place ≡ Some lane → StartsWith folder tree lane

-- the words name a copy from one folder to another, and no program that judges signatures; the first lane tells this tree,
-- and all start with its blobs
pub record IsFolderCopy (words : List (List ℕ)) (cwd : List ℕ) (task : CopyTask) (source dest : List ℕ) (tree : Tree) (old : Seen) : Type 0 where
  pub named : task_of words cwd ≡ Ok (Copy task)
  pub from : task.plan.source ≡ Dir source
  pub to : task.plan.dest ≡ Dir dest
  pub apart : source ≢ dest
  pub alone : task.plan.verifier ≡ None
  pub first : first_tree old.lanes ≡ Some tree
  pub same : AllStart source tree old

-- whether a folder may be replaced, or how it is refused
abbrev pub Judges : Tree → List ℕ → Result ⊤ Refusal → Type 0
Judges tree folder (Ok done) = MayReplace tree folder
Judges tree folder (Err e) = (e ≡ NotAnImageDir folder) × (MayReplace tree folder → ⊥)

-- no count of a lane's faults rose
pub record IsCalm (old new : LaneTold) : Type 0 where
  pub files : Rose old.files.faults new.files.faults → ⊥
  pub from : Rose old.from.faults new.from.faults → ⊥
  pub to : Rose old.to.faults new.to.faults → ⊥

-- nor that of another lane or of the output
pub record AreCalm (before after : CommandTold) : Type 0 where
  pub lanes : OnEach (λ place a b. IsCalm a b) before.seen.lanes after.seen.lanes
  pub out : Rose before.out.faults after.out.faults → ⊥

-- such a command ends as the tree says, or memory was wanting
abbrev pub EndsByTree : List (List ℕ) → List ℕ → List ℕ → CopyTask → List ℕ → List ℕ → Tree → Type 0
EndsByTree words home cwd task source dest tree =
    (taken : Result ⊤ Refusal) (before after : CommandTold) (err_before err_after : SinkTold) (code : ℕ) → IsFolderCopy words cwd task source dest tree before.seen → Judges tree dest taken → AreCalm before after
    → (end : CommandEnds words home cwd before after err_before err_after code) → (code ≡ 4) ⊎ (end.answer ≡ answer_in tree home cwd task source taken)

-- ---- a good copy

-- the policy that counts admits the source folder's image, each of its blobs is there and whole, and the destination may be
-- replaced
pub record IsGood (home cwd : List ℕ) (task : CopyTask) (source dest : List ℕ) (tree : Tree) : Type 0 where
  pub policy : PolicyLists
  pub counts : policy_at tree home cwd task.policy ≡ Ok policy
  pub submitted : Submission
  pub admitted : admitted_in tree source policy ≡ Ok submitted
  pub whole : first_fault tree source (blobs submitted.image) ≡ Ok tt
  pub may : MayReplace tree dest

-- such a copy ends with status 0, or memory was wanting
abbrev pub GoodEnds : List (List ℕ) → List ℕ → List ℕ → CopyTask → List ℕ → List ℕ → Tree → Type 0
GoodEnds words home cwd task source dest tree =
    (before after : CommandTold) (err_before err_after : SinkTold) (code : ℕ) → IsFolderCopy words cwd task source dest tree before.seen → IsGood home cwd task source dest tree → AreCalm before after
    → CommandEnds words home cwd before after err_before err_after code → (code ≡ 4) ⊎ (code ≡ 0)
