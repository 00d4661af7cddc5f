-- A step that touches nothing meets each relation of what it leaves.
use Rattle.std.proofs.Common.{◌≡◌, ◌⊎◌, ◌++◌, ℕ, List, [], ◌∷◌, None, Err, inl, inr, refl, sym, ap, subst}
use Rattle.skopeo_outside.specs.Tree.{Tree, file_at}
use Rattle.skopeo_outside.specs.LaneTold.{LaneTold, IsLater}
use Rattle.skopeo_outside.specs.LaneLaws.{later_same, told_same}
use Rattle.skopeo_outside.proofs.PlaceLemmas.{each_self}
use Rattle.skopeo_outside.specs.Steps.{Step, Ends}
use Rattle.digest_reader.specs.declared.job.Job.{Job}
use Rattle.layouts.specs.Trees.{OnlyIn, OnlyAt}
use Rattle.layouts.specs.Destination.{ImageFirst, ManifestsFirst}
use Rattle.layouts.specs.Paths.{IsIn, blob_part}
use Rattle.copy_workers.specs.declared.cause.Cause.TheVariants as cause
use Rattle.transports.specs.declared.source.Source.{Source}
use Rattle.transports.specs.declared.source.Source.TheVariants as source
use Rattle.transports.specs.declared.dest.Dest.{Dest}
use Rattle.transports.specs.declared.dest.Dest.TheVariants.{Folder}
use Rattle.transports.specs.declared.refusal.Refusal.{Refusal}
use Rattle.transports.specs.declared.refusal.Refusal.TheVariants as refusal
use Rattle.transports.specs.declared.blob.Upload.{Upload}
use Rattle.transports.specs.Courses.{lane_course}
use Rattle.transports.specs.StepEnds.{FailsFreely, FailsBy}
use Rattle.transports.specs.Given.{SameIn, Spares}
use Rattle.transports.specs.Has.{IsUntouched, OnlyAtDest, KeepsBlobs, RemovesInOrder, TakesLate}
use Rattle.transports.specs.Writes.{Spot, AtPath, KeepsManifests, KeepsOthers, WritesNone, WritesOnly, WritesNowhere}
use Rattle.transports.specs.Fair.{IsFair, IsFairOn, Works, AllWork}
use Rattle.transports.specs.Uploads.{Holds, TookFront, TookSome, OnlyPart, SamePart, IsLeft}

pub later_now : (a : LaneTold) → IsLater a a
later_now a = later_same a

pub untouched_same : (a : LaneTold) → IsUntouched a a
untouched_same a = record { files = refl; to = refl }

pub spares_same : (s : Source) (a : LaneTold) → Spares s a a
unfolding Spares
spares_same (source.Folder path) a = told_same (SameIn path) (λ t q here. refl) a.files.tree
spares_same (source.Registry r) a = later_same a

-- want of memory at once
pub ends_at_once : {A : Type 0} (step : Step LaneTold Refusal A) (a : LaneTold) → Ends lane_course step a a (Err refusal.Memory)
unfolding Ends lane_course
ends_at_once step a = record { later = later_same a; ends = tt }

pub fails_freely : (a : LaneTold) → FailsFreely cause.Memory a a
fails_freely a = record { free = refl; blames = tt }

pub wants_memory : (s : Source) (job : Job) (a : LaneTold) → FailsBy s job cause.Memory a a
wants_memory s job a = inl (fails_freely a)

-- ---- at a destination

only_in : (folder : List ℕ) (t : Tree) → OnlyIn folder t t
only_in folder t = record { files = λ q out. refl; folders = record { made = λ p c. inl c; kept = λ p c. c } }

pub only_same : (dest : Dest) (a : LaneTold) → OnlyAtDest dest a a
unfolding OnlyAtDest
only_same (Folder path) a = (told_same (OnlyIn path) (only_in path) a.files.tree, refl)

pub none_same : (a : LaneTold) → WritesNone a a
unfolding WritesNone
none_same a = told_same KeepsManifests (λ t q m. inl refl) a.files.tree

pub writes_same : (spot : Spot) (bytes : List ℕ) (a : LaneTold) → WritesOnly spot bytes a a
unfolding WritesOnly
writes_same (AtPath path) bytes a = told_same (KeepsOthers path bytes) (λ t q m. inl (inl refl)) a.files.tree

pub fair_same : (dest : Dest) (lane : ℕ) (a : LaneTold) → IsFairOn dest lane a a
unfolding IsFairOn
fair_same (Folder path) lane a = told_same (λ t u. (q : List ℕ) → IsIn path q → IsFair path lane t u q) (λ t q here. inl (inl refl)) a.files.tree

pub works_same : (dest : Dest) (a : LaneTold) → Works dest a a
unfolding Works
works_same dest a = record { later = later_same a; only = only_same dest a; none = none_same a; fair = fair_same dest a.number a }

pub order_same : (dest : Dest) (a : LaneTold) → RemovesInOrder dest a a
unfolding RemovesInOrder
order_same (Folder path) a = told_same (λ t u. ImageFirst path t u × ManifestsFirst path t u) (λ t. (inr (λ q out. refl), inr (λ q out. refl))) a.files.tree

pub keeps_same : (dest : Dest) (job : Job) (a : LaneTold) → KeepsBlobs dest job a a
keeps_same dest job a = λ other first apart has. has

pub part_same : (dest : Dest) (job : Job) (a : LaneTold) → OnlyPart dest job a a
unfolding OnlyPart
part_same (Folder path) job a = (told_same (OnlyAt (blob_part path job.digest a.number)) (λ t. record { files = λ q other. refl; folders = refl }) a.files.tree, refl, refl)

append_nil : {A : Type 0} (t : List A) → t ++ [] ≡ t
append_nil [] = refl
append_nil (x ∷ t) = ap (λ s. x ∷ s) (append_nil t)

-- of a piece nothing was taken
pub took_none : (dest : Dest) (job : Job) (u : Upload) (old new : LaneTold) (bytes piece : List ℕ) → Holds dest job u old new bytes → TookSome dest job old new bytes piece
took_none dest job u old new bytes piece holds = record { count = 0; took = subst (TookFront dest job old new) (sym (append_nil bytes)) holds.took }

pub left_same : (s : Source) (dest : Dest) (job : Job) (a : LaneTold) → IsLeft s dest job a a
unfolding SamePart IsLeft
left_same s (Folder path) job a = record {
  only = part_same (Folder path) job a;
  part = inl (told_same (λ t u. let part = blob_part path job.digest a.number in (file_at u part ≡ file_at t part) ⊎ (file_at u part ≡ None)) (λ t. inl refl) a.files.tree);
}

-- ---- on all lanes

pub all_work_same : (dest : Dest) (lanes : List LaneTold) → AllWork dest lanes lanes
unfolding AllWork
all_work_same dest lanes = each_self (λ place a b. Works dest a b) (λ place a. works_same dest a) lanes

pub nowhere_same : (lanes : List LaneTold) → WritesNowhere lanes lanes
unfolding WritesNowhere
nowhere_same lanes = each_self (λ place a b. WritesNone a b) (λ place a. none_same a) lanes

pub late_same : (dest : Dest) (a : LaneTold) → TakesLate dest a a
unfolding TakesLate
late_same dest a = inl (untouched_same a)
