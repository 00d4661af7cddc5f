-- A blob that is written at a destination and not named yet.
use Rattle.std.specs.Prelude.{◌≡◌, ◌⊎◌, ◌++◌, ℕ, List, None, Some, IfSome, true, Bool, false, take}
use Rattle.skopeo_outside.specs.Tree.{Tree, file_at}
use Rattle.skopeo_outside.specs.Outside.{Told}
use Rattle.skopeo_outside.specs.LaneTold.{LaneTold}
use Rattle.digest_reader.specs.declared.job.Job.{Job}
use Rattle.layouts.specs.Paths.{blob_part}
use Rattle.layouts.specs.Trees.{OnlyAt}
use Rattle.copy_workers.specs.declared.cause.Cause.{Cause}
use Rattle.copy_workers.specs.declared.cause.Cause.TheVariants as cause
use Rattle.transports.specs.declared.blob.Upload.{Upload}
use Rattle.transports.specs.declared.blob.Upload.TheVariants as upload
use Rattle.transports.specs.declared.source.Source.{Source}
use Rattle.transports.specs.declared.dest.Dest.{Dest}
use Rattle.transports.specs.declared.dest.Dest.TheVariants.{Folder}
use Rattle.transports.specs.Blobs.{IsWhole}
use Rattle.transports.specs.Given.{GaveFront}

-- an upload that is this job's at this destination. (Place for where a registry wants the rest.)
unfoldable pub IsUploadOf : Dest → Job → Upload → Type 0
IsUploadOf (Folder path) job upload.File = Unit {0}

-- the part of a blob holds these bytes, and all other files are as they were
pub record IsPartHeld (part bytes : List ℕ) (old new : Tree) : Type 0 where
  pub holds : file_at new part ≡ Some bytes
  pub only : OnlyAt part old new

-- the destination was given these first bytes of the job's blob by this lane, and nothing else
unfoldable pub TookFront : Dest → Job → LaneTold → LaneTold → List ℕ → Type 0
TookFront (Folder path) job old new bytes = Told (IsPartHeld (blob_part path job.digest old.number) bytes) old.files.tree new.files.tree

-- and they stand there now
unfoldable pub HeldAt : Dest → Job → LaneTold → List ℕ → Type 0
HeldAt (Folder path) job now bytes = IfSome now.files.tree (λ t. file_at t (blob_part path job.digest now.number) ≡ Some bytes)

-- nothing but the lane's part of the job's blob was touched
unfoldable pub OnlyPart : Dest → Job → LaneTold → LaneTold → Type 0
OnlyPart (Folder path) job old new =
    Told (OnlyAt (blob_part path job.digest old.number)) old.files.tree new.files.tree × (new.to.talks ≡ old.to.talks) × (new.number ≡ old.number)

-- no part of the job's blob is left
unfoldable pub LeavesNoPart : Dest → Job → LaneTold → LaneTold → Type 0
LeavesNoPart (Folder path) job old new = Told (λ a b. file_at b (blob_part path job.digest old.number) ≡ None) old.files.tree new.files.tree

-- the part of the job's blob is as it was, or gone
unfoldable pub SamePart : Dest → Job → LaneTold → LaneTold → Type 0
SamePart (Folder path) job old new =
    Told (λ a b. let part = blob_part path job.digest old.number in (file_at b part ≡ file_at a part) ⊎ (file_at b part ≡ None)) old.files.tree new.files.tree

-- the upload holds these bytes of the job's blob
pub record Holds (dest : Dest) (job : Job) (u : Upload) (old new : LaneTold) (bytes : List ℕ) : Type 0 where
  pub of_job : IsUploadOf dest job u
  pub took : TookFront dest job old new bytes
  pub held : HeldAt dest job new bytes
  pub number : new.number ≡ old.number

-- the upload holds the whole blob
pub record HoldsWhole (dest : Dest) (job : Job) (u : Upload) (now : LaneTold) : Type 0 where
  pub entry : LaneTold
  pub bytes : List ℕ
  pub holds : Holds dest job u entry now bytes
  pub whole : IsWhole job bytes

-- the destination took of a piece at least no byte and at most all
pub record TookSome (dest : Dest) (job : Job) (old new : LaneTold) (before piece : List ℕ) : Type 0 where
  pub count : ℕ
  pub took : TookFront dest job old new (before ++ take count piece)

-- what is left of a blob that was not secured: its part is as it was or gone, or holds first bytes that the source gave
pub record LeavesFront (source : Source) (dest : Dest) (job : Job) (old new : LaneTold) : Type 0 where
  pub only : OnlyPart dest job old new
  pub part : SamePart dest job old new ⊎ ((bytes : List ℕ) × TookFront dest job old new bytes × GaveFront source job old new bytes)

unfoldable pub IsLeft : Source → Dest → Job → LaneTold → LaneTold → Type 0
IsLeft source dest job old new = LeavesFront source dest job old new

-- other bytes than the job's were found
abbrev pub is_mismatch : Cause → Bool
is_mismatch (cause.BlobMismatch m) = true
is_mismatch _ = false
