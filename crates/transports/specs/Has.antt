-- What a destination has, by what one lane told before and tells now. Each relation has one case a kind of destination.
-- Laws: what it has by two states it has by wider ones (`IsLater` before, `KeepsBlobs` behind).
use Rattle.std.specs.Prelude.{◌≡◌, ◌≢◌, ◌⊎◌, ℕ, List, Some, IfSome}
use Rattle.skopeo_outside.specs.Tree.{Tree, file_at}
use Rattle.skopeo_outside.specs.Outside.{Told}
use Rattle.skopeo_outside.specs.LaneTold.{LaneTold}
use Rattle.digest_reader.specs.declared.job.Job.{Job}
use Rattle.layouts.specs.Paths.{blob_path}
use Rattle.layouts.specs.Trees.{OnlyIn}
use Rattle.layouts.specs.Destination.{MayReplace, ImageFirst, ManifestsFirst}
use Rattle.transports.specs.declared.dest.Dest.{Dest}
use Rattle.transports.specs.declared.dest.Dest.TheVariants.{Folder}
use Rattle.transports.specs.Blobs.{IsWhole}

-- ---- blobs

-- a file with the job's size and digest stands at the blob's place
pub record StandsIn (folder : List ℕ) (job : Job) (tree : Tree) : Type 0 where
  pub bytes : List ℕ
  pub there : file_at tree (blob_path folder job.digest) ≡ Some bytes
  pub whole : IsWhole job bytes

-- the destination has the job's blob: reported present or written whole between the two states, or standing at the second
unfoldable pub HasBlob : Dest → Job → LaneTold → LaneTold → Type 0
HasBlob (Folder path) job old new = Told (λ a b. StandsIn path job b) old.files.tree new.files.tree

-- the destination itself reported the blob, so that it was not asked of the source; a folder reports none
unfoldable pub IsReported : Dest → Job → LaneTold → LaneTold → Type 0
IsReported (Folder path) job old new = ⊥

-- blobs of other digests that it has it has still
abbrev pub KeepsBlobs : Dest → Job → LaneTold → LaneTold → Type 0
KeepsBlobs dest job old new = (other : Job) (first : LaneTold) → other.digest ≢ job.digest → HasBlob dest other first old → HasBlob dest other first new

-- and so are all blobs
abbrev pub KeepsAllBlobs : Dest → LaneTold → LaneTold → Type 0
KeepsAllBlobs dest old new = (job : Job) (first : LaneTold) → HasBlob dest job first old → HasBlob dest job first new

-- ---- the destination and all else

-- no more was said to any destination, and the lane's files are as they were
pub record IsUntouched (old new : LaneTold) : Type 0 where
  pub files : new.files.tree ≡ old.files.tree
  pub to : new.to.talks ≡ old.to.talks

-- all that is not the destination is as it was
unfoldable pub OnlyAtDest : Dest → LaneTold → LaneTold → Type 0
OnlyAtDest (Folder path) old new = Told (OnlyIn path) old.files.tree new.files.tree × (new.to.talks ≡ old.to.talks)

-- the destination may be replaced, as it is told
unfoldable pub MayTake : Dest → LaneTold → Type 0
MayTake (Folder path) lane = IfSome lane.files.tree (λ t. MayReplace t path)

-- and it may not, as it is told
unfoldable pub MayNotTake : Dest → LaneTold → Type 0
MayNotTake (Folder path) lane = IfSome lane.files.tree (λ t. MayReplace t path → ⊥)

-- nothing was touched, or the destination could be replaced as it was
unfoldable pub TakesLate : Dest → LaneTold → LaneTold → Type 0
TakesLate dest old new = IsUntouched old new ⊎ MayTake dest old

-- what is lost is lost in order: the image's manifest first, then those of instances, then all else
unfoldable pub RemovesInOrder : Dest → LaneTold → LaneTold → Type 0
RemovesInOrder (Folder path) old new = Told (λ a b. ImageFirst path a b × ManifestsFirst path a b) old.files.tree new.files.tree
