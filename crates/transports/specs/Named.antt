-- What stands at a destination that was made ready, and at one at which an image was named.
use Rattle.std.specs.Prelude.{◌≡◌, ◌≢◌, ◌⊎◌, ◌<◌, ◌+◌, ℕ, List, Option, Some, None, Contains, length, slice_get, []}
use Rattle.skopeo_outside.specs.Tree.{Tree, file_at}
use Rattle.skopeo_outside.specs.Folders.{joined}
use Rattle.skopeo_outside.specs.Outside.{Told}
use Rattle.skopeo_outside.specs.LaneTold.{LaneTold}
use Rattle.layouts.specs.Names.{manifest_name, prefix_of}
use Rattle.layouts.specs.Destination.{IsReady, IsManifestIn}
use Rattle.layouts.specs.Trees.{SameOrGone}
use Rattle.layouts.specs.Version.{version_text}
use Rattle.layouts.specs.Paths.{IsIn, blob_path, blob_part, version_path}
use Rattle.layouts.specs.Written.{signature_at}
use Rattle.digest_reader.specs.declared.job.Job.{Job}
use Rattle.transports.specs.declared.dest.Dest.{Dest}
use Rattle.transports.specs.declared.dest.Dest.TheVariants.{Folder}

-- the destination was emptied and made
unfoldable pub IsPrepared : Dest → LaneTold → LaneTold → Type 0
IsPrepared (Folder path) old new = Told (IsReady path) old.files.tree new.files.tree

-- each signature stands in a folder, numbered from 1
abbrev pub AreSignedIn : List ℕ → Option (List ℕ) → List (List ℕ) → Tree → Type 0
AreSignedIn folder part signatures tree =
    (k : ℕ) (s : List ℕ) → slice_get signatures k ≡ Some s → file_at tree (signature_at folder (prefix_of part) (k + 1)) ≡ Some s

-- the signatures stand, of the image or of an instance by its digest
unfoldable pub AreSigned : Dest → Option (List ℕ) → List (List ℕ) → LaneTold → LaneTold → Type 0
AreSigned (Folder path) part signatures old new = Told (λ a b. AreSignedIn path part signatures b) old.files.tree new.files.tree

-- the manifest stands, of the image or of an instance by its digest
unfoldable pub IsNamed : Dest → Option (List ℕ) → List ℕ → LaneTold → LaneTold → Type 0
IsNamed (Folder path) part bytes old new = Told (λ a b. file_at b (joined path (manifest_name part)) ≡ Some bytes) old.files.tree new.files.tree

-- a path in the folder that is none of the image's
pub record IsOther (folder : List ℕ) (jobs : List Job) (signatures : List (List ℕ)) (path : List ℕ) : Type 0 where
  pub inside : IsIn folder path
  pub manifest : path ≢ joined folder (manifest_name None)
  pub version : path ≢ version_path folder
  pub blob : (k : ℕ) (job : Job) → slice_get jobs k ≡ Some job → path ≢ blob_path folder job.digest
  pub signature : (k : ℕ) → k < length signatures → path ≢ signature_at folder [] (k + 1)

-- the folder was made, has its version, and holds no file that is none of the image's
pub record HoldsOnly (folder : List ℕ) (jobs : List Job) (signatures : List (List ℕ)) (tree : Tree) : Type 0 where
  pub made : Contains tree.folders folder
  pub version : file_at tree (version_path folder) ≡ Some version_text
  pub gone : (q : List ℕ) → IsOther folder jobs signatures q → file_at tree q ≡ None

-- the destination holds this image and nothing else
unfoldable pub IsAlone : Dest → List Job → List (List ℕ) → LaneTold → LaneTold → Type 0
IsAlone (Folder path) jobs signatures old new = Told (λ a b. HoldsOnly path jobs signatures b) old.files.tree new.files.tree

-- no manifest stands at the destination
unfoldable pub HasNoManifest : Dest → LaneTold → LaneTold → Type 0
HasNoManifest (Folder path) old new = Told (λ a b. (q : List ℕ) → IsManifestIn path q → file_at b q ≡ None) old.files.tree new.files.tree

-- the folder stands still, and each file in it is as it was or gone, but for blobs of such digests
pub record AddsIn (folder : List ℕ) (Is : List ℕ → Type 0) (old new : Tree) : Type 0 where
  pub folders : (p : List ℕ) → Contains old.folders p → Contains new.folders p
  pub version : file_at new (version_path folder) ≡ file_at old (version_path folder)
  pub files : (q : List ℕ) → IsIn folder q → SameOrGone old new q ⊎ ((digest : List ℕ) × Is digest × (q ≡ blob_path folder digest))

-- nothing was added at the destination but blobs of such digests
unfoldable pub AddsOnly : Dest → (List ℕ → Type 0) → LaneTold → LaneTold → Type 0
AddsOnly (Folder path) Is old new = Told (AddsIn path Is) old.files.tree new.files.tree

-- each file in the folder is as it was or gone, but for blobs of such digests and this lane's parts of them
pub record BringsIn (folder : List ℕ) (lane : ℕ) (Is : List ℕ → Type 0) (old new : Tree) : Type 0 where
  pub files : (q : List ℕ) → IsIn folder q
      → SameOrGone old new q ⊎ ((digest : List ℕ) × Is digest × ((q ≡ blob_path folder digest) ⊎ (q ≡ blob_part folder digest lane)))

-- nothing was added at the destination but blobs of such digests, and parts of them
unfoldable pub BringsOnly : Dest → (List ℕ → Type 0) → LaneTold → LaneTold → Type 0
BringsOnly (Folder path) Is old new = Told (BringsIn path old.number Is) old.files.tree new.files.tree

-- a digest of one of the jobs
abbrev pub IsOfJobs : List Job → List ℕ → Type 0
IsOfJobs jobs digest = (k : ℕ) × (job : Job) × (slice_get jobs k ≡ Some job) × (job.digest ≡ digest)
