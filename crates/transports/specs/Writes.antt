-- The manifests that a call wrote, on any lane: one case for each sort of place.
use Rattle.std.specs.Prelude.{◌≡◌, ◌≢◌, ◌⊎◌, ℕ, List, Option, Some}
use Rattle.skopeo_outside.specs.Tree.{Tree, file_at}
use Rattle.skopeo_outside.specs.Folders.{joined}
use Rattle.skopeo_outside.specs.Outside.{Told}
use Rattle.skopeo_outside.specs.Seen.{OnEach}
use Rattle.skopeo_outside.specs.LaneTold.{LaneTold}
use Rattle.layouts.specs.Names.{manifest_name}
use Rattle.layouts.specs.Paths.{IsManifestPath}
use Rattle.layouts.specs.Trees.{SameOrGone}
use Rattle.transports.specs.declared.dest.Dest.{Dest}
use Rattle.transports.specs.declared.dest.Dest.TheVariants.{Folder}

-- where a manifest is written: at a path
pub data Spot : Type 0 where
  AtPath : List ℕ → Spot

-- a manifest that stands at a path with bytes that the path did not have
pub record IsFileWrite (old new : Tree) (path bytes : List ℕ) : Type 0 where
  pub manifest : IsManifestPath path
  pub stands : file_at new path ≡ Some bytes
  pub changed : file_at old path ≢ Some bytes

-- the same where both are told
abbrev pub ShowsWrite : Option Tree → Option Tree → List ℕ → List ℕ → Type 0
ShowsWrite (Some old) (Some new) path bytes = IsFileWrite old new path bytes
ShowsWrite _ _ path bytes = ⊥

-- a manifest with these bytes was written there, on this lane
abbrev pub IsWrite : LaneTold → LaneTold → Spot → List ℕ → Type 0
IsWrite old new (AtPath path) bytes = ShowsWrite old.files.tree new.files.tree path bytes

-- where the manifest of an image, or of an instance by its digest, is written at a destination
abbrev pub spot_of : Dest → Option (List ℕ) → Spot
spot_of (Folder path) part = AtPath (joined path (manifest_name part))

-- each manifest is as it was, or is gone
abbrev pub KeepsManifests : Tree → Tree → Type 0
KeepsManifests old new = (q : List ℕ) → IsManifestPath q → SameOrGone old new q

-- no manifest was written on this lane
unfoldable pub WritesNone : LaneTold → LaneTold → Type 0
WritesNone old new = Told KeepsManifests old.files.tree new.files.tree

-- the manifests but that of a spot are as they were, or are gone; and there it is so too, or these bytes stand
abbrev pub KeepsOthers : List ℕ → List ℕ → Tree → Tree → Type 0
KeepsOthers path bytes old new = (q : List ℕ) → IsManifestPath q → SameOrGone old new q ⊎ ((q ≡ path) × (file_at new q ≡ Some bytes))

-- no manifest was written on this lane but one with these bytes at this spot
unfoldable pub WritesOnly : Spot → List ℕ → LaneTold → LaneTold → Type 0
WritesOnly (AtPath path) bytes old new = Told (KeepsOthers path bytes) old.files.tree new.files.tree

-- none was written on any lane
unfoldable pub WritesNowhere : List LaneTold → List LaneTold → Type 0
WritesNowhere old new = OnEach (λ place a b. WritesNone a b) old new
