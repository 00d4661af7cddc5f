-- Nothing wrong stands under a digest's name, at any exit.
use Rattle.std.specs.Prelude.{◌≡◌, ◌⊎◌, ℕ, List, Option, Some, codes}
use Rattle.skopeo_outside.specs.Tree.{Tree, file_at}
use Rattle.skopeo_outside.specs.Folders.{joined}
use Rattle.skopeo_outside.specs.Outside.{Told}
use Rattle.skopeo_outside.specs.Seen.{OnEach}
use Rattle.skopeo_outside.specs.LaneTold.{LaneTold, IsLater}
use Rattle.image_ref.specs.Digest.{IsDigest}
use Rattle.digest_reader.specs.Digests.{digest}
use Rattle.layouts.specs.Names.{part_name, signature_by, prefix_of, manifest_name}
use Rattle.layouts.specs.Paths.{IsIn, blob_path, blob_part}
use Rattle.layouts.specs.Trees.{SameOrGone}
use Rattle.transports.specs.declared.dest.Dest.{Dest}
use Rattle.transports.specs.declared.dest.Dest.TheVariants.{Folder}
use Rattle.transports.specs.Has.{OnlyAtDest}
use Rattle.transports.specs.Writes.{WritesNone}

-- a blob under its digest, by its bytes
pub record IsBlobUnder (folder : List ℕ) (tree : Tree) (path : List ℕ) : Type 0 where
  pub bytes : List ℕ
  pub path_is : path ≡ blob_path folder (digest bytes)
  pub there : file_at tree path ≡ Some bytes

-- the part file of a lane
pub record IsPartOf (folder : List ℕ) (lane : ℕ) (path : List ℕ) : Type 0 where
  pub named : List ℕ
  pub is_digest : IsDigest named
  pub path_is : path ≡ blob_part folder named lane

-- what stands beside the blobs: `version`, a manifest or a signature
abbrev pub IsBesideName : List ℕ → Type 0
IsBesideName name = (name ≡ codes "version") ⊎ ((part : Option (List ℕ)) × (name ≡ manifest_name part)) ⊎ ((part : Option (List ℕ)) × (number : ℕ) × (name ≡ signature_by (prefix_of part) number))

-- a file beside the blobs, or the part of one; the first lane alone writes these
pub record IsBeside (folder : List ℕ) (lane : ℕ) (path : List ℕ) : Type 0 where
  pub first : lane ≡ 0
  pub name : List ℕ
  pub kind : IsBesideName name
  pub path_is : (path ≡ joined folder name) ⊎ (path ≡ joined folder (part_name name))

-- a path in a destination folder: as it was, or gone, or whole under its digest, or this lane's part, or none of a blob
abbrev pub IsFair : List ℕ → ℕ → Tree → Tree → List ℕ → Type 0
IsFair folder lane old new path =
    SameOrGone old new path ⊎ IsBlobUnder folder new path ⊎ IsPartOf folder lane path ⊎ IsBeside folder lane path

-- all of a destination on the lane of this number
unfoldable pub IsFairOn : Dest → ℕ → LaneTold → LaneTold → Type 0
IsFairOn (Folder path) lane old new = Told (λ a b. (q : List ℕ) → IsIn path q → IsFair path lane a b q) old.files.tree new.files.tree

-- what a lane did at a destination, ahead of a manifest: it touched nothing else, wrote no manifest, and each path is fair
pub record IsWork (dest : Dest) (old new : LaneTold) : Type 0 where
  pub later : IsLater old new
  pub only : OnlyAtDest dest old new
  pub none : WritesNone old new
  pub fair : IsFairOn dest old.number old new

-- the same, closed, so that lemmas find it by its name
unfoldable pub Works : Dest → LaneTold → LaneTold → Type 0
Works dest old new = IsWork dest old new

-- each lane did
unfoldable pub AllWork : Dest → List LaneTold → List LaneTold → Type 0
AllWork dest old new = OnEach (λ place a b. Works dest a b) old new
