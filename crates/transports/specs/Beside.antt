-- What writing the signatures and the manifest of an image, or of an instance, changes in a folder.
use Rattle.std.specs.Prelude.{◌≡◌, ◌⊎◌, ◌<◌, ◌^◌, ℕ, List, Option, Some}
use Rattle.skopeo_outside.specs.Tree.{Tree, file_at}
use Rattle.skopeo_outside.specs.Folders.{joined}
use Rattle.layouts.specs.Names.{manifest_name, part_name, prefix_of}
use Rattle.layouts.specs.Written.{signature_at, signature_part_at}

-- a path of a signature, or of its part
abbrev pub IsSignaturePath : List ℕ → Option (List ℕ) → List ℕ → Type 0
IsSignaturePath folder part path =
    (number : ℕ) × (number < 2 ^ 64) × ((path ≡ signature_at folder (prefix_of part) number) ⊎ (path ≡ signature_part_at folder (prefix_of part) number))

-- each path is as it was, or is a signature's
pub record SignsIn (folder : List ℕ) (part : Option (List ℕ)) (old new : Tree) : Type 0 where
  pub files : (q : List ℕ) → (file_at new q ≡ file_at old q) ⊎ IsSignaturePath folder part q
  pub folders : new.folders ≡ old.folders

-- where a manifest stands, and until it is whole
abbrev pub manifest_at : List ℕ → Option (List ℕ) → List ℕ
manifest_at folder part = joined folder (manifest_name part)

abbrev pub manifest_part_at : List ℕ → Option (List ℕ) → List ℕ
manifest_part_at folder part = joined folder (part_name (manifest_name part))

-- each path is as it was, or is the manifest's part, or is the manifest's and has these bytes
pub record NamesIn (folder : List ℕ) (part : Option (List ℕ)) (bytes : List ℕ) (old new : Tree) : Type 0 where
  pub files : (q : List ℕ) → (file_at new q ≡ file_at old q) ⊎ (q ≡ manifest_part_at folder part) ⊎ ((q ≡ manifest_at folder part) × (file_at new q ≡ Some bytes))
  pub folders : new.folders ≡ old.folders
