-- Where the files of an OCI layout stand (OCI Image Specification 1.1, "OCI Image Layout Specification").
use Rattle.std.specs.Prelude.{◌≡◌, ◌++◌, List, ℕ, Option, codes}
use Rattle.hex.specs.Hex.{encode_lower}
use Rattle.image_ref.specs.declared.place.Place.{Place}
use Rattle.image_ref.specs.declared.place.Place.TheVariants.{Oci}
use Rattle.skopeo_outside.specs.Folders.{joined}
use Rattle.layouts.specs.Paths as dir

-- the place is the layout in this folder, and the entry of this name where one is given
abbrev pub IsOciOf : Place → List ℕ → Option (List ℕ) → Type 0
IsOciOf place folder name = place ≡ Oci folder name

-- the place is a layout
abbrev pub IsOci : Place → Type 0
IsOci place = (folder : List ℕ) × (name : Option (List ℕ)) × IsOciOf place folder name

-- the file that names the layout's version
abbrev pub layout_path : List ℕ → List ℕ
layout_path folder = joined folder (codes "oci-layout")

-- that file until it is whole
abbrev pub layout_part : List ℕ → List ℕ
layout_part folder = joined folder (codes "oci-layout.part")

-- the index
abbrev pub index_path : List ℕ → List ℕ
index_path folder = joined folder (codes "index.json")

-- the index until it is whole
abbrev pub index_part : List ℕ → List ℕ
index_part folder = joined folder (codes "index.json.part")

-- the folder of all blobs
abbrev pub blobs_folder : List ℕ → List ℕ
blobs_folder folder = joined folder (codes "blobs/sha256")

-- a blob, manifests among them: the digits of its digest in that folder
abbrev pub blob_path : List ℕ → List ℕ → List ℕ
blob_path folder digest = dir.blob_path (blobs_folder folder) digest

-- a blob that the lane of this number has not written whole yet; it stands beside the index
abbrev pub blob_part : List ℕ → List ℕ → ℕ → List ℕ
blob_part folder digest lane = dir.blob_part folder digest lane

-- a manifest until it is whole
abbrev pub manifest_part : List ℕ → List ℕ → List ℕ
manifest_part folder digest = joined folder (encode_lower digest ++ codes ".part")
