-- The file `oci-layout` (OCI Image Specification 1.1, "oci-layout file").
use Rattle.std.specs.Prelude.{◌≡◌, ℕ, codes, List, Bool, false, Option, Some, None}
use Rattle.std.specs.Str.{bytes_eq}
use Rattle.serde_json.specs.Data.{Data, string}
use Rattle.serde_json.specs.Find.{get}

-- the text that is written
abbrev pub layout_text : List ℕ
layout_text = codes "{\"imageLayoutVersion\":\"1.0.0\"}"

-- a member that is the version
abbrev pub is_version_text : Option Data → Bool
is_version_text (Some (string s)) = bytes_eq s (codes "1.0.0")
is_version_text _ = false

-- an object whose version is this one
abbrev pub says_version : Option Data → Bool
says_version None = false
says_version (Some d) = is_version_text (get (codes "imageLayoutVersion") d)

-- the tree is a layout of this version; its other members say nothing
pub record IsLayout (d : Data) : Type 0 where
  pub version : get (codes "imageLayoutVersion") d ≡ Some (string (codes "1.0.0"))
