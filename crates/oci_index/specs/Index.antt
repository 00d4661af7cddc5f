-- The index that a tree is, in the words of the format alone (OCI Image Specification 1.1, "OCI Image Index Specification" and
-- "OCI Image Layout Specification"; docs/layouts.md, "OCI layouts").
use Rattle.std.specs.Prelude.{◌≡◌, codes, [], List, Option, Some, None, IsSome, false}
use Rattle.serde_json.specs.Data.{Data, null, string, array, object, Items, no_items, item}
use Rattle.serde_json.specs.Find.{get}
use Rattle.serde_json.specs.Written.{has_float}
use Rattle.manifest_v2s2.specs.IsImage.{AreLayers, AllAgree}
use Rattle.manifest_v2s2.specs.declared.descriptor.Descriptor.{Descriptor}
use Rattle.manifest_v2s2.specs.declared.kind.Kind.TheVariants.{OciIndex}
use Rattle.manifest_convert.specs.HasKind.{IsOfKind}

-- a text stands there
abbrev pub IsTextThere : Option Data → Type 0
IsTextThere (Some (string s)) = Unit {0}
IsTextThere _ = ⊥

-- what an image runs on is told by two texts, or is not told
abbrev pub IsPlatform : Option Data → Type 0
IsPlatform None = Unit {0}
IsPlatform (Some (object ms)) =
    IsTextThere (get (codes "architecture") (object ms)) × IsTextThere (get (codes "os") (object ms))
IsPlatform _ = ⊥

-- each entry tells it so
abbrev pub HavePlatforms : Items → Type 0
HavePlatforms no_items = Unit {0}
HavePlatforms (item d ds) = IsPlatform (get (codes "platform") d) × HavePlatforms ds

-- so does each entry of a list
abbrev pub HavePlatformsThere : Option Data → Type 0
HavePlatformsThere (Some (array ds)) = HavePlatforms ds
HavePlatformsThere _ = Unit {0}

-- the tree is an OCI index by its own members, and has these entries in order; its other members say nothing
pub record IsIndex (d : Data) (listed : List Descriptor) : Type 0 where
  pub kind : IsOfKind [] d OciIndex
  -- a list of descriptors, or null, and not absent
  pub entries : AreLayers (get (codes "manifests") d) listed
  pub platforms : HavePlatformsThere (get (codes "manifests") d)
  -- those of one digest have one size
  pub one_size : AllAgree listed
  -- each number is a whole one, also in members that say nothing
  pub whole : has_float d ≡ false

-- where there is a tree, it is an index with these entries
abbrev pub SaysIndex : Option Data → List Descriptor → Type 0
SaysIndex None entries = ⊥
SaysIndex (Some d) entries = IsIndex d entries
