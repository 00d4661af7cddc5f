-- The bad members of a tree that is to be a list (docs/manifests.md, "Lists" and "Descriptors").
use Rattle.std.specs.Prelude.{◌≡◌, ◌≢◌, ℕ, suc, codes, List, [], ◌++◌, Option, Some, None}
use Rattle.serde_json.specs.Data.{Data, null, array, object, Items, no_items, item}
use Rattle.json_tree.specs.declared.path.Step.TheVariants.{Place}
use Rattle.json_tree.specs.First.{Path, Itself, Nothing, Below, ◌or◌, BadText, BadOptionalList, BadOptionalObject}
use Rattle.manifest_v2s2.specs.Bad.{BelowName, BadDigest, BadSize, BadPresent, BadMedia, BadVersion}
use Rattle.manifest_v2s2.specs.Descriptor.{known_of}
use Rattle.manifest_v2s2.specs.Known.{first_size}
use Rattle.manifest_v2s2.specs.declared.kind.Kind.{Kind}
use Rattle.manifest_v2s2.specs.declared.sizes.Known.{Known}

-- the first of the descriptors before gives the digest another size
pub record IsOther (known : List Known) (digest : List ℕ) (size : ℕ) : Type 0 where
  pub first : ℕ
  pub is : first_size known digest ≡ Some first
  pub other : first ≢ size

-- a platform may be absent, and is else an object with two texts
abbrev pub BadPlatform : Option Data → Path → Type 0
BadPlatform None = Nothing
BadPlatform (Some (object ms)) = BelowName (codes "architecture") BadText (object ms) or BelowName (codes "os") BadText (object ms)
BadPlatform _ = Itself

-- of an entry, behind the descriptors that are known
abbrev pub BadEntry : List Known → Option Data → Path → Type 0
BadEntry known (Some (object ms)) =
    BelowName (codes "annotations") (BadOptionalObject BadText) (object ms)
    or (BelowName (codes "digest") BadDigest (object ms)
    or (BelowName (codes "mediaType") BadText (object ms)
    or (BelowName (codes "platform") BadPlatform (object ms)
    or (BelowName (codes "size") (BadSize (IsOther known) (object ms)) (object ms)
    or BelowName (codes "urls") (BadOptionalList BadText) (object ms)))))
BadEntry known _ = Itself

-- of entries, the first at place i, behind the descriptors that are known
abbrev pub BadEntriesFrom : List Known → ℕ → Items → Path → Type 0
BadEntriesFrom known i no_items = Nothing
BadEntriesFrom known i (item d ds) =
    Below (Place i) (BadEntry known (Some d)) or BadEntriesFrom (known ++ known_of (Some d)) (suc i) ds

-- a list of entries may be null, and is not absent
abbrev pub BadEntries : Option Data → Path → Type 0
BadEntries (Some null) = Nothing
BadEntries (Some (array ds)) = BadEntriesFrom [] 0 ds
BadEntries _ = Itself

-- the bad members of a list of that kind
unfoldable pub BadList : Kind → Option Data → Path → Type 0
BadList kind (Some (object ms)) =
    BelowName (codes "config") BadPresent (object ms)
    or (BelowName (codes "layers") BadPresent (object ms)
    or (BelowName (codes "manifests") BadEntries (object ms)
    or (BelowName (codes "mediaType") (BadMedia kind) (object ms)
    or BelowName (codes "schemaVersion") BadVersion (object ms))))
BadList kind _ = Itself
