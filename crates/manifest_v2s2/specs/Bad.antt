-- The bad members of a tree that is to be an image (docs/manifests.md, "Images" and "Descriptors").
use Rattle.std.specs.Prelude.{◌≡◌, ◌≢◌, ℕ, ◌≤◌, ◌^◌, suc, codes, List, [], ◌++◌, Option, Some, None, Ok, Err}
use Rattle.serde_json.specs.Data.{Data, null, number, string, array, object, unsigned, Items, no_items, item}
use Rattle.serde_json.specs.Find.{get}
use Rattle.image_ref.specs.Digest.{IsDigestText}
use Rattle.json_tree.specs.declared.path.Step.TheVariants.{Name, Place}
use Rattle.json_tree.specs.Checked.{Checked}
use Rattle.json_tree.specs.First.{Path, Itself, Nothing, Below, ◌or◌, BadText, BadOptionalList, BadOptionalObject}
use Rattle.json_tree.specs.Leaf.{whole_of}
use Rattle.manifest_v2s2.specs.Media.{media_of}
use Rattle.manifest_v2s2.specs.Known.{Differs}
use Rattle.manifest_v2s2.specs.Descriptor.{digest_checked, known_of}
use Rattle.manifest_v2s2.specs.declared.kind.Kind.{Kind}
use Rattle.manifest_v2s2.specs.declared.sizes.Known.{Known}

-- the member itself, where P holds
abbrev pub ItselfIf : Type 0 → Path → Type 0
ItselfIf P p = (p ≡ []) × P

-- no text of a digest
abbrev pub BadDigest : Option Data → Path → Type 0
BadDigest (Some (string s)) = ItselfIf (IsDigestText s → ⊥)
BadDigest _ = Itself

-- no whole number below 2 ^ 63
abbrev pub BadWhole : Option Data → Path → Type 0
BadWhole (Some (number (unsigned n))) = ItselfIf (2 ^ 63 ≤ n)
BadWhole _ = Itself

-- of a digest and a size that are both read, an earlier descriptor says otherwise
abbrev pub BadAgreement : (List ℕ → ℕ → Type 0) → Checked (List ℕ) → Checked ℕ → Path → Type 0
BadAgreement Other (Ok digest) (Ok size) = ItselfIf (Other digest size)
BadAgreement Other (Ok digest) (Err p) = Nothing
BadAgreement Other (Err q) size = Nothing

-- no whole number, or not that of an earlier descriptor
abbrev pub BadSize : (List ℕ → ℕ → Type 0) → Data → Option Data → Path → Type 0
BadSize Other d size = BadWhole size or BadAgreement Other (digest_checked (get (codes "digest") d)) (whole_of size)

-- the bad members below that name
abbrev pub BelowName : List ℕ → (Option Data → Path → Type 0) → Data → Path → Type 0
BelowName name B d = Below (Name name) (B (get name d))

-- of a descriptor, where earlier ones give its digest another size by Other
abbrev pub BadDescriptor : (List ℕ → ℕ → Type 0) → Option Data → Path → Type 0
BadDescriptor Other (Some (object ms)) =
    BelowName (codes "annotations") (BadOptionalObject BadText) (object ms)
    or (BelowName (codes "digest") BadDigest (object ms)
    or (BelowName (codes "mediaType") BadText (object ms)
    or (BelowName (codes "size") (BadSize Other (object ms)) (object ms)
    or BelowName (codes "urls") (BadOptionalList BadText) (object ms))))
BadDescriptor Other _ = Itself

-- of layers, the first at place i, behind the descriptors that are known
abbrev pub BadLayersFrom : List Known → ℕ → Items → Path → Type 0
BadLayersFrom known i no_items = Nothing
BadLayersFrom known i (item d ds) =
    Below (Place i) (BadDescriptor (Differs known) (Some d)) or BadLayersFrom (known ++ known_of (Some d)) (suc i) ds

-- a list of layers may be null, and is not absent
abbrev pub BadLayers : List Known → Option Data → Path → Type 0
BadLayers known (Some null) = Nothing
BadLayers known (Some (array ds)) = BadLayersFrom known 0 ds
BadLayers known _ = Itself

-- what must not be there
abbrev pub BadPresent : Option Data → Path → Type 0
BadPresent None = Nothing
BadPresent (Some d) = Itself

-- a text that is not the kind's media type
abbrev pub BadMedia : Kind → Option Data → Path → Type 0
BadMedia kind (Some (string s)) = ItselfIf (s ≢ media_of kind)
BadMedia kind _ = Nothing

-- anything but the number 2
abbrev pub BadVersion : Option Data → Path → Type 0
BadVersion (Some (number (unsigned n))) = ItselfIf (n ≢ 2)
BadVersion _ = Itself

-- the bad members of an image of that kind
unfoldable pub BadImage : Kind → Option Data → Path → Type 0
BadImage kind (Some (object ms)) =
    BelowName (codes "config") (BadDescriptor (Differs [])) (object ms)
    or (BelowName (codes "layers") (BadLayers (known_of (get (codes "config") (object ms)))) (object ms)
    or (BelowName (codes "manifests") BadPresent (object ms)
    or (BelowName (codes "mediaType") (BadMedia kind) (object ms)
    or BelowName (codes "schemaVersion") BadVersion (object ms))))
BadImage kind _ = Itself
