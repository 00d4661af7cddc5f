-- The kind of manifest that a tree with a content type is, as a table of rows (docs/manifests.md, "Kinds").
use Rattle.std.specs.Prelude.{◌≡◌, ◌≢◌, ℕ, codes, List, true, false, Option, Some, None, IsSome}
use Rattle.serde_json.specs.Data.{Data, number, string, unsigned}
use Rattle.serde_json.specs.Find.{get}
use Rattle.manifest_v2s2.specs.Media.{media_of, is_list}
use Rattle.manifest_v2s2.specs.declared.kind.Kind.{Kind}
use Rattle.manifest_v2s2.specs.declared.kind.Kind.TheVariants.{V2s2, V2s2List, Oci, OciIndex}
use Rattle.manifest_convert.specs.Types.{bare}

-- its own `mediaType` is the text of the kind
abbrev pub HasOwnType : Data → Kind → Type 0
HasOwnType d kind = get (codes "mediaType") d ≡ Some (string (media_of kind))

-- it has no own type: what stands there is no text
abbrev pub HasNoOwnType : Data → Type 0
HasNoOwnType d = (text : List ℕ) → get (codes "mediaType") d ≢ Some (string text)

-- it came under the kind's media type, looked at up to its first `;` and without spaces at its ends
abbrev pub CameAs : List ℕ → Kind → Type 0
CameAs content kind = bare content ≡ media_of kind

-- it came under that of none of the four kinds
abbrev pub CameAsNone : List ℕ → Type 0
CameAsNone content = (kind : Kind) → bare content ≢ media_of kind

-- its members show the kind: `manifests` an index, and else `config` an image
abbrev pub MembersShow : Data → Kind → Type 0
MembersShow d V2s2 = ⊥
MembersShow d V2s2List = ⊥
MembersShow d Oci = (get (codes "manifests") d ≡ None) × IsSome (get (codes "config") d)
MembersShow d OciIndex = IsSome (get (codes "manifests") d)

-- the rows, of which the first that is there gives the kind
pub data IsGiven (content : List ℕ) (d : Data) (kind : Kind) : Type 0 where
  own_type : HasOwnType d kind → IsGiven content d kind
  content_type : HasNoOwnType d → CameAs content kind → IsGiven content d kind
  members : HasNoOwnType d → CameAsNone content → MembersShow d kind → IsGiven content d kind

-- the object is a manifest of the kind that it is given: an image has no `manifests`, a list neither `config` nor `layers`
pub record IsOfKind (content : List ℕ) (d : Data) (kind : Kind) : Type 0 where
  pub version : get (codes "schemaVersion") d ≡ Some (number (unsigned 2))
  pub given : IsGiven content d kind
  pub no_list : is_list kind ≡ false → get (codes "manifests") d ≡ None
  pub no_config : is_list kind ≡ true → get (codes "config") d ≡ None
  pub no_layers : is_list kind ≡ true → get (codes "layers") d ≡ None

-- where there is a tree, it is a manifest of that kind
abbrev pub HasKind : List ℕ → Option Data → Kind → Type 0
HasKind content None kind = ⊥
HasKind content (Some d) kind = IsOfKind content d kind
