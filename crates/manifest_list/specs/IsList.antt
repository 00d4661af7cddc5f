-- The list that a tree is, in the words of the format alone (Image Manifest Version 2, Schema 2, "Manifest List"; OCI Image
-- Specification 1.1, "OCI Image Index Specification"; docs/manifests.md, "Lists").
use Rattle.std.specs.Prelude.{◌≡◌, ◌≢◌, ℕ, codes, List, [], ◌∷◌, map, true, Option, Some, None}
use Rattle.serde_json.specs.Data.{Data, null, number, string, array, object, unsigned, Items, no_items, item, Members}
use Rattle.serde_json.specs.Find.{get}
use Rattle.manifest_v2s2.specs.IsImage.{IsDescriptor, AllAgree}
use Rattle.manifest_v2s2.specs.Media.{media_of, is_list}
use Rattle.manifest_v2s2.specs.declared.descriptor.Descriptor.{Descriptor}
use Rattle.manifest_v2s2.specs.declared.kind.Kind.{Kind}
use Rattle.manifest_list.specs.declared.platform.Platform.{Platform}
use Rattle.manifest_list.specs.declared.list.ListEntry.{ListEntry}
use Rattle.manifest_list.specs.declared.list.List as listed
use Rattle.manifest_list.specs.Platform.{os_of, arch_of, variant_of, members_of, kept}

-- what stands there is no text, or it is this text
abbrev pub IsVariant : Option Data → Option (List ℕ) → Type 0
IsVariant there None = (text : List ℕ) → there ≢ Some (string text)
IsVariant there (Some text) = there ≡ Some (string text)

-- the members are those of a platform: it has an operating system, an architecture and maybe a variant; and of all its
-- members those are kept that are texts or lists of texts
pub record IsPlatform (ms : Members) (p : Platform) : Type 0 where
  pub os : get (codes "os") (object ms) ≡ Some (string (os_of p))
  pub arch : get (codes "architecture") (object ms) ≡ Some (string (arch_of p))
  pub variant : IsVariant (get (codes "variant") (object ms)) (variant_of p)
  pub members : members_of p ≡ kept ms

-- a platform stands there, or nothing does
abbrev pub IsPlatformThere : Option Data → Option Platform → Type 0
IsPlatformThere None None = Unit {0}
IsPlatformThere (Some (object ms)) (Some p) = IsPlatform ms p
IsPlatformThere _ _ = ⊥

-- the tree is an entry: a descriptor, with a platform or without
pub record IsEntry (d : Data) (e : ListEntry) : Type 0 where
  pub target : IsDescriptor d e.target
  pub platform : IsPlatformThere (get (codes "platform") d) e.platform

-- item by item the entries of a list
abbrev pub AreEntries : Items → List ListEntry → Type 0
AreEntries no_items [] = Unit {0}
AreEntries no_items (e ∷ es) = ⊥
AreEntries (item d ds) [] = ⊥
AreEntries (item d ds) (e ∷ es) = IsEntry d e × AreEntries ds es

-- a list of entries, which may be null but not absent
abbrev pub AreEntriesThere : Option Data → List ListEntry → Type 0
AreEntriesThere (Some null) es = es ≡ []
AreEntriesThere (Some (array ds)) es = AreEntries ds es
AreEntriesThere _ es = ⊥

-- the descriptors of entries
abbrev pub targets : List ListEntry → List Descriptor
targets es = map (λ e. e.target) es

-- the tree is a list of that kind, and says this one; its other members say nothing
pub record IsList (kind : Kind) (d : Data) (l : listed.List) : Type 0 where
  -- it is a list's kind and no image's
  pub of_lists : is_list kind ≡ true
  pub version : get (codes "schemaVersion") d ≡ Some (number (unsigned 2))
  -- `mediaType` may be left out; where it is a text, it is that of the kind
  pub media : (text : List ℕ) → get (codes "mediaType") d ≡ Some (string text) → text ≡ media_of kind
  -- an image has these
  pub no_config : get (codes "config") d ≡ None
  pub no_layers : get (codes "layers") d ≡ None
  pub kind_is : l.kind ≡ kind
  pub entries : AreEntriesThere (get (codes "manifests") d) l.entries
  pub one_size : AllAgree (targets l.entries)

-- where there is a tree, it is a list of that kind that says this one
abbrev pub SaysList : Kind → Option Data → listed.List → Type 0
SaysList kind None l = ⊥
SaysList kind (Some d) l = IsList kind d l
