-- The image that a tree is, in the words of the format alone (Image Manifest Version 2, Schema 2; OCI Image
-- Specification 1.1, "OCI Image Manifest Specification"; docs/manifests.md, "Images" and "Descriptors").
use Rattle.std.specs.Prelude.{◌≡◌, ◌<◌, ◌^◌, ℕ, codes, List, [], ◌∷◌, map, All, false, Option, Some, None}
use Rattle.serde_json.specs.Data.{Data, null, number, string, array, object, unsigned, Items, no_items, item}
use Rattle.serde_json.specs.Find.{get}
use Rattle.serde_json.specs.View.{items_of}
use Rattle.skopeo_outside.specs.declared.pair.Pair.{Pair}
use Rattle.image_ref.specs.Digest.{IsDigest, digest_text}
use Rattle.json_tree.specs.Build.{pairs_data}
use Rattle.manifest_v2s2.specs.Media.{media_of, is_list}
use Rattle.manifest_v2s2.specs.declared.descriptor.Descriptor.{Descriptor}
use Rattle.manifest_v2s2.specs.declared.image.Image.{Image}
use Rattle.manifest_v2s2.specs.declared.kind.Kind.{Kind}

-- a list of texts, which may be absent or null
abbrev pub AreTexts : Option Data → List (List ℕ) → Type 0
AreTexts None us = us ≡ []
AreTexts (Some null) us = us ≡ []
AreTexts (Some (array ds)) us = ds ≡ items_of (map string us)
AreTexts _ us = ⊥

-- an object of texts, which may be absent or null
abbrev pub ArePairs : Option Data → List Pair → Type 0
ArePairs None ps = ps ≡ []
ArePairs (Some null) ps = ps ≡ []
ArePairs (Some (object ms)) ps = ms ≡ pairs_data ps
ArePairs _ ps = ⊥

-- the tree is a descriptor; its other members say nothing
pub record IsDescriptor (d : Data) (x : Descriptor) : Type 0 where
  pub media : get (codes "mediaType") d ≡ Some (string x.media)
  pub digest : get (codes "digest") d ≡ Some (string (digest_text x.digest))
  pub bytes : IsDigest x.digest
  pub size : get (codes "size") d ≡ Some (number (unsigned x.size))
  pub whole : x.size < 2 ^ 63
  pub urls : AreTexts (get (codes "urls") d) x.urls
  pub annotations : ArePairs (get (codes "annotations") d) x.annotations

-- a descriptor stands there
abbrev pub IsDescriptorThere : Option Data → Descriptor → Type 0
IsDescriptorThere None x = ⊥
IsDescriptorThere (Some d) x = IsDescriptor d x

-- item by item the descriptors of a list
abbrev pub AreDescriptors : Items → List Descriptor → Type 0
AreDescriptors no_items [] = Unit {0}
AreDescriptors no_items (x ∷ xs) = ⊥
AreDescriptors (item d ds) [] = ⊥
AreDescriptors (item d ds) (x ∷ xs) = IsDescriptor d x × AreDescriptors ds xs

-- a list of layers, which may be null but not absent
abbrev pub AreLayers : Option Data → List Descriptor → Type 0
AreLayers (Some null) xs = xs ≡ []
AreLayers (Some (array ds)) xs = AreDescriptors ds xs
AreLayers _ xs = ⊥

-- where two descriptors have one digest, they have one size
abbrev pub Agree : Descriptor → Descriptor → Type 0
Agree x y = x.digest ≡ y.digest → x.size ≡ y.size

-- any two of these do so
abbrev pub AllAgree : List Descriptor → Type 0
AllAgree [] = Unit {0}
AllAgree (x ∷ xs) = All (Agree x) xs × AllAgree xs

-- the tree is an image manifest of that kind, and says this image; its other members say nothing
pub record IsImage (kind : Kind) (d : Data) (i : Image) : Type 0 where
  -- it is an image's kind and no list's
  pub of_images : is_list kind ≡ false
  pub version : get (codes "schemaVersion") d ≡ Some (number (unsigned 2))
  -- `mediaType` may be left out; where it is a text, it is that of the kind
  pub media : (text : List ℕ) → get (codes "mediaType") d ≡ Some (string text) → text ≡ media_of kind
  -- a list has `manifests`
  pub no_list : get (codes "manifests") d ≡ None
  pub kind_is : i.kind ≡ kind
  pub config : IsDescriptorThere (get (codes "config") d) i.config
  pub layers : AreLayers (get (codes "layers") d) i.layers
  pub one_size : AllAgree (i.config ∷ i.layers)

-- where there is a tree, it is an image manifest of that kind that says this image
abbrev pub SaysImage : Kind → Option Data → Image → Type 0
SaysImage kind None i = ⊥
SaysImage kind (Some d) i = IsImage kind d i
