-- An image as it is read from a tree: the value, or its first bad member (docs/manifests.md, "Images").
use Rattle.std.specs.Prelude.{ℕ, suc, codes, List, [], ◌++◌, ◌==◌, if◌then◌else◌, Option, Some, None, Ok, ⊤}
use Rattle.std.specs.Str.{bytes_eq}
use Rattle.serde_json.specs.Data.{Data, null, number, string, array, object, unsigned, Items, no_items, item}
use Rattle.serde_json.specs.Find.{get}
use Rattle.json_tree.specs.declared.path.Step.TheVariants.{Place}
use Rattle.json_tree.specs.Checked.{Checked, under, both, checked_map, with_first}
use Rattle.json_tree.specs.Leaf.{bad}
use Rattle.manifest_v2s2.specs.Media.{media_of}
use Rattle.manifest_v2s2.specs.Descriptor.{at, descriptor_of, known_of}
use Rattle.manifest_v2s2.specs.declared.descriptor.Descriptor.{Descriptor}
use Rattle.manifest_v2s2.specs.declared.sizes.Known.{Known}
use Rattle.manifest_v2s2.specs.declared.image.Image.{Image}
use Rattle.manifest_v2s2.specs.declared.kind.Kind.{Kind}

-- nothing stands there
abbrev pub absent : Option Data → Checked ⊤
absent None = Ok tt
absent (Some d) = bad

-- a text is the media type of the kind; what is no text counts as absent
abbrev pub media_checked : Kind → Option Data → Checked ⊤
media_checked kind (Some (string s)) = if bytes_eq s (media_of kind) then Ok tt else bad
media_checked kind _ = Ok tt

-- the number 2
abbrev pub version_checked : Option Data → Checked ⊤
version_checked (Some (number (unsigned n))) = if n == 2 then Ok tt else bad
version_checked _ = bad

-- each layer, the first at place i, behind the descriptors that are known
abbrev pub layers_by : List Known → ℕ → Items → Checked (List Descriptor)
layers_by known i no_items = Ok []
layers_by known i (item d ds) = with_first (under (Place i) (descriptor_of known (Some d))) (layers_by (known ++ known_of (Some d)) (suc i) ds)

-- a list of layers, which may be null
abbrev pub layers_of : List Known → Option Data → Checked (List Descriptor)
layers_of known (Some null) = Ok []
layers_of known (Some (array ds)) = layers_by known 0 ds
layers_of known _ = bad

-- config and layers, and what is only checked
abbrev pub Members : Type 0
Members = Descriptor × (List Descriptor × (⊤ × (⊤ × ⊤)))

-- the image of that kind of these members
abbrev pub made : Kind → Members → Image
made kind p = record { kind = kind; config = p.0; layers = p.1.0 }

-- the members of an image, in byte order of their names
abbrev pub members_of : Kind → Data → Checked Image
members_of kind d =
    checked_map (made kind)
    (both (at (codes "config") (descriptor_of []) d)
    (both (at (codes "layers") (layers_of (known_of (get (codes "config") d))) d)
    (both (at (codes "manifests") absent d)
    (both (at (codes "mediaType") (media_checked kind) d)
    (at (codes "schemaVersion") version_checked d)))))

-- the image of that kind that a tree is
unfoldable pub image_of : Kind → Option Data → Checked Image
image_of kind (Some (object ms)) = members_of kind (object ms)
image_of kind _ = bad
