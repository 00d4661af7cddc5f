-- The kind of manifest that a tree with a content type is (docs/manifests.md, "Kinds").
use Rattle.std.specs.Prelude.{ℕ, codes, List, Bool, not, if◌then◌else◌, Option, Some, None, Ok, ⊤}
use Rattle.std.specs.Option.{is_some}
use Rattle.serde_json.specs.Data.{Data, string, object}
use Rattle.serde_json.specs.Find.{get}
use Rattle.json_tree.specs.declared.path.Step.TheVariants.{Name}
use Rattle.json_tree.specs.Checked.{Checked, under, both, checked_map}
use Rattle.json_tree.specs.Leaf.{bad}
use Rattle.manifest_v2s2.specs.Media.{is_list}
use Rattle.manifest_v2s2.specs.Descriptor.{at, checked_some}
use Rattle.manifest_v2s2.specs.Image.{absent, version_checked}
use Rattle.manifest_v2s2.specs.declared.kind.Kind.{Kind}
use Rattle.manifest_v2s2.specs.declared.kind.Kind.TheVariants.{Oci, OciIndex}
use Rattle.manifest_convert.specs.Types.{bare, kind_named}

-- the first of two, where it is there
abbrev pub or_else : Option Kind → Option Kind → Option Kind
or_else (Some kind) other = Some kind
or_else None other = other

-- the kind that the members show: `manifests` an index, `config` an image
abbrev pub kind_shown : Data → Option Kind
kind_shown d =
    if is_some (get (codes "manifests") d) then Some OciIndex
    else if is_some (get (codes "config") d) then Some Oci
    else None

-- a text `mediaType` decides; else the content type, where it is known; else the members
abbrev pub kind_by_media : List ℕ → Data → Option Data → Option Kind
kind_by_media content d (Some (string s)) = kind_named s
kind_by_media content d _ = or_else (kind_named (bare content)) (kind_shown d)

-- the kind that the object and the content type give
abbrev pub kind_given : List ℕ → Data → Option Kind
kind_given content d = kind_by_media content d (get (codes "mediaType") d)

-- what must not stand in a list, or in an image
abbrev pub absent_where : (Kind → Bool) → Option Kind → Option Data → Checked ⊤
absent_where test None o = Ok tt
absent_where test (Some kind) o = if test kind then absent o else Ok tt

-- an image's kind and no list's
abbrev pub is_image : Kind → Bool
is_image kind = not (is_list kind)

-- config, layers and manifests, the kind and the version
abbrev pub Members : Type 0
Members = ⊤ × (⊤ × (⊤ × (Kind × ⊤)))

-- the kind of these members
abbrev pub kind_in : Members → Kind
kind_in p = p.1.1.1.0

-- the members that decide whether a kind was given rightly, in byte order of their names
abbrev pub kind_checked : Option Kind → Data → Checked Kind
kind_checked given d =
    checked_map kind_in
    (both (at (codes "config") (absent_where is_list given) d)
    (both (at (codes "layers") (absent_where is_list given) d)
    (both (at (codes "manifests") (absent_where is_image given) d)
    (both (under (Name (codes "mediaType")) (checked_some given))
    (at (codes "schemaVersion") version_checked d)))))

-- the kind of manifest that a tree with a content type is
unfoldable pub kind_of : List ℕ → Option Data → Checked Kind
kind_of content (Some (object ms)) = kind_checked (kind_given content (object ms)) (object ms)
kind_of content _ = bad
