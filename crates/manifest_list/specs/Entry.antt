-- An entry of a list as it is read of a tree: the value, or its first bad member.
use Rattle.std.specs.Prelude.{ℕ, suc, codes, List, [], ◌++◌, Option, Some, None, Ok, ⊤}
use Rattle.serde_json.specs.Data.{Data, null, array, object, Items, no_items, item}
use Rattle.serde_json.specs.Find.{get}
use Rattle.skopeo_outside.specs.declared.pair.Pair.{Pair}
use Rattle.json_tree.specs.declared.path.Step.TheVariants.{Place}
use Rattle.json_tree.specs.Checked.{Checked, under, both, checked_map, with_first}
use Rattle.json_tree.specs.Leaf.{bad, text_of, optional_list, optional_object}
use Rattle.manifest_v2s2.specs.Descriptor.{at, annotation_of, digest_checked, size_agreeing, known_of}
use Rattle.manifest_v2s2.specs.Image.{absent, media_checked, version_checked}
use Rattle.manifest_v2s2.specs.declared.kind.Kind.{Kind}
use Rattle.manifest_v2s2.specs.declared.sizes.Known.{Known}
use Rattle.manifest_list.specs.declared.platform.Platform.{Platform}
use Rattle.manifest_list.specs.declared.list.ListEntry.{ListEntry}
use Rattle.manifest_list.specs.declared.list.List as listed
use Rattle.manifest_list.specs.Platform.{platform_of}

-- annotations, digest, media type, platform, size and urls
abbrev pub Members : Type 0
Members = List Pair × (List ℕ × (List ℕ × (Option Platform × (ℕ × List (List ℕ)))))

-- the entry of these members
abbrev pub entry_with : Members → ListEntry
entry_with p = record {
  target = record { annotations = p.0; digest = p.1.0; media = p.1.1.0; size = p.1.1.1.1.0; urls = p.1.1.1.1.1 };
  platform = p.1.1.1.0;
}

-- the members of an entry behind the descriptors that are known, in byte order of their names
abbrev pub entry_in : List Known → Data → Checked ListEntry
entry_in known d =
    checked_map entry_with
    (both (at (codes "annotations") (optional_object annotation_of) d)
    (both (at (codes "digest") digest_checked d)
    (both (at (codes "mediaType") text_of d)
    (both (at (codes "platform") platform_of d)
    (both (at (codes "size") (size_agreeing known (digest_checked (get (codes "digest") d))) d)
    (at (codes "urls") (optional_list text_of) d))))))

-- the entry that a member is, behind the descriptors that are known
abbrev pub entry_of : List Known → Option Data → Checked ListEntry
entry_of known (Some (object ms)) = entry_in known (object ms)
entry_of known _ = bad

-- each entry, the first at place i, behind the descriptors that are known
abbrev pub entries_by : List Known → ℕ → Items → Checked (List ListEntry)
entries_by known i no_items = Ok []
entries_by known i (item d ds) = with_first (under (Place i) (entry_of known (Some d))) (entries_by (known ++ known_of (Some d)) (suc i) ds)

-- a list of entries, which may be null
abbrev pub entries_of : Option Data → Checked (List ListEntry)
entries_of (Some null) = Ok []
entries_of (Some (array ds)) = entries_by [] 0 ds
entries_of _ = bad

-- entries, and what is only checked
abbrev pub ListMembers : Type 0
ListMembers = ⊤ × (⊤ × (List ListEntry × (⊤ × ⊤)))

-- the list of that kind of these members
abbrev pub list_with : Kind → ListMembers → listed.List
list_with kind p = record { kind = kind; entries = p.1.1.0 }

-- the members of a list, in byte order of their names
abbrev pub list_in : Kind → Data → Checked listed.List
list_in kind d =
    checked_map (list_with kind)
    (both (at (codes "config") absent d)
    (both (at (codes "layers") absent d)
    (both (at (codes "manifests") entries_of d)
    (both (at (codes "mediaType") (media_checked kind) d)
    (at (codes "schemaVersion") version_checked d)))))

-- the list of that kind that a tree is
unfoldable pub list_of : Kind → Option Data → Checked listed.List
list_of kind (Some (object ms)) = list_in kind (object ms)
list_of kind _ = bad
