-- The entries of an index as they are read from a tree: the values, or the first bad member (docs/layouts.md, "OCI layouts").
use Rattle.std.specs.Prelude.{ℕ, suc, codes, List, [], ◌++◌, Option, Some, None, Ok, ⊤}
use Rattle.serde_json.specs.Data.{Data, null, array, object, Items, no_items, item, Members}
use Rattle.serde_json.specs.Find.{get}
use Rattle.skopeo_outside.specs.declared.pair.Pair.{Pair}
use Rattle.json_tree.specs.declared.path.Step.TheVariants.{Place}
use Rattle.json_tree.specs.Checked.{Checked, under, both, checked_map, with_first}
use Rattle.json_tree.specs.Leaf.{bad, text_of, optional_list, optional_object}
use Rattle.manifest_v2s2.specs.Descriptor.{at, annotation_of, digest_checked, size_agreeing, known_of}
use Rattle.manifest_v2s2.specs.declared.descriptor.Descriptor.{Descriptor}
use Rattle.manifest_v2s2.specs.declared.sizes.Known.{Known}

-- two texts that are only checked
abbrev pub both_checked : List ℕ × List ℕ → ⊤
both_checked p = tt

-- the texts of a platform
abbrev pub platform_members : Data → Checked ⊤
platform_members d = checked_map both_checked (both (at (codes "architecture") text_of d) (at (codes "os") text_of d))

-- what an image runs on may be absent; it is only checked
abbrev pub platform_checked : Option Data → Checked ⊤
platform_checked None = Ok tt
platform_checked (Some (object ms)) = platform_members (object ms)
platform_checked _ = bad

-- annotations, digest, media type, platform, size and urls
abbrev pub EntryMembers : Type 0
EntryMembers = List Pair × (List ℕ × (List ℕ × (⊤ × (ℕ × List (List ℕ)))))

-- the descriptor of these members
abbrev pub made : EntryMembers → Descriptor
made p = record { annotations = p.0; digest = p.1.0; media = p.1.1.0; size = p.1.1.1.1.0; urls = p.1.1.1.1.1 }

-- the members of an entry behind the descriptors that are known, in byte order of their names
abbrev pub members_of : List Known → Data → Checked Descriptor
members_of known d =
    checked_map made
    (both (at (codes "annotations") (optional_object annotation_of) d)
    (both (at (codes "digest") digest_checked d)
    (both (at (codes "mediaType") text_of d)
    (both (at (codes "platform") platform_checked d)
    (both (at (codes "size") (size_agreeing known (digest_checked (get (codes "digest") d))) d)
    (at (codes "urls") (optional_list text_of) d))))))

-- the entry that a member is, by its descriptor
abbrev pub entry_of : List Known → Option Data → Checked Descriptor
entry_of known (Some (object ms)) = members_of known (object ms)
entry_of known _ = bad

-- each entry, the first at place i, behind the descriptors that are known
abbrev pub entries_by : List Known → ℕ → Items → Checked (List Descriptor)
entries_by known i no_items = Ok []
entries_by known i (item d ds) = with_first (under (Place i) (entry_of known (Some d))) (entries_by (known ++ known_of (Some d)) (suc i) ds)

-- a list of entries, which may be null
abbrev pub entries_of : Option Data → Checked (List Descriptor)
entries_of (Some null) = Ok []
entries_of (Some (array ds)) = entries_by [] 0 ds
entries_of _ = bad
