-- An index as it is read from a tree: its entries, or its first bad member.
use Rattle.std.specs.Prelude.{codes, [], List, Option, Some, None, Ok, Err, ⊤}
use Rattle.serde_json.specs.Data.{Data}
use Rattle.serde_json.specs.Find.{get}
use Rattle.json_tree.specs.Checked.{Checked}
use Rattle.json_tree.specs.Leaf.{bad}
use Rattle.manifest_v2s2.specs.Descriptor.{at}
use Rattle.manifest_v2s2.specs.declared.descriptor.Descriptor.{Descriptor}
use Rattle.manifest_v2s2.specs.declared.kind.Kind.{Kind}
use Rattle.manifest_v2s2.specs.declared.kind.Kind.TheVariants.{V2s2, V2s2List, Oci, OciIndex}
use Rattle.manifest_convert.specs.Kinds.{kind_of}
use Rattle.oci_index.specs.Entries.{entries_of}
use Rattle.oci_index.specs.Numbers.{whole_there}

-- the entries that stand in a tree
abbrev pub entries_there : Option Data → Checked (List Descriptor)
entries_there None = bad
entries_there (Some d) = at (codes "manifests") entries_of d

-- what is read of a tree of a kind: of another kind than an index the tree itself is at fault
abbrev pub where_index : Checked Kind → Checked (List Descriptor) → Checked (List Descriptor)
where_index (Err p) entries = Err p
where_index (Ok V2s2) entries = bad
where_index (Ok V2s2List) entries = bad
where_index (Ok Oci) entries = bad
where_index (Ok OciIndex) entries = entries

-- what was read, unless a number is not whole
abbrev pub where_whole : Checked (List Descriptor) → Checked ⊤ → Checked (List Descriptor)
where_whole (Err p) numbers = Err p
where_whole (Ok entries) (Ok x) = Ok entries
where_whole (Ok entries) (Err p) = Err p

-- the entries of the index that a tree is: its kind is looked at first, without a content type, then its entries, then its
-- numbers
unfoldable pub index_of : Option Data → Checked (List Descriptor)
index_of tree = where_whole (where_index (kind_of [] tree) (entries_there tree)) (whole_there tree)
