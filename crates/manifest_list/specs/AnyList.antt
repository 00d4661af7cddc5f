-- The lists of any kind (docs/manifests.md, "Lists").
use Rattle.std.specs.Prelude.{ℕ, List, Bool, true, false, if◌then◌else◌, Option}
use Rattle.serde_json.specs.Data.{Data}
use Rattle.json_tree.specs.Checked.{Checked}
use Rattle.json_tree.specs.First.{Path, Itself}
use Rattle.json_tree.specs.Leaf.{bad}
use Rattle.manifest_v2s2.specs.Media.{is_list}
use Rattle.manifest_v2s2.specs.declared.kind.Kind.{Kind}
use Rattle.manifest_list.specs.declared.list.List as listed
use Rattle.manifest_list.specs.BadList.{BadList}
use Rattle.manifest_list.specs.Entry.{list_of}

-- bytes, where `List` is the list of images
abbrev pub Bytes : Type 0
Bytes = List ℕ

-- the list of that kind that a tree is; of an image's kind there is none
abbrev pub any_list_of : Kind → Option Data → Checked listed.List
any_list_of kind tree = if is_list kind then list_of kind tree else bad

-- what is bad in a list of that kind, or the tree itself
abbrev pub BadUnless : Bool → Kind → Option Data → Path → Type 0
BadUnless true kind tree = BadList kind tree
BadUnless false kind tree = Itself

-- the bad members of a list of that kind; a tree is no list of an image's kind
abbrev pub BadAnyList : Kind → Option Data → Path → Type 0
BadAnyList kind tree = BadUnless (is_list kind) kind tree
