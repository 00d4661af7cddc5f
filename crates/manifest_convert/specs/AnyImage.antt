-- The images of any kind (docs/manifests.md, "Images").
use Rattle.std.specs.Prelude.{Bool, true, false, if◌then◌else◌, Option}
use Rattle.serde_json.specs.Data.{Data}
use Rattle.json_tree.specs.Checked.{Checked}
use Rattle.json_tree.specs.First.{Path, Itself}
use Rattle.json_tree.specs.Leaf.{bad}
use Rattle.manifest_v2s2.specs.Bad.{BadImage}
use Rattle.manifest_v2s2.specs.Image.{image_of}
use Rattle.manifest_v2s2.specs.Media.{is_list}
use Rattle.manifest_v2s2.specs.declared.image.Image.{Image}
use Rattle.manifest_v2s2.specs.declared.kind.Kind.{Kind}

-- the image of that kind that a tree is; of a list's kind there is none
abbrev pub any_image_of : Kind → Option Data → Checked Image
any_image_of kind tree = if is_list kind then bad else image_of kind tree

-- the tree itself, or what is bad in an image of that kind
abbrev pub BadUnless : Bool → Kind → Option Data → Path → Type 0
BadUnless true kind tree = Itself
BadUnless false kind tree = BadImage kind tree

-- the bad members of an image of that kind; a tree is no image of a list's kind
abbrev pub BadAnyImage : Kind → Option Data → Path → Type 0
BadAnyImage kind tree = BadUnless (is_list kind) kind tree
