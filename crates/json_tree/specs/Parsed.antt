-- What was parsed, by the tree that it holds.
use Rattle.std.specs.Prelude.{Option, option_map}
use Rattle.serde_json.specs.Data.{Data}
use Rattle.serde_json.specs.View.{view}
use Rattle.json_tree.specs.declared.tree.Parsed.{Parsed}

-- the tree, where the bytes were one
abbrev pub tree_of : Parsed → Option Data
tree_of parsed = option_map view parsed.root
