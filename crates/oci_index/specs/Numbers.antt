-- The numbers of a tree that are not read as whole ones. They could not be written again as they were.
use Rattle.std.specs.Prelude.{ℕ, suc, if◌then◌else◌, Option, Some, None, Ok, Err, ⊤}
use Rattle.serde_json.specs.Data.{Data, null, boolean, number, string, array, object, Items, no_items, item, Members, no_members, member}
use Rattle.serde_json.specs.Find.{is_float}
use Rattle.json_tree.specs.declared.path.Step.TheVariants.{Name, Place}
use Rattle.json_tree.specs.Checked.{Checked, under}
use Rattle.json_tree.specs.Leaf.{bad}

-- the first fault of two that stand one behind the other
abbrev pub then_checked : Checked ⊤ → Checked ⊤ → Checked ⊤
then_checked (Ok x) later = later
then_checked (Err p) later = Err p

abbrev mutual
  -- no number below is other than whole, or the first one that is, in byte order of names and by number of places
  pub whole_in : Data → Checked ⊤
  whole_in null = Ok tt
  whole_in (boolean b) = Ok tt
  whole_in (number n) = if is_float n then bad else Ok tt
  whole_in (string s) = Ok tt
  whole_in (array ds) = whole_items 0 ds
  whole_in (object ms) = whole_members ms

  pub whole_items : ℕ → Items → Checked ⊤
  whole_items i no_items = Ok tt
  whole_items i (item d ds) = then_checked (under (Place i) (whole_in d)) (whole_items (suc i) ds)

  pub whole_members : Members → Checked ⊤
  whole_members no_members = Ok tt
  whole_members (member k d ms) = then_checked (under (Name k) (whole_in d)) (whole_members ms)

-- the same of a tree that may be none
abbrev pub whole_there : Option Data → Checked ⊤
whole_there None = bad
whole_there (Some d) = whole_in d
