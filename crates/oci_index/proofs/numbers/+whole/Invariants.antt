use Rattle.std.proofs.Common.{◌≡◌, drop}
use Rattle.serde_json.specs.View.{items_view, members_view}
use Rattle.oci_index.specs.Numbers.{whole_items, whole_members}
use Rattle.oci_index.proofs.numbers.+whole.Given as goal

abbrev pub invariant-check_items-loop-place : goal.invariant-check_items-loop-place
invariant-check_items-loop-place l = whole_items l.place (items_view (drop l.place l.items.items)) ≡ whole_items 0 (items_view l.items.items)

abbrev pub invariant-check_members-loop-name : goal.invariant-check_members-loop-name
invariant-check_members-loop-name l = whole_members (members_view l.name-iterator) ≡ whole_members (members_view l.members.entries)
