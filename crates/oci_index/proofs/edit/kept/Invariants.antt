use Rattle.std.proofs.Common.{◌≡◌, take, filter, map, option_map}
use Rattle.serde_json.specs.View.{view}
use Rattle.oci_index.specs.Edited.{stays}
use Rattle.oci_index.proofs.edit.kept.Given as goal

abbrev pub invariant-loop-entry : goal.invariant-loop-entry
invariant-loop-entry l =
    map view l.kept.items ≡ filter (stays (option_map (λ t. t.now) l.name) l.digest) (map view (take l.entry-index l.entries))
