use Rattle.std.proofs.Common.{◌≡◌, take, filter, option_map}
use Rattle.oci_index.specs.Chosen.{fits}
use Rattle.oci_index.proofs.choice.fitting.Given as goal

abbrev pub invariant-loop-entry : goal.invariant-loop-entry
invariant-loop-entry l = l.found ≡ filter (fits (option_map (λ t. t.now) l.name)) (take l.entry-index l.entries)
