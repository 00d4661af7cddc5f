use Rattle.manifest_change.specs.Changed.{layer_changed}
use Rattle.manifest_change.proofs.EachLemmas.{IsMadeSoFar}
use Rattle.manifest_change.proofs.change.layers_changed.Given as goal

abbrev pub invariant-loop-place : goal.invariant-loop-place
invariant-loop-place l = IsMadeSoFar (layer_changed l.to) l.changed l.place l.layers
