use Rattle.list_change.specs.Changed.{entry_changed, paired}
use Rattle.manifest_change.proofs.EachLemmas.{IsMadeSoFar}
use Rattle.list_change.proofs.entry.entries_changed.Given as goal

abbrev pub invariant-loop-place : goal.invariant-loop-place
invariant-loop-place l = IsMadeSoFar (entry_changed l.to) l.changed l.place (paired l.entries l.written)
