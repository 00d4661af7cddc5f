use Rattle.oci_index.proofs.EntriesSoFar.{IsReadSoFar}
use Rattle.oci_index.proofs.entry.entries_by.Given as goal

abbrev pub invariant-loop-place : goal.invariant-loop-place
invariant-loop-place l = IsReadSoFar l.all l.sizes l.place l.items
