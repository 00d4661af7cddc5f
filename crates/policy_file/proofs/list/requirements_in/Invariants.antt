use Rattle.policy_file.proofs.TurnLemmas.{IsReadSoFar}
use Rattle.policy_file.proofs.list.requirements_in.Given as goal

abbrev pub invariant-loop-place : goal.invariant-loop-place
invariant-loop-place l = IsReadSoFar l.list l.place l.items
