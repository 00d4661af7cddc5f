use Rattle.policy_file.proofs.TurnLemmas.{AreReadUpTo}
use Rattle.policy_file.proofs.read.scopes_from.Given as goal

abbrev pub invariant-loop-name : goal.invariant-loop-name
invariant-loop-name l = AreReadUpTo l.scopes l.name-iterator l.members.entries
