use Rattle.policy_file.proofs.TurnLemmas.{SameTransports}
use Rattle.policy_file.proofs.read.with_transports.Given as goal

abbrev pub invariant-loop-name : goal.invariant-loop-name
invariant-loop-name l = SameTransports l.policy l.fn.policy l.name-iterator l.members.entries
