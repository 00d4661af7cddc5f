use Rattle.policy_file.proofs.MemberLemmas.{SameUnknown}
use Rattle.policy_file.proofs.members.unknown_name.Given as goal

abbrev pub invariant-loop-name : goal.invariant-loop-name
invariant-loop-name l = SameUnknown l.names l.name-iterator l.members.entries
