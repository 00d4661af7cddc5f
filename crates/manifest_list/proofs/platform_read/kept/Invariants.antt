use Rattle.manifest_list.proofs.LoopLemmas.{IsKeptUpTo}
use Rattle.manifest_list.proofs.platform_read.kept.Given as goal

abbrev pub invariant-loop-name : goal.invariant-loop-name
invariant-loop-name l = IsKeptUpTo l.all l.name-iterator l.members.entries
