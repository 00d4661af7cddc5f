use Rattle.std.proofs.Common.{◌≤◌, length}
use Rattle.real_helper.proofs.child.read_output.Given as goal

-- no more was kept than there is room for
abbrev pub invariant-loop : goal.invariant-loop
invariant-loop g l = length l.answer ≤ l.most
