use Rattle.std.proofs.Common.{◌≡◌}
use Rattle.lab.proofs.registry.answer_next.Given as goal

abbrev pub invariant-loop-stream : goal.invariant-loop-stream
invariant-loop-stream g l = l.peer ≡ l.fn.peer
