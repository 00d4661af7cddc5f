use Rattle.std.proofs.Common.{IsTrue}
use Rattle.skopeo_outside_tests.proofs.tests.received.Given as goal

abbrev pub invariant-loop : goal.invariant-loop
invariant-loop g l = IsTrue (g.W.Wire.is_open l.wire)
