use Rattle.lab_registry.proofs.HeadLemmas.{IsReading}
use Rattle.lab_registry.proofs.request.read_head.Given as goal

abbrev pub invariant-loop : goal.invariant-loop
invariant-loop g l = IsReading (g.F.Read.remaining l.fn.from) (g.F.Read.remaining l.from) l.head l.counter
