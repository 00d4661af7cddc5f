use Rattle.trials.proofs.FedSoFar.{HasLeft}
use Rattle.trials.proofs.sums.found.Given as goal

-- what was fed and what is left are the bound
abbrev pub invariant-loop-piece : goal.invariant-loop-piece
invariant-loop-piece l = HasLeft l.digester l.left
