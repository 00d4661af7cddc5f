use Rattle.std.proofs.Common.{◌≡◌, ◌≤◌, ◌+◌, ◌++◌, map, length, vec_len, vec_capacity}
use Rattle.copy_workers.specs.Outcomes.{outcome_of}
use Rattle.copy_workers.proofs.conclude.conclude.Given as goal

abbrev pub invariant-loop-outcome : goal.invariant-loop-outcome
invariant-loop-outcome l = record {
  room : vec_len l.receipts + length l.outcome-iterator.rest.items ≤ vec_capacity l.receipts;
  done : map outcome_of l.receipts.items ++ l.outcome-iterator.rest.items ≡ l.fn.outcomes.items;
}
