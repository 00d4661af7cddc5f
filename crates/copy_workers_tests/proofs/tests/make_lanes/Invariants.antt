use Rattle.std.proofs.Common.{◌≡◌, ℕ, List, [], All, None, vec_len}
use Rattle.copy_workers.specs.Asked.{answers_to}
use Rattle.copy_workers_tests.proofs.tests.make_lanes.Given as goal

abbrev pub invariant-loop-k : goal.invariant-loop-k
invariant-loop-k l = record {
  count : vec_len l.lanes ≡ l.k;
  calm : All (λ x. x.fault ≡ None) l.lanes.items;
  unasked : All (λ x. (digest : List ℕ) → answers_to x.asked digest ≡ []) l.lanes.items;
}
