use Rattle.std.proofs.Common.{rules, ◌==◌, ◌+◌, cond, ◌∙◌, zero-le, arith}
use Rattle.std.specs.List.Sorted.{IsNonDecreasingBy}
use Rattle.std.proofs.lemmas.List.Sorted.{sum_by-IsPermutation}
use Rattle.copy_workers.proofs.Ordering.{in_order, ascends}
use Rattle.std.proofs.lemmas.List.Sorted.{IsNonDecreasingBy-from_sort_by_key}
use Rattle.copy_workers.specs.declared.receipt.Outcome.{Outcome}
use Rattle.copy_workers.proofs.settle.settle.Goals as goal

sorted : (c : goal.After-sort_unstable_by_key) → IsNonDecreasingBy (λ (o : Outcome). o.job) c.sort_unstable_by_key.new.self.items
sorted c = IsNonDecreasingBy-from_sort_by_key (λ (o : Outcome). o.job) _ c.sort_unstable_by_key.ensures.sorted (λ a r q k. search rules)

pub conclude-requires-clause-room : goal.conclude-requires-clause-room
conclude-requires-clause-room c =
    let s = c.sort_unstable_by_key in
    let o = c.requires.once in
    let up = sorted c in
    let l = (in_order s.new.self.items o.0 (ascends s.new.self.items 0 (λ k d h. zero-le) (λ k d h. up k (k + 1) d (omega arith) h))
    (λ job. sum_by-IsPermutation (λ (y : Outcome). cond (y.job == job) 1 0) c.args.outcomes.items s.new.self.items s.ensures.permutation ∙ o.2 job)).1 in
    let le = o.1 in
    omega arith

pub returns : goal.returns
returns c = (
  c.sort_unstable_by_key.new.self.items,
  c.sort_unstable_by_key.ensures.permutation,
  IsNonDecreasingBy-from_sort_by_key (λ (o : Outcome). o.job) _ c.sort_unstable_by_key.ensures.sorted (λ a r q k. search rules),
  c.conclude.ensures,
)
