use Rattle.std.proofs.Common.{ℕ, List, ap, arith}
use Rattle.std.specs.Prelude.{slice_index}
use Rattle.copy_workers_tests.proofs.tests.make_jobs.Goals as goal

pub returns-clause-jobs : goal.returns-clause-jobs
returns-clause-jobs c =
    let n = c.loop-k.invariant.number in
    let d = c.loop-k.invariant.digest in
    record {
      numbered = n;
      distinct = λ i k j lt lk e.
          let a = d i j (omega arith) in
          let b = d k j lk in
          let same = ap (λ (x : List ℕ). slice_index x 0) e in
          omega arith;
    }
