use Rattle.std.proofs.Common.{◌≡◌, ◌<◌, ◌+◌, ℕ, vec_len, length, get_or}
use Rattle.std.specs.Prelude.{slice_index}
use Rattle.digest_reader.specs.declared.job.Job.{Job}
use Rattle.copy_workers_tests.proofs.tests.make_jobs.Given as goal

abbrev pub invariant-loop-k : goal.invariant-loop-k
invariant-loop-k l = record {
  count : vec_len l.jobs ≡ l.k;
  number : (i : ℕ) (j : Job) → i < length l.jobs.items → (get_or l.jobs.items i j).number ≡ i + 1;
  digest : (i : ℕ) (j : Job) → i < length l.jobs.items → slice_index (get_or l.jobs.items i j).digest 0 ≡ i + 1;
}
