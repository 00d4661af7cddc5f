-- The jobs of an image.
use Rattle.std.specs.Prelude.{◌≡◌, ◌≢◌, ◌+◌, ◌<◌, ℕ, List, AllPairs, length, slice_index_or}
use Rattle.digest_reader.specs.declared.job.Job.{Job}

-- the jobs are numbered from 1, and have different digests
pub record AreJobs (jobs : List Job) : Type 0 where
  pub numbered : (k : ℕ) (j : Job) → k < length jobs → (slice_index_or jobs k j).number ≡ k + 1
  pub distinct : AllPairs (λ i j. i.digest ≢ j.digest) jobs
