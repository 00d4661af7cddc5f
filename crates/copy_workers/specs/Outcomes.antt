-- Outcomes of jobs, and what follows from them.
use Rattle.std.specs.Prelude.{◌≡◌, ℕ, Ok, Err, List, ◌∷◌, ◌++◌, map}
use Rattle.copy_workers.specs.declared.receipt.Outcome.{Outcome}
use Rattle.copy_workers.specs.Receipts.{Issued}
use Rattle.copy_workers.specs.declared.receipt.JobFault.{JobFault}
use Rattle.copy_workers.specs.declared.cause.Cause.{Cause}

-- the outcome that a receipt stands for
abbrev pub outcome_of : Issued → Outcome
outcome_of r = record { job = r.job; lane = r.lane; end = Ok r.how }

abbrev pub failure : ℕ → ℕ → Cause → Outcome
failure job lane cause = record { job = job; lane = lane; end = Err cause }

-- the first outcome that is a failure, with those before it
pub record IsFirstFault (outcomes : List Outcome) (fault : JobFault) : Type 0 where
  pub before : List Issued
  pub lane : ℕ
  pub rest : List Outcome
  pub is : outcomes ≡ map outcome_of before ++ failure fault.job lane fault.cause ∷ rest
