-- What a receipt says.
use Rattle.std.specs.Prelude.{ℕ}
use Rattle.copy_workers.specs.declared.receipt.How.{How}

-- the job by its number, the lane that secured it by its place from 0, and how
pub record Issued : Type 0 where
  pub job : ℕ
  pub lane : ℕ
  pub how : How
