-- What was fed to a digester, and what is left of a bound.
use Rattle.std.proofs.Common.{◌≡◌, ◌+◌, ℕ, List, length}
use Rattle.digest_reader.specs.Fed.{HasFed}
use Rattle.digest_reader.specs.declared.digester.Digester.{Digester}

-- some bytes were fed, which with those that are left are the bound
pub record HasLeft (digester : Digester) (left : ℕ) : Type 0 where
  pub fed : List ℕ
  pub has : HasFed digester fed
  pub count : length fed + left ≡ 10000
