-- What a digester was fed: the joined pieces, as a relation, since its state does not determine them.
use Rattle.std.specs.Prelude.{◌≡◌, ℕ, List, length}
use Rattle.sha2.specs.Hashers.{Holds256}
use Rattle.digest_reader.specs.declared.digester.Digester.{Digester}

-- the number of bytes that the digester was fed
abbrev pub fed_count : Digester → ℕ
fed_count digester = digester.length

-- the digester was fed these bytes, in pieces, and nothing else
pub record HasFed (digester : Digester) (fed : List ℕ) : Type 0 where
  pub hash : Holds256 digester.hasher fed
  pub count : fed_count digester ≡ length fed
