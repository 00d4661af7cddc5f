-- SHA-256 (FIPS 180-4) under one name, as `sha2` states it.
use Rattle.std.specs.Prelude.{List, ℕ}
use Rattle.sha2.specs.Sha256.{sha256}

-- the 32 bytes that SHA-256 gives for some bytes
unfoldable pub digest : List ℕ → List ℕ
digest bytes = sha256 bytes
