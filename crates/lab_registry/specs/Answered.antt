-- What one connection comes to.
use Rattle.std.specs.Prelude.{ℕ, List, Option}
use Rattle.std.specs.Io.KnownBytes.{Appends}
use Rattle.skopeo_outside.specs.declared.map_peer.MapPeer.{MapPeer}
use Rattle.skopeo_outside.specs.Peer.{peer_answer}
use Rattle.lab_registry.specs.Heads.{TakesHead}

-- a head was read, and what was written is the registry's answer to it
pub record IsAnswered (peer : MapPeer) (before after old new : Option (List ℕ)) : Type 0 where
  pub head : List ℕ
  pub read : TakesHead before after head
  pub written : Appends old new (peer_answer peer head)
