use Rattle.std.proofs.Common.{◌≡◌, ◌++◌, ◌-◌}
use Rattle.skopeo_outside.specs.Peer.{chunks}
use Rattle.skopeo_outside.proofs.map_peer.push_chunks.Given as goal

abbrev pub invariant-loop : goal.invariant-loop
invariant-loop l = l.into ++ chunks (l.count - l.counter) l.size l.rest ≡ l.fn.into ++ chunks l.count l.size l.body
