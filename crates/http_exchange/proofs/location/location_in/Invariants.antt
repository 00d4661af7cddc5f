use Rattle.std.proofs.Common.{◌≡◌, map, drop}
use Rattle.http_message.specs.Shown.{pair_bytes}
use Rattle.http_exchange.specs.Locations.{location_in}
use Rattle.http_exchange.proofs.location.location_in.Given as goal

abbrev pub invariant-loop-pair : goal.invariant-loop-pair
invariant-loop-pair l = location_in (map pair_bytes (drop l.pair-index l.headers)) ≡ location_in (map pair_bytes l.headers)
