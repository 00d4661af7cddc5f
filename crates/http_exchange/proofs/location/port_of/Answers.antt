use Rattle.http_exchange.proofs.LocationLemmas.{port_of_domain}
use Rattle.http_exchange.proofs.location.port_of.Goals as goal

pub port_number-requires : goal.port_number-requires
port_number-requires c = port_of_domain c.args.host.now c.in-Some.digits.now c.requires (rw c.in-Some.is at c.cut_at.ensures.after)
