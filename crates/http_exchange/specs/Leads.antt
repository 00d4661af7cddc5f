-- Where a location leads, as the code keeps it.
use Rattle.http_exchange.specs.declared.location.Lead.{Lead as Kept}
use Rattle.http_exchange.specs.declared.location.Lead.TheVariants.{Plain, Tls, Nowhere}
use Rattle.http_exchange.specs.Locations.{Lead, plain, tls, nowhere}

-- what is kept of a lead
abbrev pub shown_lead : Kept → Lead
shown_lead (Plain host port target) = plain host port target
shown_lead (Tls host) = tls host
shown_lead Nowhere = nowhere
