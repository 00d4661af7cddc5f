use Rattle.registry_commands.proofs.ListLemmas.{listing_plain, listing_later}
use Rattle.registry_commands.proofs.listing.list_tags.Goals as goal

pub returns-clause-plain : goal.returns-clause-plain
returns-clause-plain g c =
    listing_plain c.args.conf.now c.args.tls c.args.repository.now c.args.lane.now c.list_by.new.lane c.list_by.result c.list_by.ensures.ends

pub returns-clause-later : goal.returns-clause-later
returns-clause-later g c =
    listing_later c.args.conf.now c.args.tls c.args.repository.now c.args.lane.now c.list_by.new.lane c.list_by.result c.list_by.ensures.ends
