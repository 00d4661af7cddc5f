use Rattle.std.proofs.Common.{rules}
use Rattle.transports.proofs.NameLemmas.{name_tried}
use Rattle.transports.proofs.names.try_name.Goals as goal

pub returns-in-Ok-clause-tried : goal.returns-in-Ok-clause-tried
returns-in-Ok-clause-tried g c =
    name_tried c.args.tls c.args.conf.now c.args.name.now c.as_slice.result.now c.args.lane.now c.try_each.new.lane c.try_each.result (search rules) c.try_each.ensures.tried
