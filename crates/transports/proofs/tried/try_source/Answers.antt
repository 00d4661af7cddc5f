use Rattle.std.proofs.Common.{rules}
use Rattle.transports.proofs.TriedLemmas.{tried_asked}
use Rattle.transports.proofs.tried.try_source.Goals as goal

pub returns-clause-tried : goal.returns-clause-tried
returns-clause-tried g c = tried_asked c.args.tls c.args.source.now c.in-Some.reference c.args.lane.now _ c.ask_source.result (search rules) (search rules) (search rules)
