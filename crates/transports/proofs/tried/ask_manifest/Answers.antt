use Rattle.std.proofs.Common.{rules}
use Rattle.transports.proofs.TriedLemmas.{asks_by, asks_later_by}
use Rattle.transports.proofs.tried.ask_manifest.Goals as goal

pub returns-clause-asked : goal.returns-clause-asked
returns-clause-asked g c =
    asks_by c.args.reference.now c.in_ok-registry.registry c.in_ok-name.name c.args.lane.now _ c.get_manifest-answer.result c.judged.result (search rules) (search rules) (search rules) (search rules) (search rules) (search rules)

pub returns-clause-later : goal.returns-clause-later
returns-clause-later g c =
    asks_later_by c.in_ok-registry.registry c.in_ok-name.name c.args.lane.now _ c.get_manifest-answer.result (search rules) (search rules) (search rules)
