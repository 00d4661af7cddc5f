use Rattle.std.proofs.Common.{rules}
use Rattle.transports.proofs.StoreLemmas.{base_of, path_of, stored_by, stored_goes}
use Rattle.transports.proofs.stored.ask_store.Goals as goal

pub get_signatures-answer-requires-clause-base : goal.get_signatures-answer-requires-clause-base
get_signatures-answer-requires-clause-base g c = base_of c.args.store.now _ c.base.ensures.store c.base.ensures.value

pub get_signatures-answer-requires-clause-path : goal.get_signatures-answer-requires-clause-path
get_signatures-answer-requires-clause-path g c = path_of c.args.store.now _ c.base.ensures.store c.path.ensures

pub returns-clause-stored : goal.returns-clause-stored
returns-clause-stored g c =
    stored_by c.args.store.now _ _ _ c.args.lane.now _ c.get_signatures-answer.result c.by_store.result c.base.ensures.value c.path.ensures c.digest.ensures (search rules) (search rules) (search rules) (search rules)

pub returns-clause-later : goal.returns-clause-later
returns-clause-later g c =
    stored_goes c.args.store.now c.args.lane.now _ c.by_store.result
    (stored_by c.args.store.now _ _ _ c.args.lane.now _ c.get_signatures-answer.result c.by_store.result c.base.ensures.value c.path.ensures c.digest.ensures (search rules) (search rules) (search rules) (search rules))
