use Rattle.std.proofs.Common.{rules}
use Rattle.transports.specs.Tried.{OnSource}
use Rattle.transports.proofs.RegistryLemmas.{next_given, next_failed}
use Rattle.transports.proofs.registry_source.next_piece.Goals as goal

pub returns-in-Err-clause-gives : goal.returns-in-Err-clause-gives
returns-in-Err-clause-gives g c = λ source job entry bytes has.
    let on : OnSource c.args.lane.now _ = search rules in
    let a = c.args.answer.now in
    next_failed source job a c.read_full.new.answer c.args.given.now bytes c.read_full.new.into entry c.args.lane.now _ c.in-Err.fault c.exchange_by.result has on (search rules) (search rules) (search rules) (search rules) c.exchange_by.ensures.unjudged

pub returns-clause-gives : goal.returns-clause-gives
returns-clause-gives g c = λ source job entry bytes has.
    let on : OnSource c.args.lane.now _ = search rules in
    next_given source job c.args.answer.now c.read_full.new.answer c.args.given.now _ c.in-Ok.count bytes c.read_full.new.into entry c.args.lane.now _ has on (search rules) (search rules) (search rules) (search rules) (search rules) (search rules)
