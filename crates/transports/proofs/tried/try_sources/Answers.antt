use Rattle.std.proofs.Common.{rules, Ok, Err}
use Rattle.transports.specs.Tried.{AreTried}
use Rattle.transports.proofs.RegistryLemmas.{untouched_source}
use Rattle.transports.proofs.TriedLemmas.{trying_found, trying_none, tried_spares}
use Rattle.transports.proofs.tried.try_sources.Goals as goal

pub returns-in-Ok-Ok-clause-ends : goal.returns-in-Ok-Ok-clause-ends
returns-in-Ok-Ok-clause-ends g c =
    let new = c.try_each.new.lane in
    let tried : AreTried c.args.tls c.args.sources.now c.args.lane.now new (Ok c.in-Ok-Ok.found) = search rules in
    trying_found c.args.tls c.args.sources.now c.args.lane.now new c.in-Ok-Ok.found tried c.try_each.ensures.later (untouched_source c.args.lane.now new c.try_each.ensures.on)

pub returns-in-Ok-Ok-clause-spares : goal.returns-in-Ok-Ok-clause-spares
returns-in-Ok-Ok-clause-spares g c =
    let new = c.try_each.new.lane in
    let tried : AreTried c.args.tls c.args.sources.now c.args.lane.now new (Ok c.in-Ok-Ok.found) = search rules in
    tried_spares c.args.tls c.args.sources.now c.in-Ok-Ok.found c.args.lane.now new tried

pub returns-in-Ok-Err-clause-ends : goal.returns-in-Ok-Err-clause-ends
returns-in-Ok-Err-clause-ends g c =
    let new = c.try_each.new.lane in
    let tried : AreTried c.args.tls c.args.sources.now c.args.lane.now new (Err c.in-Ok-Err.attempts) = search rules in
    trying_none c.args.tls c.args.sources.now c.args.lane.now new c.in-Ok-Err.attempts tried c.try_each.ensures.later (untouched_source c.args.lane.now new c.try_each.ensures.on)
