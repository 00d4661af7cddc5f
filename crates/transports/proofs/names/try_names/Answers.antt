use Rattle.std.proofs.Common.{rules, Ok, Err}
use Rattle.transports.specs.Names.{AreNamesTried}
use Rattle.transports.proofs.RegistryLemmas.{untouched_source}
use Rattle.transports.proofs.NameLemmas.{naming_found, naming_none, names_spare}
use Rattle.transports.proofs.names.try_names.Goals as goal

pub returns-in-Ok-Ok-clause-ends : goal.returns-in-Ok-Ok-clause-ends
returns-in-Ok-Ok-clause-ends g c =
    let new = c.try_each_name.new.lane in
    let tried : AreNamesTried c.args.tls c.args.conf.now c.args.names.now c.args.lane.now new (Ok c.in-Ok-Ok.it) = search rules in
    naming_found c.args.tls c.args.conf.now c.args.names.now c.args.lane.now new c.in-Ok-Ok.it tried c.try_each_name.ensures.later (untouched_source c.args.lane.now new c.try_each_name.ensures.on)

pub returns-in-Ok-Ok-clause-spares : goal.returns-in-Ok-Ok-clause-spares
returns-in-Ok-Ok-clause-spares g c =
    let new = c.try_each_name.new.lane in
    let tried : AreNamesTried c.args.tls c.args.conf.now c.args.names.now c.args.lane.now new (Ok c.in-Ok-Ok.it) = search rules in
    names_spare c.args.tls c.args.conf.now c.args.names.now c.in-Ok-Ok.it c.args.lane.now new tried

pub returns-in-Ok-Err-clause-ends : goal.returns-in-Ok-Err-clause-ends
returns-in-Ok-Err-clause-ends g c =
    let new = c.try_each_name.new.lane in
    let tried : AreNamesTried c.args.tls c.args.conf.now c.args.names.now c.args.lane.now new (Err c.in-Ok-Err.attempts) = search rules in
    naming_none c.args.tls c.args.conf.now c.args.names.now c.args.lane.now new c.in-Ok-Err.attempts tried c.try_each_name.ensures.later (untouched_source c.args.lane.now new c.try_each_name.ensures.on)
