use Rattle.std.proofs.Common.{rules, ◌≡◌, List, Ok, Err, sym, subst}
use Rattle.skopeo_outside.specs.LaneLaws.{later_then}
use Rattle.transports.specs.declared.attempt.Attempt.{Attempt}
use Rattle.transports.specs.Names.{IsNameTried, AreNamesTried}
use Rattle.transports.proofs.TriedLemmas.{on_then}
use Rattle.transports.proofs.NameLemmas.{next_name_failed, next_name_answered, end_names_failed}
use Rattle.transports.proofs.names.try_each_name.Goals as goal

pub loop-name-preserved : goal.loop-name-preserved
loop-name-preserved g c =
    let l = c.loop-name in
    let new = c.try_name.new.lane in
    let one : IsNameTried c.args.tls c.args.conf.now c.name-item.result l.lane new (Err c.in-Ok-Err.more) = search rules in
    record {
      failed = next_name_failed c.args.tls c.args.conf.now c.args.names.now l.name-index c.name-item.result c.name-item.result c.args.lane.now l.lane new l.attempts.items c.in-Ok-Err.more c.add_all.new.attempts.items l.invariant.failed c.loop-name-test.true (sym c.name-item.is) one (search rules);
      later = later_then c.args.lane.now l.lane new l.invariant.later c.try_name.ensures.later;
      on = on_then c.args.lane.now l.lane new l.invariant.on c.try_name.ensures.on;
    }

pub returns-in-Ok-clause-tried : goal.returns-in-Ok-clause-tried
returns-in-Ok-clause-tried g c =
    let l = c.loop-name in
    let new = c.try_name.new.lane in
    let one : IsNameTried c.args.tls c.args.conf.now c.name-item.result l.lane new (Ok c.in-Ok-Ok.found) = search rules in
    next_name_answered c.args.tls c.args.conf.now c.args.names.now l.name-index c.name-item.result c.name-item.result c.args.lane.now l.lane new l.attempts.items c.in-Ok-Ok.found c.in-Ok.it l.invariant.failed c.loop-name-test.true (sym c.name-item.is) one (search rules)

pub returns-clause-tried : goal.returns-clause-tried
returns-clause-tried g c =
    let l = c.loop-name in
    let same : c.from_vec.result ≡ l.attempts.items = search rules in
    subst (λ (x : List Attempt). AreNamesTried c.args.tls c.args.conf.now c.args.names.now c.args.lane.now l.lane (Err x)) (sym same)
    (end_names_failed c.args.tls c.args.conf.now c.args.names.now l.name-index c.args.lane.now l.lane l.attempts.items l.invariant.failed (search rules))
