use Rattle.std.proofs.Common.{rules, Ok, Err, sym}
use Rattle.skopeo_outside.specs.LaneLaws.{later_then}
use Rattle.transports.specs.Tried.{IsTried}
use Rattle.transports.proofs.TriedLemmas.{next_failed, next_answered, end_failed, on_then}
use Rattle.transports.proofs.tried.try_each.Goals as goal

pub returns-in-Ok-Ok-clause-tried : goal.returns-in-Ok-Ok-clause-tried
returns-in-Ok-Ok-clause-tried g c =
    let l = c.loop-source in
    let new = c.try_source.new.lane in
    let found = c.in-Ok-Ok.found in
    let one : IsTried c.args.tls c.source-item.result l.lane new (Ok found) = search rules in
    next_answered c.args.tls c.args.sources.now l.source-index c.source-item.result c.source-item.result c.args.lane.now l.lane new l.attempts found l.invariant.failed c.loop-source-test.true (sym c.source-item.is) one

pub loop-source-preserved : goal.loop-source-preserved
loop-source-preserved g c =
    let l = c.loop-source in
    let all = c.args.sources.now in
    let old = c.args.lane.now in
    let new = c.try_source.new.lane in
    let one : IsTried c.args.tls c.source-item.result l.lane new (Err c.in-Ok-Err.cause) = search rules in
    record {
      failed = next_failed c.args.tls all l.source-index c.source-item.result c.source-item.result old l.lane new l.attempts c.note.new.attempts c.in-Ok-Err.cause l.invariant.failed c.loop-source-test.true (sym c.source-item.is) one (search rules);
      later = later_then old l.lane new l.invariant.later c.try_source.ensures.later;
      on = on_then old l.lane new l.invariant.on c.try_source.ensures.on;
    }

pub returns-clause-tried : goal.returns-clause-tried
returns-clause-tried g c =
    let l = c.loop-source in
    end_failed c.args.tls c.args.sources.now l.source-index c.args.lane.now l.lane l.attempts l.invariant.failed (search rules)
