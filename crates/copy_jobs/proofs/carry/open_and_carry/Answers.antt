use Rattle.std.proofs.Common.{◌≡◌, Result, Err, rules, sym, subst}
use Rattle.skopeo_outside.specs.LaneTold.{LaneTold}
use Rattle.copy_workers.specs.declared.cause.Cause.{Cause}
use Rattle.copy_jobs.specs.Passed.{IsRoute, Carries}
use Rattle.copy_jobs.proofs.CarryLemmas.{open_stopped, carries_none}
use Rattle.copy_jobs.proofs.carry.open_and_carry.Goals as goal

pub returns-in_err-blob : goal.returns-in_err-blob
returns-in_err-blob g c =
    let r = c.args.route.now in
    let e = c.in_err-blob.field-0.0 in
    let o = c.in_err-blob.ensures in
    let is : ◌≡◌ {A = Result (Unit {0}) Cause} c.from_residual.result (Err e) = search rules in
    let route = subst (IsRoute r.source.now r.dest.now r.job.now) c.requires.entry c.requires.route in
    record {
      carried = subst (λ (a : LaneTold). Carries r.source.now r.dest.now r.job.now a c.open_blob.new.lane c.from_residual.result) (sym c.requires.entry)
          (carries_none r.source.now r.dest.now r.job.now c.args.lane.now c.open_blob.new.lane c.from_residual.result e is
          (open_stopped r.source.now r.dest.now r.job.now c.args.lane.now route e c.open_blob.new.lane o.failed o.unjudged o.untouched o.later));
    }
