use Rattle.std.proofs.Common.{◌≡◌, Result, Err, rules}
use Rattle.copy_workers.specs.declared.cause.Cause.{Cause}
use Rattle.copy_jobs.proofs.CarryLemmas.{begin_stopped, none_passed, carries_none}
use Rattle.copy_jobs.proofs.carry.carry_open.Goals as goal

pub returns-in_err-upload : goal.returns-in_err-upload
returns-in_err-upload g c =
    let r = c.args.route.now in
    let e = c.in_err-upload.field-0.0 in
    let o = c.in_err-upload.ensures in
    let is : ◌≡◌ {A = Result (Unit {0}) Cause} c.from_residual.result (Err e) = search rules in
    record {
      carried = carries_none r.source.now r.dest.now r.job.now r.entry.value c.begin_blob.new.lane c.from_residual.result e is
          (begin_stopped r.source.now r.dest.now r.job.now r.entry.value c.requires.route c.args.blob c.args.lane.now c.requires.opened c.begin_blob.new.lane o.part o.later e o.failed o.same);
    }

pub pass_all-requires-clause-passing : goal.pass_all-requires-clause-passing
pass_all-requires-clause-passing g c =
    let r = c.args.route.now in
    let o = c.in_ok-upload.ensures in
    none_passed r.source.now r.dest.now r.job.now r.entry.value c.requires.route c.args.blob c.args.lane.now c.requires.opened c.begin_blob.new.lane o.part o.later
    o.from c.in_ok-upload.upload c.new.result o.begun c.new.ensures
