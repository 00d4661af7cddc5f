use Rattle.copy_jobs.proofs.PassLemmas.{passed_end}
use Rattle.copy_jobs.proofs.pass.pass_all.Goals as goal

pub returns-then-count-eq0 : goal.returns-then-count-eq0
returns-then-count-eq0 g c =
    let route = c.args.route.now in
    record {
      passed = passed_end route.source.now route.dest.now route.job.now c.pass_piece.new.passing route.entry.value c.pass_piece.new.lane c.loop-at.at _ _
          c.loop-at.invariant.few c.if-count-eq0.true c.in-Ok.ensures.passed;
    }
