use Rattle.std.proofs.Common.{◌-◌, ◌≤◌}
use Rattle.transports.specs.Blobs.{limit_of}
use Rattle.copy_jobs.specs.Passed.{IsPassing}
use Rattle.copy_jobs.proofs.pass.pass_all.Given as goal

abbrev pub invariant-loop-at : goal.invariant-loop-at
invariant-loop-at g l = record {
  few : l.at ≤ limit_of l.route.job.now;
  passing : IsPassing l.route.source.now l.route.dest.now l.route.job.now l.passing l.route.entry.value l.lane l.at;
}

abbrev pub decreases-loop-at : goal.decreases-loop-at
decreases-loop-at g l = l.limit - l.at
