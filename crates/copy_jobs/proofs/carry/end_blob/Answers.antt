use Rattle.copy_jobs.proofs.CarryLemmas.{compared_whole, compared_other, may_keep, blob_ended, blob_given_up}
use Rattle.copy_jobs.proofs.carry.end_blob.Goals as goal

pub keep_blob-requires : goal.keep_blob-requires
keep_blob-requires g c =
    let r = c.args.route.now in
    let p = c.requires.passed.passing in
    let whole = compared_whole r.job.now p.given (c.in-Ok.ensures.is p.given p.fed) in
    record { whole = may_keep r.source.now r.dest.now r.job.now r.entry.value c.requires.route c.args.passing c.args.lane.now c.requires.passed whole.0 }

pub returns-in-Ok : goal.returns-in-Ok
returns-in-Ok g c =
    let r = c.args.route.now in
    let p = c.requires.passed.passing in
    let whole = compared_whole r.job.now p.given (c.in-Ok.ensures.is p.given p.fed) in
    let o = c.keep_blob.ensures in
    record {
      carried = blob_ended r.source.now r.dest.now r.job.now r.entry.value c.requires.route c.args.passing c.args.lane.now c.requires.passed whole.0
          c.keep_blob.new.lane c.keep_blob.result whole.1 o.has o.failed o.adds o.others o.works o.same o.part;
    }

pub returns : goal.returns
returns g c =
    let r = c.args.route.now in
    let p = c.requires.passed.passing in
    record {
      carried = blob_given_up r.source.now r.dest.now r.job.now r.entry.value c.requires.route c.args.passing c.args.lane.now c.requires.passed
          c.in-Err.cause c.give_up.result c.give_up.new.lane (compared_other r.job.now p.given c.in-Err.cause (c.in-Err.ensures.is p.given p.fed))
          (c.give_up.ensures.given_up r.entry.value _ p.holds);
    }
