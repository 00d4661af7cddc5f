use Rattle.transports.proofs.UploadLemmas.{kept_has, kept_adds, kept_others, kept_works, blobs_kept}
use Rattle.transports.proofs.folder_dest.keep_blob.Goals as goal

pub returns-in_err-keep_part-clause-others : goal.returns-in_err-keep_part-clause-others
returns-in_err-keep_part-clause-others g c = blobs_kept c.args.folder.now c.args.job.now c.args.lane.now c.keep_part.new.lane c.in_err-keep_part.ensures.same

pub returns-clause-has : goal.returns-clause-has
returns-clause-has g c = λ entry bytes holds.
    let e = c.in_ok-keep_part.ensures in
    kept_has c.args.folder.now c.args.job.now c.args.upload c.args.lane.now c.keep_part.new.lane c.requires.whole e.small e.did c.args.upload entry bytes holds

pub returns-clause-adds : goal.returns-clause-adds
returns-clause-adds g c = λ entry bytes holds.
    let e = c.in_ok-keep_part.ensures in
    kept_adds c.args.folder.now c.args.job.now c.args.upload c.args.lane.now c.keep_part.new.lane c.requires.whole e.small e.did c.args.upload entry bytes holds

pub returns-clause-others : goal.returns-clause-others
returns-clause-others g c =
    let e = c.in_ok-keep_part.ensures in
    kept_others c.args.folder.now c.args.job.now c.args.upload c.args.lane.now c.keep_part.new.lane c.requires.whole e.small e.did

pub returns-clause-works : goal.returns-clause-works
returns-clause-works g c =
    let e = c.in_ok-keep_part.ensures in
    kept_works c.args.folder.now c.args.job.now c.args.upload c.args.lane.now c.keep_part.new.lane c.requires.whole e.small e.did
