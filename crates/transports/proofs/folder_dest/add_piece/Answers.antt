use Rattle.std.proofs.Common.{refl}
use Rattle.transports.proofs.UploadLemmas.{filled, part_more}
use Rattle.transports.proofs.folder_dest.add_piece.Goals as goal

pub returns-clause-added : goal.returns-clause-added
returns-clause-added g c = λ entry bytes has.
    filled c.args.folder.now c.args.job.now c.args.upload.now c.args.upload.now entry c.args.lane.now c.add_part.new.lane bytes c.args.piece.now has c.in_ok-add_part.ensures.did refl

pub returns-clause-part : goal.returns-clause-part
returns-clause-part g c = part_more c.args.folder.now c.args.job.now c.args.piece.now c.args.lane.now c.add_part.new.lane c.in_ok-add_part.ensures.did
