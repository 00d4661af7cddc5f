use Rattle.transports.proofs.UploadLemmas.{begun}
use Rattle.transports.proofs.folder_dest.begin_blob.Goals as goal

pub returns-clause-begun : goal.returns-clause-begun
returns-clause-begun g c = begun c.args.folder.now c.args.job.now c.args.lane.now c.begin_part.new.lane c.in_ok-begin_part.ensures.did
