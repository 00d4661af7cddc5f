use Rattle.manifest_convert.proofs.BlobLemmas.{AreJobsOf-answered}
use Rattle.manifest_convert.proofs.blobs.blobs_of.Goals as goal

pub returns-clause-jobs : goal.returns-clause-jobs
returns-clause-jobs c = AreJobsOf-answered _ _ c.first_blobs.ensures
