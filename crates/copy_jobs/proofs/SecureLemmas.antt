-- Jobs that were not begun.
use Rattle.std.proofs.Common.{List, Err, inr, refl}
use Rattle.skopeo_outside.specs.LaneTold.{LaneTold}
use Rattle.digest_reader.specs.declared.job.Job.{Job}
use Rattle.copy_workers.specs.Receipts.{Issued}
use Rattle.transports.specs.declared.source.Source.{Source}
use Rattle.transports.specs.declared.dest.Dest.{Dest}
use Rattle.transports.specs.declared.refusal.Refusal.TheVariants as refusal
use Rattle.copy_jobs.specs.Secured.{JobsEnd}

pub none_begun : (source : Source) (dest : Dest) (jobs : List Job) (lanes : List LaneTold) → JobsEnd {A = List Issued} source dest jobs lanes lanes (Err refusal.Memory)
none_begun source dest jobs lanes = inr (refl, refl)
