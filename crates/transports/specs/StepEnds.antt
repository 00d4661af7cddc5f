-- How steps at a source and at a destination end.
use Rattle.std.specs.Prelude.{◌≡◌, ◌⊎◌, ℕ, List, true, Ok, Err, ⊤}
use Rattle.skopeo_outside.specs.LaneTold.{LaneTold}
use Rattle.skopeo_outside.specs.OnLanes.{LaneStep}
use Rattle.digest_reader.specs.declared.job.Job.{Job}
use Rattle.copy_workers.specs.declared.cause.Cause.{Cause}
use Rattle.transports.specs.declared.source.Source.{Source}
use Rattle.transports.specs.declared.dest.Dest.{Dest}
use Rattle.transports.specs.declared.dest.Dest.TheVariants as dest
use Rattle.transports.specs.declared.refusal.Refusal.{Refusal}
use Rattle.transports.specs.declared.refusal.Refusal.TheVariants.{NotAnImageDir}
use Rattle.transports.specs.Refusals.{is_free_cause, Blames}
use Rattle.transports.specs.Given.{BlobEnds}
use Rattle.transports.specs.Has.{HasBlob, IsReported, IsUntouched, MayTake, MayNotTake}
use Rattle.transports.specs.Fair.{Works}

-- a step that touches nothing
abbrev pub reading : {A : Type 0} → LaneStep Refusal A → LaneStep Refusal A
reading Ends old new r = Ends old new r × IsUntouched old new

-- the refusal of a destination that may not be replaced
abbrev pub refused : Dest → Refusal
refused (dest.Folder path) = NotAnImageDir path

-- the destination: it may be replaced, and nothing but it was worked at; or it is refused and nothing was touched
unfoldable pub taking : Dest → LaneStep Refusal ⊤
taking to old new (Ok done) = MayTake to old × Works to old new
taking to old new (Err e) = (e ≡ refused to) × MayNotTake to old × IsUntouched old new

-- a step at a destination that refuses nothing. (Place for what a registry answers.)
unfoldable pub putting : Dest → LaneStep Refusal ⊤
putting to old new (Ok done) = Unit {0}
putting to old new (Err e) = ⊥

-- how a job was done on a lane: the destination has the blob, and reported it or got it from the source, which gave it whole
pub record IsDone (source : Source) (dest : Dest) (job : Job) (old new : LaneTold) : Type 0 where
  pub has : HasBlob dest job old new
  pub how : IsReported dest job old new ⊎ ((bytes : List ℕ) × BlobEnds source job old new (Ok bytes))

-- a free cause, which shows what it blames
pub record FailsFreely (cause : Cause) (old new : LaneTold) : Type 0 where
  pub free : is_free_cause cause ≡ true
  pub blames : Blames cause old new

-- why a job failed on a lane: a fault of the lane's own objects that rose, want of memory, or what its source gave. (Place
-- for what a registry answered as a destination.)
abbrev pub FailsBy : Source → Job → Cause → LaneTold → LaneTold → Type 0
FailsBy source job cause old new = FailsFreely cause old new ⊎ BlobEnds source job old new (Err cause)
