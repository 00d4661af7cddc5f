-- Lanes that are lent for jobs, and what is said of all of them.
use Rattle.std.specs.Prelude.{◌≡◌, ◌++◌, ◌∷◌, [], ℕ, List, Result, IfOk, IfErr, All, length, map}
use Rattle.skopeo_outside.specs.LaneTold.{LaneTold}
use Rattle.digest_reader.specs.declared.job.Job.{Job}
use Rattle.copy_workers.specs.declared.receipt.JobFault.{JobFault}
use Rattle.transports.specs.declared.source.Source.{Source}
use Rattle.transports.specs.declared.dest.Dest.{Dest}
use Rattle.copy_workers.specs.Receipts.{Issued}
use Rattle.copy_workers.specs.Kept.{EachKeeps}
use Rattle.copy_workers.specs.Secured.{AreSecured, IsJobFault}
use Rattle.copy_jobs.specs.Lane.{LaneState, IsFresh, IsSound, lane_lore}

-- each is made of the lane at its place
abbrev pub AreFresh : Source → Dest → List LaneTold → List LaneState → Type 0
AreFresh source dest [] [] = Unit {0}
AreFresh source dest [] (s ∷ ss) = ⊥
AreFresh source dest (a ∷ ls) [] = ⊥
AreFresh source dest (a ∷ ls) (s ∷ ss) = IsFresh source dest a s × AreFresh source dest ls ss

-- the first of the lanes was lent
pub record IsLent (source : Source) (dest : Dest) (lanes rest : List LaneTold) (list more : List LaneState) : Type 0 where
  pub lane : LaneTold
  pub made : LaneState
  pub was : lanes ≡ lane ∷ rest
  pub now : more ≡ list ++ made ∷ []
  pub fresh : IsFresh source dest lane made

-- so many first lanes were lent
pub record AreLent (source : Source) (dest : Dest) (count : ℕ) (lanes rest : List LaneTold) (list : List LaneState) : Type 0 where
  pub first : List LaneTold
  pub was : lanes ≡ first ++ rest
  pub count_is : length first ≡ count
  pub fresh : AreFresh source dest first list

-- what came of the jobs on lanes that were lent and given back
pub record HasRun (source : Source) (dest : Dest) (jobs : List Job) (count : ℕ) (old new : List LaneTold) (outcome : Result (List Issued) JobFault) : Type 0 where
  pub starts : List LaneState
  pub ends : List LaneState
  pub rest : List LaneTold
  pub lent : AreLent source dest count old rest starts
  pub same : length ends ≡ length starts
  pub back : new ≡ map (λ s. s.lane) ends ++ rest
  pub sound : All IsSound ends
  pub kept : EachKeeps lane_lore jobs starts ends
  pub secured : IfOk outcome (AreSecured lane_lore jobs ends)
  pub fault : IfErr outcome (IsJobFault lane_lore jobs starts ends)
