-- What happened somewhere between two told states of a lane.
use Rattle.skopeo_outside.specs.LaneTold.{LaneTold, IsLater}

-- a relation of two told states, both between these two
pub record Within (R : LaneTold → LaneTold → Type 0) (old new : LaneTold) : Type 0 where
  pub first : LaneTold
  pub last : LaneTold
  pub before : IsLater old first
  pub is : R first last
  pub after : IsLater last new
