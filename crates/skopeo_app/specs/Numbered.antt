-- Lanes that are numbered by their places.
use Rattle.std.specs.Prelude.{◌≡◌, ◌+◌, ◌∷◌, [], List, ℕ}
use Rattle.skopeo_outside.specs.LaneTold.{LaneTold}

-- the first of the lanes has this number, and each further one the next
abbrev pub AreNumberedFrom : ℕ → List LaneTold → Type 0
AreNumberedFrom n [] = Unit {0}
AreNumberedFrom n (lane ∷ lanes) = (lane.number ≡ n) × AreNumberedFrom (n + 1) lanes

-- lanes that are numbered from 0
pub record AreNumbered (lanes : List LaneTold) : Type 0 where
  pub from : AreNumberedFrom 0 lanes
