-- Lanes that are made one after the other, each numbered by its place.
use Rattle.std.proofs.Common.{◌≡◌, ◌≤◌, ◌<◌, ◌+◌, ◌∷◌, ◌++◌, [], List, ℕ, zero, suc, length, Some, None, slice_get, sym, ap, ◌∙◌, arith}
use Rattle.skopeo_outside.specs.LaneTold.{LaneTold}
use Rattle.skopeo_outside.specs.Seen.{AreLanes}
use Rattle.skopeo_app.specs.Numbered.{AreNumberedFrom, AreNumbered}

more_from : (n : ℕ) (lanes : List LaneTold) (lane : LaneTold) → AreNumberedFrom n lanes → lane.number ≡ n + length lanes → AreNumberedFrom n (lanes ++ lane ∷ [])
more_from n [] lane so is = (omega (arith, is), tt)
more_from n (l ∷ lanes) lane so is = (so.0, more_from (n + 1) lanes lane so.1 (omega (arith, is)))

pub one_more : (lanes : List LaneTold) (lane : LaneTold) → AreNumbered lanes → lane.number ≡ length lanes → AreNumbered (lanes ++ lane ∷ [])
one_more lanes lane so is = record { from = more_from 0 lanes lane so.from (omega (arith, is)) }

at_place : (n place : ℕ) (lanes : List LaneTold) (lane : LaneTold) → AreNumberedFrom n lanes → slice_get lanes place ≡ Some lane → lane.number ≡ n + place
at_place n place [] lane so e = let no : None ≡ Some lane = e in cc
at_place n zero (l ∷ lanes) lane so e = let same : Some l ≡ Some lane = e in let is : l ≡ lane = cc in sym (ap (λ x. x.number) is) ∙ so.0 ∙ omega arith
at_place n (suc place) (l ∷ lanes) lane so e = at_place (n + 1) place lanes lane so.1 e ∙ omega arith

-- 1 to 16 of them are lanes
pub are_lanes : (lanes : List LaneTold) → 0 < length lanes → length lanes ≤ 16 → AreNumbered lanes → AreLanes lanes
are_lanes lanes some few so = record {
  some = some;
  few = few;
  numbered = λ place lane e. at_place 0 place lanes lane so.from e ∙ omega arith;
}
