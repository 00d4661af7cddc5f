-- What the outside has told at one moment of a call: all lanes, and the helper.
-- An object that tells nothing has None in its place. A fact on content is said of what is told, by `Told` between two
-- moments and by `IfSome` at one; so it is said once, in the smallest facts, and no record above them speaks of None.
use Rattle.std.specs.Prelude.{◌≡◌, ◌<◌, ◌≤◌, ℕ, List, [], ◌∷◌, length, Option, Some, slice_get}
use Rattle.skopeo_outside.specs.LaneTold.{LaneTold}
use Rattle.skopeo_outside.specs.Helper.{Runs}

-- what a helper tells: its runs, and its count of faults
pub record HelperTold : Type 0 where
  pub runs : Runs
  pub faults : ℕ

-- the lanes in order, and the helper
pub record Seen : Type 0 where
  pub lanes : List LaneTold
  pub helper : HelperTold

-- what lanes and a helper tell
abbrev pub seen : List LaneTold → Runs → ℕ → Seen
seen lanes runs faults = record { lanes = lanes; helper = record { runs = runs; faults = faults } }

-- a relation of the first lane before and after
abbrev pub OnFirst : (LaneTold → LaneTold → Type 0) → List LaneTold → List LaneTold → Type 0
OnFirst R [] new = Unit {0}
OnFirst R (a ∷ old) [] = ⊥
OnFirst R (a ∷ old) (b ∷ new) = R a b

-- a relation of each lane before and after, by its place
pub record OnEach (R : ℕ → LaneTold → LaneTold → Type 0) (old new : List LaneTold) : Type 0 where
  pub count : length new ≡ length old
  pub each : (place : ℕ) (a b : LaneTold) → slice_get old place ≡ Some a → slice_get new place ≡ Some b → R place a b

-- a relation of some lane before and after, with its place
pub record OnSome (R : ℕ → LaneTold → LaneTold → Type 0) (old new : List LaneTold) : Type 0 where
  pub place : ℕ
  pub before : LaneTold
  pub after : LaneTold
  pub was : slice_get old place ≡ Some before
  pub now : slice_get new place ≡ Some after
  pub holds : R place before after

-- the lanes from this place on are as they were
pub record KeepsFrom (count : ℕ) (old new : List LaneTold) : Type 0 where
  pub same : length new ≡ length old
  pub rest : (place : ℕ) → count ≤ place → slice_get new place ≡ slice_get old place

-- 1 to 16 lanes, each numbered by its place
pub record AreLanes (lanes : List LaneTold) : Type 0 where
  pub some : 0 < length lanes
  pub few : length lanes ≤ 16
  pub numbered : (place : ℕ) (lane : LaneTold) → slice_get lanes place ≡ Some lane → lane.number ≡ place
