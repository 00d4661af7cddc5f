-- A step of the first lane, as a step of all.
use Rattle.std.proofs.Common.{Bool, true, false, ◌≡◌, ◌≤◌, ◌<◌, ℕ, zero, suc, List, [], ◌∷◌, length, slice_index_or, slice_set, Option, Some, None, Result, Ok, Err, slice_get, refl, sym, subst, ◌∙◌, arith}
use Rattle.skopeo_outside.specs.LaneTold.{LaneTold, IsLater}
use Rattle.skopeo_outside.specs.LaneLaws.{later_same}
use Rattle.skopeo_outside.specs.Seen.{Seen, HelperTold, OnEach, OnFirst, KeepsFrom}
use Rattle.skopeo_outside.specs.Steps.{Step, Course, EndsBy, EndsOf, Ends}
use Rattle.skopeo_outside.specs.OnLanes.{LaneStep, on_first, lanes_course}

abbrev with : List LaneTold → HelperTold → Seen
with lanes helper = record { lanes = lanes; helper = helper }

some_same : {A : Type 0} (t u : A) → Some t ≡ Some u → t ≡ u
some_same t u e = cc

module _ (x y : LaneTold) (rest : List LaneTold) where
  -- a relation of the first lane that holds of each other lane and itself
  pub each_first : (R : ℕ → LaneTold → LaneTold → Type 0) → ((place : ℕ) (a : LaneTold) → R place a a) → R 0 x y → OnEach R (x ∷ rest) (y ∷ rest)
  each_first R same first = record { count = refl; each = each }
    where
      each : (place : ℕ) (a b : LaneTold) → slice_get (x ∷ rest) place ≡ Some a → slice_get (y ∷ rest) place ≡ Some b → R place a b
      each zero a b ea eb = subst (λ v. R 0 v b) (some_same x a ea) (subst (λ v. R 0 x v) (some_same y b eb) first)
      each (suc place) a b ea eb = subst (R (suc place) a) (some_same a b (sym ea ∙ eb)) (same (suc place) a)

  pub keeps_rest : KeepsFrom 1 (x ∷ rest) (y ∷ rest)
  keeps_rest = record { same = refl; rest = kept }
    where
      kept : (place : ℕ) → 1 ≤ place → slice_get (y ∷ rest) place ≡ slice_get (x ∷ rest) place
      kept zero le = absurd (omega arith)
      kept (suc place) le = refl

module _ {E : Type 0} (is_memory : E → Bool) (course : Course LaneTold E) where
  -- what a lane's step came to, in a course in which lanes go on
  pub first_ends : {A : Type 0} (goes_on : (a b : LaneTold) → course.Later a b → IsLater a b) (x y : LaneTold) (rest : List LaneTold) (helper : HelperTold) (step : LaneStep E A) (r : Result A E)
      → Ends course step x y r → Ends (lanes_course is_memory) (on_first course step) (with (x ∷ rest) helper) (with (y ∷ rest) helper) r
  unfolding Ends on_first
  first_ends {A} goes_on x y rest helper step r one = record { later = each_first x y rest (λ place a b. IsLater a b) (λ place a. later_same a) (goes_on x y one.later); ends = ends r one }
    where
      ends : (r : Result A E) → Ends course step x y r → EndsOf (lanes_course is_memory) (on_first course step) (with (x ∷ rest) helper) (with (y ∷ rest) helper) r
      ends (Ok v) one = (one, keeps_rest x y rest, refl)
      ends (Err e) one = by (is_memory e)
        where
          by : (f : Bool) → EndsBy {A = A} f (lanes_course is_memory) e (on_first course step) (with (x ∷ rest) helper) (with (y ∷ rest) helper)
          by true = tt
          by false = (one, keeps_rest x y rest, refl)

  -- the same of a list whose first lane is set
  pub first_set : {A : Type 0} (goes_on : (a b : LaneTold) → course.Later a b → IsLater a b) (step : LaneStep E A) (old : List LaneTold) (x y : LaneTold) (helper : HelperTold) (r : Result A E)
      → 0 < length old → slice_index_or old 0 x ≡ x → Ends course step x y r → Ends (lanes_course is_memory) (on_first course step) (with old helper) (with (slice_set old 0 y) helper) r
  first_set goes_on step [] x y helper r some is one = absurd (omega arith)
  first_set goes_on step (a ∷ rest) x y helper r some is one = first_ends goes_on a y rest helper step r (subst (λ v. Ends course step v y r) (sym is) one)

-- relations of the first lane, of a list in which it is set
pub set_first : (R : LaneTold → LaneTold → Type 0) (old : List LaneTold) (x y : LaneTold) → slice_index_or old 0 x ≡ x → R x y → OnFirst R old (slice_set old 0 y)
set_first R [] x y is one = tt
set_first R (a ∷ rest) x y is one = subst (λ v. R v y) (sym is) one

pub set_each : (R : ℕ → LaneTold → LaneTold → Type 0) → ((place : ℕ) (a : LaneTold) → R place a a) → (old : List LaneTold) (x y : LaneTold) → slice_index_or old 0 x ≡ x → R 0 x y → OnEach R old (slice_set old 0 y)
set_each R same [] x y is one = record { count = refl; each = λ place a b ea eb. (let no : None ≡ Some a = ea in cc) }
set_each R same (a ∷ rest) x y is one = each_first a y rest R same (subst (λ v. R 0 v y) (sym is) one)

pub set_keeps : (old : List LaneTold) (y : LaneTold) → KeepsFrom 1 old (slice_set old 0 y)
set_keeps [] y = record { same = refl; rest = λ place le. refl }
set_keeps (a ∷ rest) y = keeps_rest a y rest
