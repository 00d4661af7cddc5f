-- A step of the first lane, and relations of the first lane, over all lanes.
use Rattle.std.proofs.Common.{◌≡◌, ◌∙◌, ◌⊎◌, ◌≤◌, ◌<◌, ℕ, zero, suc, Bool, true, false, List, [], ◌∷◌, length, slice_get, slice_set, slice_index_or, Some, None, Result, Ok, Err, inl, inr, refl, sym, subst, arith}
use Rattle.skopeo_outside.specs.LaneTold.{LaneTold, IsLater}
use Rattle.skopeo_outside.specs.LaneLaws.{lane_at, later_same}
use Rattle.skopeo_outside.specs.Helper.{Runs}
use Rattle.skopeo_outside.specs.Seen.{OnFirst, OnEach, KeepsFrom, AreLanes, seen}
use Rattle.skopeo_outside.specs.Steps.{EndsBy, EndsOf, Ends}
use Rattle.skopeo_outside.specs.OnLanes.{LaneStep, on_first}
use Rattle.skopeo_outside.proofs.FirstLemmas.{first_set, each_first, keeps_rest}
use Rattle.transports.specs.declared.refusal.Refusal.{Refusal}
use Rattle.transports.specs.Refusals.{is_memory}
use Rattle.transports.specs.Courses.{lane_course, call_course}
use Rattle.admission.specs.GateTold.{GateStep, gate_course, told_at}
use Rattle.copy_engine.specs.Walk.{at_gate}

-- what a step of the first lane came to, in a list in which that lane is set
pub ends_set : {A : Type 0} (step : LaneStep Refusal A) (old : List LaneTold) (x y : LaneTold) (r : Result A Refusal) → Ends lane_course step x y r → slice_index_or old 0 x ≡ x → 0 < length old → Ends call_course (on_first lane_course step) (seen old None 0) (seen (slice_set old 0 y) None 0) r
unfolding lane_course
ends_set step old x y r one is some = first_set is_memory lane_course (λ a b later. later) step old x y (record { runs = None; faults = 0 }) r some is one

-- ---- a step of the first lane and the helper

module _ (x y : LaneTold) (rest : List LaneTold) (was is : Runs) (few many : ℕ) where
  gate_ends : {A : Type 0} (step : GateStep A) (r : Result A Refusal) → Ends gate_course step (told_at x was few) (told_at y is many) r → Ends call_course (at_gate step) (seen (x ∷ rest) was few) (seen (y ∷ rest) is many) r
  unfolding Ends gate_course at_gate
  gate_ends {A} step r one = record { later = each_first x y rest (λ place a b. IsLater a b) (λ place a. later_same a) one.later.lane; ends = ends r one }
    where
      ends : (r : Result A Refusal) → Ends gate_course step (told_at x was few) (told_at y is many) r → EndsOf call_course (at_gate step) (seen (x ∷ rest) was few) (seen (y ∷ rest) is many) r
      ends (Ok v) one = (one, keeps_rest x y rest)
      ends (Err e) one = by (is_memory e)
        where
          by : (f : Bool) → EndsBy {A = A} f call_course e (at_gate step) (seen (x ∷ rest) was few) (seen (y ∷ rest) is many)
          by true = tt
          by false = (one, keeps_rest x y rest)

-- what it came to, in a list in which that lane is set
pub gate_set : {A : Type 0} (step : GateStep A) (old : List LaneTold) (x y : LaneTold) (was is : Runs) (few many : ℕ) (r : Result A Refusal)
    → Ends gate_course step (told_at x was few) (told_at y is many) r → slice_index_or old 0 x ≡ x → 0 < length old → Ends call_course (at_gate step) (seen old was few) (seen (slice_set old 0 y) is many) r
gate_set step [] x y was is few many r one same some = absurd (omega arith)
gate_set step (a ∷ rest) x y was is few many r one same some = gate_ends a y rest was is few many step r (subst (λ v. Ends gate_course step (told_at v was few) (told_at y is many) r) (sym same) one)

-- ---- relations of the first lane

pub first_then : (R S T : LaneTold → LaneTold → Type 0) → ((a b c : LaneTold) → R a b → S b c → T a c) → (x y z : List LaneTold) → OnFirst R x y → OnFirst S y z → OnFirst T x z
first_then R S T step [] y z r s = tt
first_then R S T step (a ∷ x) [] z r s = absurd r
first_then R S T step (a ∷ x) (b ∷ y) [] r s = absurd s
first_then R S T step (a ∷ x) (b ∷ y) (c ∷ z) r s = step a b c r s

pub first_with : (R S : LaneTold → LaneTold → Type 0) → ((a b : LaneTold) → R a b → S a b) → (x y : List LaneTold) → OnFirst R x y → OnFirst S x y
first_with R S step [] y r = tt
first_with R S step (a ∷ x) [] r = r
first_with R S step (a ∷ x) (b ∷ y) r = step a b r

-- what holds of each lane holds of the first
pub first_of : (R : ℕ → LaneTold → LaneTold → Type 0) → (x y : List LaneTold) → OnEach R x y → OnFirst (R 0) x y
first_of R [] y each = tt
first_of R (a ∷ x) [] each = let e : 0 ≡ length (a ∷ x) = each.count in absurd (omega arith)
first_of R (a ∷ x) (b ∷ y) each = each.each 0 a b refl refl

-- ---- lanes from a place on

pub keeps_wider : (few many : ℕ) (x y : List LaneTold) → few ≤ many → KeepsFrom few x y → KeepsFrom many x y
keeps_wider few many x y le kept = record { same = kept.same; rest = λ place past. kept.rest place (omega arith) }

-- where the first lane alone was touched, a relation of the others goes on from what they were
pub others_of : (R : LaneTold → LaneTold → Type 0) (x y z : List LaneTold) → KeepsFrom 1 x y → OnEach (λ place a b. R a b) y z → OnEach (λ place a b. (place ≡ 0) ⊎ R a b) x z
others_of R x y z kept each = record { count = each.count ∙ kept.same; each = by }
  where
    by : (place : ℕ) (a c : LaneTold) → slice_get x place ≡ Some a → slice_get z place ≡ Some c → (place ≡ 0) ⊎ R a c
    by zero a c ea ec = inl refl
    by (suc place) a c ea ec = inr (each.each (suc place) a c (kept.rest (suc place) (omega arith) ∙ ea) ec)

-- lanes that went on are lanes
pub lanes_later : (x y : List LaneTold) → OnEach (λ place a b. IsLater a b) x y → AreLanes x → AreLanes y
lanes_later x y later are = record {
  some = (let n = later.count in let s = are.some in omega arith);
  few = (let n = later.count in let f = are.few in omega arith);
  numbered = λ place b at. (let m = lane_at y x place b (sym later.count) at in (later.each place m.0 b m.1 at).number ∙ are.numbered place m.0 m.1);
}

pub first_both : (R S : LaneTold → LaneTold → Type 0) → (x y : List LaneTold) → OnFirst R x y → OnFirst S x y → OnFirst (λ a b. R a b × S a b) x y
first_both R S [] y r s = tt
first_both R S (a ∷ x) [] r s = r
first_both R S (a ∷ x) (b ∷ y) r s = (r, s)

-- what holds of the lanes behind the first holds of them still where the first alone was touched
pub others_kept : (R : LaneTold → LaneTold → Type 0) (x y z : List LaneTold) → OnEach (λ place a b. (place ≡ 0) ⊎ R a b) x y → KeepsFrom 1 y z → OnEach (λ place a b. (place ≡ 0) ⊎ R a b) x z
others_kept R x y z each kept = record { count = kept.same ∙ each.count; each = by }
  where
    by : (place : ℕ) (a c : LaneTold) → slice_get x place ≡ Some a → slice_get z place ≡ Some c → (place ≡ 0) ⊎ R a c
    by zero a c ea ec = inl refl
    by (suc place) a c ea ec = each.each (suc place) a c ea (sym (kept.rest (suc place) (omega arith)) ∙ ec)
