-- A lane's step ahead of the gate.
use Rattle.std.proofs.Common.{◌≤◌, ℕ, Bool, true, false, Result, Ok, Err, refl, arith}
use Rattle.skopeo_outside.specs.LaneTold.{LaneTold, IsLater}
use Rattle.skopeo_outside.specs.Helper.{Runs}
use Rattle.skopeo_outside.specs.Steps.{◌>>=◌, EndsBy, Ends}
use Rattle.skopeo_outside.specs.OnLanes.{LaneStep}
use Rattle.skopeo_outside.proofs.StepLemmas.{then_ends, then_stops}
use Rattle.transports.specs.declared.refusal.Refusal.{Refusal}
use Rattle.transports.specs.Refusals.{is_memory}
use Rattle.transports.specs.Courses.{lane_course}
use Rattle.admission.specs.GateTold.{GateTold, GateStep, IsLaterGate, gate_course, told_at, on_lane}

-- a lane goes on, and the helper rests
lane_on : {A : Type 0} (p : LaneStep Refusal A) (a b : LaneTold) (runs : Runs) (faults : ℕ) (r : Result A Refusal) → Ends lane_course p a b r → IsLaterGate (told_at a runs faults) (told_at b runs faults)
unfolding Ends lane_course
lane_on p a b runs faults r end = record { lane = end.later; helper = omega arith }

-- what a lane's step came to, as a step of the lane and the helper
on_ends : {A : Type 0} (p : LaneStep Refusal A) (a b : LaneTold) (runs : Runs) (faults : ℕ) (r : Result A Refusal) → Ends lane_course p a b r → Ends gate_course (on_lane p) (told_at a runs faults) (told_at b runs faults) r
unfolding Ends gate_course on_lane
on_ends p a b runs faults (Ok x) end = record { later = lane_on p a b runs faults (Ok x) end; ends = (end, refl) }
on_ends {A} p a b runs faults (Err e) end = record { later = lane_on p a b runs faults (Err e) end; ends = by (is_memory e) }
  where
    by : (f : Bool) → EndsBy {A = A} f gate_course e (on_lane p) (told_at a runs faults) (told_at b runs faults)
    by true = tt
    by false = (end, refl)

-- then the gate's
pub read_goes : {A B : Type 0} (p : LaneStep Refusal A) (q : A → GateStep B) (a b : LaneTold) (c : GateTold) (runs : Runs) (faults : ℕ) (x : A) (r : Result B Refusal) → Ends lane_course p a b (Ok x) → Ends gate_course (q x) (told_at b runs faults) c r
    → Ends gate_course (on_lane p >>= q) (told_at a runs faults) c r
read_goes p q a b c runs faults x r one two = then_ends gate_course (on_lane p) q (told_at a runs faults) (told_at b runs faults) c x r (on_ends p a b runs faults (Ok x) one) two

-- a refusal ends the walk
pub read_stops : {A B : Type 0} (p : LaneStep Refusal A) (q : A → GateStep B) (a b : LaneTold) (runs : Runs) (faults : ℕ) (e : Refusal) → Ends lane_course p a b (Err e) → Ends gate_course (on_lane p >>= q) (told_at a runs faults) (told_at b runs faults) (Err e)
read_stops p q a b runs faults e one = then_stops gate_course (on_lane p) q (told_at a runs faults) (told_at b runs faults) e (on_ends p a b runs faults (Err e) one)
