-- What the first lane and the helper tell while an image is judged, and the course of that.
use Rattle.std.proofs.Common.{arith}
use Rattle.std.specs.Prelude.{◌≡◌, ◌≤◌, ℕ, Result}
use Rattle.skopeo_outside.specs.LaneTold.{LaneTold, IsLater}
use Rattle.skopeo_outside.specs.LaneLaws.{later_same, later_then}
use Rattle.skopeo_outside.specs.Helper.{Runs}
use Rattle.skopeo_outside.specs.Seen.{HelperTold}
use Rattle.skopeo_outside.specs.Steps.{Step, Course, Ends}
use Rattle.skopeo_outside.specs.OnLanes.{LaneStep}
use Rattle.transports.specs.declared.refusal.Refusal.{Refusal}
use Rattle.transports.specs.Refusals.{is_memory}
use Rattle.transports.specs.Courses.{lane_course}

-- a lane, and the helper
pub record GateTold : Type 0 where
  pub lane : LaneTold
  pub helper : HelperTold

abbrev pub told_at : LaneTold → Runs → ℕ → GateTold
told_at lane runs faults = record { lane = lane; helper = record { runs = runs; faults = faults } }

-- a step of a lane and the helper
abbrev pub GateStep : Type 0 → Type 1
GateStep A = Step GateTold Refusal A

-- both later
pub record IsLaterGate (old new : GateTold) : Type 0 where
  pub lane : IsLater old.lane new.lane
  pub helper : old.helper.faults ≤ new.helper.faults

pub gate_same : (a : GateTold) → IsLaterGate a a
gate_same a = record { lane = later_same a.lane; helper = omega arith }

pub gate_then : (a b c : GateTold) → IsLaterGate a b → IsLaterGate b c → IsLaterGate a c
gate_then a b c r s = record { lane = later_then a.lane b.lane c.lane r.lane s.lane; helper = (let x = r.helper in let y = s.helper in omega arith) }

-- what may come at any step is want of memory alone
unfoldable pub gate_course : Course GateTold Refusal
gate_course = record { is_free = is_memory; Later = IsLaterGate; Shows = λ e old new. Unit {0}; later_same = gate_same; later_then = gate_then; shows_earlier = λ e a b c r s. tt }

-- a step of the lane, in its course; the helper rests
unfoldable pub on_lane : {A : Type 0} → LaneStep Refusal A → GateStep A
on_lane step old new r = Ends lane_course step old.lane new.lane r × (new.helper ≡ old.helper)
