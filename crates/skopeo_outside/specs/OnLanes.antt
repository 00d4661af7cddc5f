-- Steps of one lane and of all lanes, and the course of a whole call.
use Rattle.std.specs.Prelude.{◌≡◌, Bool, Result}
use Rattle.skopeo_outside.specs.LaneTold.{LaneTold, IsLater}
use Rattle.skopeo_outside.specs.LaneLaws.{later_then, each_same, each_then}
use Rattle.skopeo_outside.specs.Seen.{Seen, OnFirst, OnEach, KeepsFrom}
use Rattle.skopeo_outside.specs.Steps.{Step, Course, Ends}

-- a step of one lane, and a step of the whole outside
abbrev pub LaneStep : Type 0 → Type 0 → Type 1
LaneStep E A = Step LaneTold E A

abbrev pub SeenStep : Type 0 → Type 0 → Type 1
SeenStep E A = Step Seen E A

-- a step of the first lane, in its course; the other lanes and the helper rest
unfoldable pub on_first : {E A : Type 0} → Course LaneTold E → LaneStep E A → SeenStep E A
on_first course step old new r = OnFirst (λ a b. Ends course step a b r) old.lanes new.lanes × KeepsFrom 1 old.lanes new.lanes × (new.helper ≡ old.helper)

-- the course of a call: each lane goes on; what may come at any step is want of memory alone, which blames nothing
abbrev pub lanes_course : {E : Type 0} → (E → Bool) → Course Seen E
lanes_course {E} is_memory = record {
  is_free = is_memory;
  Later = λ old new. OnEach (λ place a b. IsLater a b) old.lanes new.lanes;
  Shows = λ e old new. Unit {0};
  later_same = λ a. each_same a.lanes;
  later_then = λ a b c r s. each_then (λ place x y. IsLater x y) (λ place x y. IsLater x y) (λ place x y. IsLater x y) (λ place x y z p q. later_then x y z p q) a.lanes b.lanes c.lanes r s;
  shows_earlier = λ e a b c r s. tt;
}
