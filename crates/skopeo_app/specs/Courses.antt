-- The courses of the command's steps: on one lane, on all lanes, and with the output.
use Rattle.std.proofs.Common.{arith}
use Rattle.skopeo_outside.specs.LaneTold.{LaneTold, IsLater}
use Rattle.skopeo_outside.specs.LaneLaws.{later_same, later_then}
use Rattle.skopeo_outside.specs.Seen.{Seen}
use Rattle.skopeo_outside.specs.Steps.{Step, Course}
use Rattle.skopeo_outside.specs.OnLanes.{lanes_course}
use Rattle.transports.specs.Courses as of_image
use Rattle.skopeo_app.specs.declared.refusal.CommandRefusal.{CommandRefusal}
use Rattle.skopeo_app.specs.declared.refusal.CommandRefusal.TheVariants as refusal
use Rattle.skopeo_app.specs.Refusals.{is_free, is_memory, Shows}
use Rattle.skopeo_app.specs.Sinks.{SinkTold, IsLaterSink}

pub shows_earlier : (e : CommandRefusal) (a b c : LaneTold) → IsLater a b → Shows e b c → Shows e a c
shows_earlier (refusal.Image e) a b c later f = of_image.shows_earlier e a b c later f
shows_earlier (refusal.Words place kind) a b c later f = tt
shows_earlier (refusal.Reference text fault) a b c later f = tt
shows_earlier (refusal.SamePlace path) a b c later f = tt
shows_earlier (refusal.NotBuilt what) a b c later f = tt
shows_earlier (refusal.PolicyMissing path) a b c later f = tt
shows_earlier (refusal.PolicyInvalid path kind member) a b c later f = tt
shows_earlier refusal.PolicyTooLarge a b c later f = tt
shows_earlier (refusal.ConfMissing path) a b c later f = tt
shows_earlier (refusal.ConfInvalid path fault) a b c later f = tt
shows_earlier refusal.ConfTooLarge a b c later f = tt
shows_earlier (refusal.Output count) a b c later f = tt

-- one lane
unfoldable pub lane_course : Course LaneTold CommandRefusal
lane_course = record { is_free = is_free; Later = IsLater; Shows = Shows; later_same = later_same; later_then = later_then; shows_earlier = shows_earlier }

-- all lanes
abbrev pub seen_course : Course Seen CommandRefusal
seen_course = lanes_course is_memory

-- what the command's objects tell at one moment: the lanes, and the output
pub record CommandTold : Type 0 where
  pub seen : Seen
  pub out : SinkTold

-- a step of the command
abbrev pub CommandStep : Type 0 → Type 1
CommandStep A = Step CommandTold CommandRefusal A

-- the command's objects later: so are the lanes, and the output
pub record IsLaterTold (old new : CommandTold) : Type 0 where
  pub seen : seen_course.Later old.seen new.seen
  pub out : IsLaterSink old.out new.out

sink_same : (a : SinkTold) → IsLaterSink a a
sink_same a = record { faults = omega arith; wants = omega arith }

sink_then : (a b c : SinkTold) → IsLaterSink a b → IsLaterSink b c → IsLaterSink a c
sink_then a b c r s = record {
  faults = (let x = r.faults in let y = s.faults in omega arith);
  wants = (let x = r.wants in let y = s.wants in omega arith);
}

pub told_same : (a : CommandTold) → IsLaterTold a a
told_same a = record { seen = seen_course.later_same a.seen; out = sink_same a.out }

pub told_then : (a b c : CommandTold) → IsLaterTold a b → IsLaterTold b c → IsLaterTold a c
told_then a b c r s = record { seen = seen_course.later_then a.seen b.seen c.seen r.seen s.seen; out = sink_then a.out b.out c.out r.out s.out }

-- the command: the lanes and the output go on; what may come at any step is want of memory alone
unfoldable pub command_course : Course CommandTold CommandRefusal
command_course = record { is_free = is_memory; Later = IsLaterTold; Shows = λ e old new. Unit {0}; later_same = told_same; later_then = told_then; shows_earlier = λ e a b c r s. tt }
