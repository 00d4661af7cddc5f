-- Which refusals may come at any step, and what these show.
use Rattle.std.specs.Prelude.{ℕ, Bool, true, false}
use Rattle.skopeo_outside.specs.LaneTold.{LaneTold, BlamesFiles, BlamesWire}
use Rattle.copy_workers.specs.declared.cause.Cause.{Cause}
use Rattle.copy_workers.specs.declared.cause.Cause.TheVariants as cause
use Rattle.transports.specs.declared.refusal.Refusal.{Refusal}
use Rattle.transports.specs.declared.refusal.Refusal.TheVariants as refusal

-- want of memory, or a fault of the lane's files or wires
abbrev pub is_free_cause : Cause → Bool
is_free_cause (cause.Files count) = true
is_free_cause (cause.Wire count) = true
is_free_cause cause.Memory = true
is_free_cause _ = false

-- the same of a step of one lane; a job's number is told by the jobs' step alone, so a job's fault comes at no other
abbrev pub is_free : Refusal → Bool
is_free refusal.Memory = true
is_free (refusal.Files count) = true
is_free (refusal.Wire count) = true
is_free _ = false

-- want of memory, which may come at any step of a call
abbrev pub is_memory : Refusal → Bool
is_memory refusal.Memory = true
is_memory _ = false

-- what a job's free cause shows on its lane
abbrev pub Blames : Cause → LaneTold → LaneTold → Type 0
Blames (cause.Files count) old new = BlamesFiles count old new
Blames (cause.Wire count) old new = BlamesWire count old new
Blames _ old new = Unit {0}

-- what a free refusal shows on its lane
abbrev pub Shows : Refusal → LaneTold → LaneTold → Type 0
Shows (refusal.Files count) old new = BlamesFiles count old new
Shows (refusal.Wire count) old new = BlamesWire count old new
Shows _ old new = Unit {0}

-- the refusal that a job's cause is
abbrev pub by_cause : ℕ → Cause → Refusal
by_cause number cause.Memory = refusal.Memory
by_cause number reason = refusal.Job number reason
