-- The courses of one lane's steps, of a job's steps, and of a whole call.
use Rattle.skopeo_outside.specs.LaneTold.{LaneTold, IsLater}
use Rattle.skopeo_outside.specs.LaneLaws.{later_same, later_then, files_earlier, wire_earlier}
use Rattle.skopeo_outside.specs.Seen.{Seen}
use Rattle.skopeo_outside.specs.Steps.{Course}
use Rattle.skopeo_outside.specs.OnLanes.{lanes_course}
use Rattle.copy_workers.specs.declared.cause.Cause.{Cause}
use Rattle.copy_workers.specs.declared.cause.Cause.TheVariants as cause
use Rattle.transports.specs.declared.refusal.Refusal.{Refusal}
use Rattle.transports.specs.declared.refusal.Refusal.TheVariants as refusal
use Rattle.transports.specs.Refusals.{is_free_cause, is_free, is_memory, Blames, Shows}

pub blames_earlier : (e : Cause) (a b c : LaneTold) → IsLater a b → Blames e b c → Blames e a c
blames_earlier (cause.Files count) a b c later f = files_earlier count a b c later f
blames_earlier (cause.Wire count) a b c later f = wire_earlier count a b c later f
blames_earlier (cause.TlsRequired host) a b c later f = tt
blames_earlier (cause.BlobMismatch m) a b c later f = tt
blames_earlier (cause.BlobAbsent digest) a b c later f = tt
blames_earlier (cause.DestRefused step code) a b c later f = tt
blames_earlier (cause.TooLarge what length) a b c later f = tt
blames_earlier (cause.BadAnswer step bytes) a b c later f = tt
blames_earlier (cause.SourceRefused step code) a b c later f = tt
blames_earlier (cause.Encoded step) a b c later f = tt
blames_earlier (cause.TooManyRedirects step) a b c later f = tt
blames_earlier cause.Memory a b c later f = tt

pub shows_earlier : (e : Refusal) (a b c : LaneTold) → IsLater a b → Shows e b c → Shows e a c
shows_earlier (refusal.Files count) a b c later f = files_earlier count a b c later f
shows_earlier (refusal.Wire count) a b c later f = wire_earlier count a b c later f
shows_earlier (refusal.Job number reason) a b c later f = tt
shows_earlier (refusal.BadReference text fault) a b c later f = tt
shows_earlier (refusal.ShortName text count) a b c later f = tt
shows_earlier (refusal.Blocked number) a b c later f = tt
shows_earlier (refusal.NoSource attempts) a b c later f = tt
shows_earlier (refusal.NotBuilt p) a b c later f = tt
shows_earlier (refusal.NotAnImageDir p) a b c later f = tt
shows_earlier (refusal.TooLarge w n) a b c later f = tt
shows_earlier (refusal.ManifestInvalid m) a b c later f = tt
shows_earlier (refusal.Rejected s p w) a b c later f = tt
shows_earlier (refusal.Garbled status front) a b c later f = tt
shows_earlier (refusal.BadAnswer s front) a b c later f = tt
shows_earlier (refusal.LookasideRefused number status) a b c later f = tt
shows_earlier (refusal.Encoded s) a b c later f = tt
shows_earlier (refusal.TooManyRedirects s) a b c later f = tt
shows_earlier (refusal.TlsRequired host) a b c later f = tt
shows_earlier (refusal.Helper count) a b c later f = tt
shows_earlier refusal.Memory a b c later f = tt

-- one lane, whose faults are told by their count
unfoldable pub lane_course : Course LaneTold Refusal
lane_course = record { is_free = is_free; Later = IsLater; Shows = Shows; later_same = later_same; later_then = later_then; shows_earlier = shows_earlier }

-- a job on one lane
unfoldable pub job_course : Course LaneTold Cause
job_course = record { is_free = is_free_cause; Later = IsLater; Shows = Blames; later_same = later_same; later_then = later_then; shows_earlier = blames_earlier }

-- a call over all lanes, in which faults are told by steps of one lane or by jobs
abbrev pub call_course : Course Seen Refusal
call_course = lanes_course is_memory
