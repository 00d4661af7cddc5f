-- The laws of what a destination has.
use Rattle.std.proofs.Common.{◌∙◌}
use Rattle.skopeo_outside.specs.LaneTold.{LaneTold, IsLater}
use Rattle.skopeo_outside.specs.LaneLaws.{told_then}
use Rattle.digest_reader.specs.declared.job.Job.{Job}
use Rattle.transports.specs.declared.dest.Dest.{Dest}
use Rattle.transports.specs.declared.dest.Dest.TheVariants.{Folder}
use Rattle.transports.specs.Has.{StandsIn, HasBlob, KeepsBlobs, IsReported, IsUntouched}

-- what it has by two states it has by wider ones
pub has_earlier : (dest : Dest) (job : Job) (a b c : LaneTold) → IsLater a b → HasBlob dest job b c → HasBlob dest job a c
unfolding HasBlob
has_earlier (Folder path) job a b c later has = told_then (λ _ _. Unit {0}) (λ x y. StandsIn path job y) (λ x y. StandsIn path job y) (λ x y z p q. q) a.files.tree b.files.tree c.files.tree later.files.tells has

pub keeps_then : (dest : Dest) (job : Job) (a b c : LaneTold) → KeepsBlobs dest job a b → KeepsBlobs dest job b c → KeepsBlobs dest job a c
keeps_then dest job a b c r s = λ other first apart has. s other first apart (r other first apart has)

pub untouched_then : (a b c : LaneTold) → IsUntouched a b → IsUntouched b c → IsUntouched a c
untouched_then a b c r s = record { files = s.files ∙ r.files; to = s.to ∙ r.to }

-- what the destination reported it reported between wider states
pub reported_earlier : (dest : Dest) (job : Job) (a b c : LaneTold) → IsLater a b → IsReported dest job b c → IsReported dest job a c
unfolding IsReported
reported_earlier (Folder path) job a b c later has = has

pub reported_later : (dest : Dest) (job : Job) (a b c : LaneTold) → IsReported dest job a b → IsReported dest job a c
unfolding IsReported
reported_later (Folder path) job a b c has = absurd has
