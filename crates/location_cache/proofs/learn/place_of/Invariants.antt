use Rattle.std.proofs.Common.{◌≡◌, false, take}
use Rattle.location_cache.specs.Rows.{has_row}
use Rattle.location_cache.proofs.learn.place_of.Given as goal

abbrev pub invariant-loop-place : goal.invariant-loop-place
invariant-loop-place l = has_row (take l.place l.rows) l.row ≡ false
