use Rattle.std.proofs.Common.{◌≡◌, ◌≤◌, length, map, take, drop, reverse}
use Rattle.location_cache.specs.Offers.{repositories}
use Rattle.location_cache.proofs.candidates.offered.Given as goal

abbrev pub invariant-loop-left : goal.invariant-loop-left
invariant-loop-left l = record {
  within : l.left ≤ length l.rows;
  few : l.count ≤ 4;
  size : length l.found ≡ 4;
  found : take l.count (map (λ s. s.now) l.found) ≡ reverse (repositories l.host l.digest l.except (drop l.left l.rows));
}

abbrev pub decreases-loop-left : goal.decreases-loop-left
decreases-loop-left l = l.left
