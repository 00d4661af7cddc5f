use Rattle.std.proofs.Common.{◌≡◌, ◌≤◌, ◌++◌, List, vec_capacity, vec_len}
use Rattle.location_cache.specs.declared.cache.CacheRow.{CacheRow}
use Rattle.location_cache.specs.Rows.{most_rows, HasKept}
use Rattle.location_cache.proofs.cache.Cache.new.Given as goal

abbrev pub invariant-loop-row : goal.invariant-loop-row
invariant-loop-row l = record {
  room : most_rows ≤ vec_capacity l.rows;
  kept : (newer : List CacheRow) × (l.rest.items ++ newer ≡ l.fn.loaded) × HasKept l.seen l.rows.items newer;
}

abbrev pub decreases-loop-row : goal.decreases-loop-row
decreases-loop-row l = vec_len l.rest
