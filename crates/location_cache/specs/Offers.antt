-- The repositories that a cache offers for a blob at a registry.
use Rattle.std.specs.Prelude.{ℕ, List, Bool, not, ◌&&◌, map, take, reverse}
use Rattle.std.specs.List.{filter}
use Rattle.std.specs.Str.{bytes_eq}
use Rattle.location_cache.specs.declared.cache.CacheRow.{CacheRow}

module _ (host digest except : List ℕ) where
  -- the row is of this host and digest, and not of this repository
  abbrev pub is_offered : CacheRow → Bool
  is_offered row = bytes_eq row.host host && (bytes_eq row.digest digest && not (bytes_eq row.repository except))

  -- the repositories of such rows, in order
  abbrev pub repositories : List CacheRow → List (List ℕ)
  repositories rows = map (λ row. row.repository) (filter is_offered rows)

  -- newest first, at most 4
  abbrev pub candidates : List CacheRow → List (List ℕ)
  candidates rows = take 4 (reverse (repositories rows))
