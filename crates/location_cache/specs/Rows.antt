-- The rows of a location cache: in which repositories of which registries blobs were seen, oldest first.
use Rattle.std.specs.Prelude.{◌≡◌, ℕ, ◌-◌, ◌≤◌, List, [], ◌∷◌, Bool, ◌&&◌, if◌then◌else◌, length, drop, reverse}
use Rattle.std.specs.List.{list_any}
use Rattle.std.specs.Str.{bytes_eq}
use Rattle.std.specs.declared.cmp.Ordering.{Ordering}
use Rattle.std.specs.Ordering.{ordering_then, nat_cmp}
use Rattle.std.specs.Cmp.Lexicographic.{slice_cmp}
use Rattle.std.specs.BTreeSet.{BTreeSet, contains}
use Rattle.location_cache.specs.declared.cache.CacheRow.{CacheRow}

-- the most rows that a cache holds
abbrev pub most_rows : ℕ
most_rows = 4096

-- rows of one host, digest and repository
abbrev pub same_row : CacheRow → CacheRow → Bool
same_row x y = bytes_eq x.host y.host && (bytes_eq x.digest y.digest && bytes_eq x.repository y.repository)

-- the row is one of these
abbrev pub has_row : List CacheRow → CacheRow → Bool
has_row rows row = list_any (λ x. same_row x row) rows

-- each row once, at its last place
abbrev pub lasts : List CacheRow → List CacheRow
lasts [] = []
lasts (row ∷ rows) = if has_row rows row then lasts rows else row ∷ lasts rows

-- each row once, at its last place, and of these the last 4,096
abbrev pub kept_rows : List CacheRow → List CacheRow
kept_rows rows = drop (length (lasts rows) - most_rows) (lasts rows)

-- rows that a cache may hold: each once, and at most 4,096
pub record AreKept (rows : List CacheRow) : Type 0 where
  pub once : lasts rows ≡ rows
  pub few : length rows ≤ most_rows

-- rows stand in the order of host, digest, repository
abbrev pub row_cmp : CacheRow → CacheRow → Ordering
row_cmp x y =
    ordering_then (slice_cmp nat_cmp x.host y.host)
    (ordering_then (slice_cmp nat_cmp x.digest y.digest) (slice_cmp nat_cmp x.repository y.repository))

-- the set has these rows, and the list those of them that are kept, newest first
pub record HasKept (seen : BTreeSet CacheRow) (kept rows : List CacheRow) : Type 0 where
  pub rows_are : (row : CacheRow) → contains row_cmp seen row ≡ has_row rows row
  pub kept_are : kept ≡ reverse (kept_rows rows)
