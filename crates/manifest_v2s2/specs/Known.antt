-- Digests with the sizes that earlier descriptors give them (docs/manifests.md, "Descriptors").
use Rattle.std.specs.Prelude.{◌≡◌, ◌≢◌, ◌⊎◌, ℕ, List, [], ◌∷◌, Bool, true, ◌==◌, if◌then◌else◌, Option, Some, None}
use Rattle.std.specs.Ordering.{nat_cmp}
use Rattle.std.specs.Str.{bytes_eq}
use Rattle.std.specs.BTreeMap.{get}
use Rattle.std.specs.Cmp.Lexicographic.{slice_cmp}
use Rattle.manifest_v2s2.specs.declared.sizes.Known.{Known}
use Rattle.manifest_v2s2.specs.declared.sizes.Sizes.{Sizes}

-- some of these descriptors gives the digest another size
abbrev pub Differs : List Known → List ℕ → ℕ → Type 0
Differs [] digest size = ⊥
Differs (k ∷ known) digest size = ((k.digest ≡ digest) × (k.size ≢ size)) ⊎ Differs known digest size

-- the size that the first of these descriptors gives the digest
abbrev pub first_size : List Known → List ℕ → Option ℕ
first_size [] digest = None
first_size (k ∷ known) digest = if bytes_eq k.digest digest then Some k.size else first_size known digest

-- a size agrees with the first one, where there is one
abbrev pub agrees : Option ℕ → ℕ → Bool
agrees None size = true
agrees (Some first) size = first == size

-- the map has the first size of each digest of these descriptors
pub record AreFirstSizes (sizes : Sizes) (known : List Known) : Type 0 where
  pub same : (digest : List ℕ) → get (slice_cmp nat_cmp) sizes.first digest ≡ first_size known digest
