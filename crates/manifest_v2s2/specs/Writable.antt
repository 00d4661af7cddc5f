-- The images that are read again as they were (docs/manifests.md, "Writing").
use Rattle.std.specs.Prelude.{◌≡◌, ◌<◌, ◌^◌, ℕ, List, [], ◌∷◌, ◌++◌}
use Rattle.std.specs.Ordering.{nat_cmp}
use Rattle.std.specs.declared.cmp.Ordering.TheVariants.{Less}
use Rattle.std.specs.Cmp.Lexicographic.{slice_cmp}
use Rattle.skopeo_outside.specs.declared.pair.Pair.{Pair}
use Rattle.manifest_v2s2.specs.Known.{Differs}
use Rattle.manifest_v2s2.specs.declared.descriptor.Descriptor.{Descriptor}
use Rattle.manifest_v2s2.specs.declared.sizes.Known.{Known}
use Rattle.manifest_v2s2.specs.declared.image.Image.{Image}

-- the name stands before those of all the pairs, in byte order
abbrev pub AreBelow : List ℕ → List Pair → Type 0
AreBelow k [] = Unit {0}
AreBelow k (p ∷ ps) = (slice_cmp nat_cmp k p.name ≡ Less) × AreBelow k ps

-- in byte order of names, each name once
abbrev pub AreInOrder : List Pair → Type 0
AreInOrder [] = Unit {0}
AreInOrder (p ∷ ps) = AreBelow p.name ps × AreInOrder ps

-- its size fits a descriptor, and its annotations stand in order
pub record IsWritableDescriptor (x : Descriptor) : Type 0 where
  pub size : x.size < 2 ^ 63
  pub annotations : AreInOrder x.annotations

-- its digest and its size
abbrev pub known_as : Descriptor → Known
known_as x = record { digest = x.digest; size = x.size }

-- each descriptor can be written and agrees with those before it
abbrev pub AreWritable : List Known → List Descriptor → Type 0
AreWritable known [] = Unit {0}
AreWritable known (x ∷ xs) = IsWritableDescriptor x × ((Differs known x.digest x.size → ⊥) × AreWritable (known ++ known_as x ∷ []) xs)

-- each descriptor can be written, and those of one digest have one size
pub record IsWritable (i : Image) : Type 0 where
  pub config : IsWritableDescriptor i.config
  pub layers : AreWritable (known_as i.config ∷ []) i.layers
