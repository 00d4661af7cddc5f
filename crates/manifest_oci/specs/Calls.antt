-- Which values a writer has to keep.
use Rattle.std.specs.Prelude.{◌≡◌}
use Rattle.manifest_v2s2.specs.Writable.{IsWritable}
use Rattle.manifest_v2s2.specs.declared.image.Image.{Image}
use Rattle.manifest_v2s2.specs.declared.kind.Kind.TheVariants.{Oci}

-- an OCI image that is read again as it was: sizes fit, annotations in order, one size for each digest
pub record IsWritableOci (i : Image) : Type 0 where
  pub kind : i.kind ≡ Oci
  pub writable : IsWritable i
