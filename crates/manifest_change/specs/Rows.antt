-- The table of media types, and what a type becomes by it (docs/manifests.md, "Conversion").
use Rattle.std.specs.Prelude.{◌≡◌, ◌⊎◌, ℕ, codes, List, Option, Some, None}
use Rattle.manifest_v2s2.specs.declared.kind.Kind.{Kind}
use Rattle.manifest_v2s2.specs.declared.kind.Kind.TheVariants.{V2s2, V2s2List, Oci, OciIndex}
use Rattle.manifest_change.specs.declared.rows.TypeRow.{TypeRow}
use Rattle.manifest_change.specs.declared.rows.TypeRow.TheVariants.{Manifest, ImageConfig, Tar, TarGzip, TarZstd, Foreign, ForeignGzip, ForeignZstd}

-- the column of schema 2
abbrev pub schema2_type : TypeRow → Option (List ℕ)
schema2_type Manifest = Some (codes "application/vnd.docker.distribution.manifest.v2+json")
schema2_type ImageConfig = Some (codes "application/vnd.docker.container.image.v1+json")
schema2_type Tar = Some (codes "application/vnd.docker.image.rootfs.diff.tar")
schema2_type TarGzip = Some (codes "application/vnd.docker.image.rootfs.diff.tar.gzip")
schema2_type TarZstd = None
schema2_type Foreign = Some (codes "application/vnd.docker.image.rootfs.foreign.diff.tar")
schema2_type ForeignGzip = Some (codes "application/vnd.docker.image.rootfs.foreign.diff.tar.gzip")
schema2_type ForeignZstd = None

-- the column of OCI
abbrev pub oci_type : TypeRow → List ℕ
oci_type Manifest = codes "application/vnd.oci.image.manifest.v1+json"
oci_type ImageConfig = codes "application/vnd.oci.image.config.v1+json"
oci_type Tar = codes "application/vnd.oci.image.layer.v1.tar"
oci_type TarGzip = codes "application/vnd.oci.image.layer.v1.tar+gzip"
oci_type TarZstd = codes "application/vnd.oci.image.layer.v1.tar+zstd"
oci_type Foreign = codes "application/vnd.oci.image.layer.nondistributable.v1.tar"
oci_type ForeignGzip = codes "application/vnd.oci.image.layer.nondistributable.v1.tar+gzip"
oci_type ForeignZstd = codes "application/vnd.oci.image.layer.nondistributable.v1.tar+zstd"

-- the type that a row has in manifests of a kind
abbrev pub type_in : Kind → TypeRow → Option (List ℕ)
type_in V2s2 row = schema2_type row
type_in V2s2List row = schema2_type row
type_in Oci row = Some (oci_type row)
type_in OciIndex row = Some (oci_type row)

-- the row of images, as the entries of lists have them
abbrev pub IsManifestRow : TypeRow → Type 0
IsManifestRow row = row ≡ Manifest

-- the row of configs
abbrev pub IsConfigRow : TypeRow → Type 0
IsConfigRow row = row ≡ ImageConfig

-- the rows of layers
abbrev pub IsLayerRow : TypeRow → Type 0
IsLayerRow Manifest = ⊥
IsLayerRow ImageConfig = ⊥
IsLayerRow _ = Unit {0}

-- the type stands in the row, in either column
abbrev pub StandsIn : List ℕ → TypeRow → Type 0
StandsIn media row = (oci_type row ≡ media) ⊎ (schema2_type row ≡ Some media)

-- in manifests of the kind the type becomes the other one: a row of these has the one, and the other in the kind's column
pub record Becomes (IsRow : TypeRow → Type 0) (to : Kind) (media other : List ℕ) : Type 0 where
  pub row : TypeRow
  pub among : IsRow row
  pub stands : StandsIn media row
  pub is : type_in to row ≡ Some other

-- it becomes none
abbrev pub BecomesNone : (TypeRow → Type 0) → Kind → List ℕ → Type 0
BecomesNone IsRow to media = (other : List ℕ) → Becomes IsRow to media other → ⊥

-- it becomes some
abbrev pub BecomesSome : (TypeRow → Type 0) → Kind → List ℕ → Type 0
BecomesSome IsRow to media = (other : List ℕ) × Becomes IsRow to media other

-- it is a type of that kind
pub record IsTypeOf (IsRow : TypeRow → Type 0) (kind : Kind) (media : List ℕ) : Type 0 where
  pub row : TypeRow
  pub among : IsRow row
  pub is : type_in kind row ≡ Some media
