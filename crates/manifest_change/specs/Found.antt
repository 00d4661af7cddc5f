-- What a media type becomes, as the code finds it.
use Rattle.std.specs.Prelude.{ℕ, List, Bool, true, false, if◌then◌else◌, Option, Some, None}
use Rattle.std.specs.Str.{bytes_eq}
use Rattle.manifest_v2s2.specs.declared.kind.Kind.{Kind}
use Rattle.manifest_change.specs.declared.rows.TypeRow.{TypeRow}
use Rattle.manifest_change.specs.declared.rows.TypeRow.TheVariants.{Manifest, ImageConfig, Tar, TarGzip, TarZstd, Foreign, ForeignGzip, ForeignZstd}
use Rattle.manifest_change.specs.Rows.{schema2_type, oci_type, type_in}

-- it is the text that is there
abbrev pub is_there : List ℕ → Option (List ℕ) → Bool
is_there media None = false
is_there media (Some text) = bytes_eq media text

-- the type stands in the row, in either column
abbrev pub has_type : TypeRow → List ℕ → Bool
has_type row media = if bytes_eq media (oci_type row) then true else is_there media (schema2_type row)

-- the row's type of that kind, where the type stands in the row
abbrev pub type_by : TypeRow → Kind → List ℕ → Option (List ℕ)
type_by row to media = if has_type row media then type_in to row else None

-- what an image's media type becomes in lists of that kind
abbrev pub manifest_type : Kind → List ℕ → Option (List ℕ)
manifest_type to media = type_by Manifest to media

-- what a config's type becomes
abbrev pub config_type : Kind → List ℕ → Option (List ℕ)
config_type to media = type_by ImageConfig to media

-- what a layer's type becomes
unfoldable pub layer_type : Kind → List ℕ → Option (List ℕ)
layer_type to media =
    if has_type Tar media then type_in to Tar
    else if has_type TarGzip media then type_in to TarGzip
    else if has_type TarZstd media then type_in to TarZstd
    else if has_type Foreign media then type_in to Foreign
    else if has_type ForeignGzip media then type_in to ForeignGzip
    else type_by ForeignZstd to media
