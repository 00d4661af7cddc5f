-- The image that a tree says as an OCI image manifest (OCI Image Specification 1.1, "OCI Image Manifest Specification";
-- docs/manifests.md, "OCI images"): one of the kinds of images, with the words that all of them share.
use Rattle.std.specs.Prelude.{Option}
use Rattle.serde_json.specs.Data.{Data}
use Rattle.manifest_v2s2.specs.IsImage.{SaysImage}
use Rattle.manifest_v2s2.specs.declared.image.Image.{Image}
use Rattle.manifest_v2s2.specs.declared.kind.Kind.TheVariants.{Oci}

-- the tree is an OCI image manifest that says this image
abbrev pub SaysOciImage : Option Data → Image → Type 0
SaysOciImage tree = SaysImage Oci tree
