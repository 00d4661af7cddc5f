-- What fetched bytes are: of which kind, and which image.
use Rattle.std.specs.Prelude.{Result, Ok, Err}
use Rattle.skopeo_outside.specs.declared.words.Fetched.{Fetched}
use Rattle.json_tree.specs.Tree.{tree, pointer}
use Rattle.json_tree.specs.Checked.{Checked}
use Rattle.manifest_v2s2.specs.declared.image.Image.{Image}
use Rattle.manifest_v2s2.specs.declared.kind.Kind.{Kind}
use Rattle.manifest_v2s2.specs.declared.kind.Kind.TheVariants.{V2s2, V2s2List, Oci, OciIndex}
use Rattle.manifest_v2s2.specs.Image.{image_of}
use Rattle.manifest_convert.specs.Kinds.{kind_of}
use Rattle.transports.specs.declared.refusal.Part.TheVariants as part
use Rattle.transports.specs.declared.refusal.Refusal.{Refusal}
use Rattle.transports.specs.declared.refusal.Refusal.TheVariants.{NotBuilt, ManifestInvalid}

-- copies are built for images of either kind, which are kept as they are
abbrev pub built : Checked Kind → Result Kind Refusal
built (Ok V2s2) = Ok V2s2
built (Ok V2s2List) = Err (NotBuilt part.Manifest)
built (Ok Oci) = Ok Oci
built (Ok OciIndex) = Err (NotBuilt part.Manifest)
built (Err path) = Err (ManifestInvalid (pointer path))

abbrev pub or_invalid : Checked Image → Result Image Refusal
or_invalid (Ok image) = Ok image
or_invalid (Err path) = Err (ManifestInvalid (pointer path))

-- what the fetched bytes are
unfoldable pub kind_in : Fetched → Result Kind Refusal
kind_in fetched = built (kind_of fetched.content_type (tree fetched.bytes))

unfoldable pub image_in : Kind → Fetched → Result Image Refusal
image_in kind fetched = or_invalid (image_of kind (tree fetched.bytes))
