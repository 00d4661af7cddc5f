-- What is written of an OCI image is read again, and said.
use Rattle.std.proofs.Common.{◌≡◌, ℕ, List, Result, Ok, Err, refl, sym, ap, ◌∙◌}
use Rattle.std.specs.Prelude.{IfOk}
use Rattle.json_tree.specs.Tree.{tree}
use Rattle.manifest_v2s2.specs.Image.{image_of}
use Rattle.manifest_v2s2.specs.Writable.{IsWritable}
use Rattle.manifest_v2s2.specs.declared.image.Image.{Image}
use Rattle.manifest_v2s2.specs.declared.kind.Kind.{Kind}
use Rattle.manifest_v2s2.specs.declared.kind.Kind.TheVariants.{Oci}
use Rattle.skopeo_outside.specs.declared.stop.Memory.{Memory}
use Rattle.manifest_v2s2.proofs.IsImageLemmas.{image-said}
use Rattle.manifest_oci.specs.OciImage.{SaysOciImage}
use Rattle.manifest_oci.specs.Calls.{IsWritableOci}

-- it is read again as an OCI image
pub again-oci : (i : Image) (r : Result (List ℕ) Memory) → IsWritableOci i → (IsWritable i → IfOk r (λ b. image_of i.kind (tree b) ≡ Ok i)) → IfOk r (λ b. image_of Oci (tree b) ≡ Ok i)
again-oci i (Ok b) w h = sym (ap (λ (k : Kind). image_of k (tree b)) w.kind) ∙ h w.writable
again-oci i (Err e) w h = h w.writable

-- and said of it
pub said-oci : (i : Image) (r : Result (List ℕ) Memory) → IsWritableOci i → (IsWritable i → IfOk r (λ b. image_of i.kind (tree b) ≡ Ok i)) → IfOk r (λ b. SaysOciImage (tree b) i)
said-oci i (Ok b) w h = image-said Oci refl (tree b) i (again-oci i (Ok b) w h)
said-oci i (Err e) w h = h w.writable
