-- What writing a manifest's blob and then the index leaves.
use Rattle.std.proofs.Common.{◌≡◌, ◌∙◌, List, ℕ, Option, Some, None, ◌⊎◌, inl, inr, refl, sym, subst}
use Rattle.skopeo_outside.specs.Tree.{Tree, file_at}
use Rattle.skopeo_outside.specs.Outside.{Told}
use Rattle.layouts.specs.Trees.{OnlyAt, IsPut}
use Rattle.oci_layout.specs.Layout.{index_path, index_part, blob_path, manifest_part}
use Rattle.oci_layout.specs.Written.{AreBothPut, IsNotEntered}
use Rattle.oci_layout.proofs.PathLemmas.{index_part-apart, index-not_blob, index_part-not_blob, manifest_part-not_blob, index-not_manifest_part, index_part-not_manifest_part}

both_put : (folder digest bytes text : List ℕ) (a b c : Tree) → IsPut (manifest_part folder digest) (blob_path folder digest) bytes a b → IsPut (index_part folder) (index_path folder) text b c → AreBothPut folder digest bytes text a c
both_put folder digest bytes text a b c x y = record {
  index = y.there;
  blob = y.others (blob_path folder digest) (λ e. index_part-not_blob folder digest (sym e)) (λ e. index-not_blob folder digest (sym e)) ∙ x.there;
  blob_gone =
      y.others (manifest_part folder digest) (λ e. index_part-not_manifest_part folder digest (sym e)) (λ e. index-not_manifest_part folder digest (sym e))
      ∙ x.gone (manifest_part-not_blob folder digest digest);
  index_gone = y.gone (index_part-apart folder);
  others = λ q apart other. y.others q apart.part other ∙ x.others q apart.blob_part apart.blob;
  folders = y.folders ∙ x.folders;
}

none_entered : (folder digest bytes : List ℕ) (t : Tree) → IsNotEntered folder digest bytes t t
none_entered folder digest bytes t = record { index = refl; blob = inl refl; others = λ q apart. refl; folders = refl }

blob_cut : (folder digest bytes : List ℕ) (a b : Tree) → OnlyAt (manifest_part folder digest) a b → IsNotEntered folder digest bytes a b
blob_cut folder digest bytes a b only = record {
  index = only.files (index_path folder) (index-not_manifest_part folder digest);
  blob = inl (only.files (blob_path folder digest) (λ e. manifest_part-not_blob folder digest digest (sym e)));
  others = λ q apart. only.files q apart.blob_part;
  folders = only.folders;
}

index_cut : (folder digest bytes : List ℕ) (a b c : Tree) → IsPut (manifest_part folder digest) (blob_path folder digest) bytes a b → OnlyAt (index_part folder) b c → IsNotEntered folder digest bytes a c
index_cut folder digest bytes a b c x y = record {
  index =
      y.files (index_path folder) (λ e. index_part-apart folder (sym e))
      ∙ x.others (index_path folder) (index-not_manifest_part folder digest) (index-not_blob folder digest);
  blob = inr (y.files (blob_path folder digest) (λ e. index_part-not_blob folder digest (sym e)) ∙ x.there);
  others = λ q apart. y.files q apart.part ∙ x.others q apart.blob_part apart.blob;
  folders = y.folders ∙ x.folders;
}

-- ---- the same of what is told

pub told_both : (folder digest bytes text : List ℕ) (a b c : Option Tree) → Told (IsPut (manifest_part folder digest) (blob_path folder digest) bytes) a b → Told (IsPut (index_part folder) (index_path folder) text) b c → Told (AreBothPut folder digest bytes text) a c
told_both folder digest bytes text None b c x y = tt
told_both folder digest bytes text (Some t) None c x y = absurd x
told_both folder digest bytes text (Some t) (Some m) None x y = absurd y
told_both folder digest bytes text (Some t) (Some m) (Some n) x y = both_put folder digest bytes text t m n x y

pub told_none_entered : (folder digest bytes : List ℕ) (a b : Option Tree) → b ≡ a → Told (IsNotEntered folder digest bytes) a b
told_none_entered folder digest bytes None b e = tt
told_none_entered folder digest bytes (Some t) b e = subst (λ o. Told (IsNotEntered folder digest bytes) (Some t) o) (sym e) (none_entered folder digest bytes t)

pub told_blob_cut : (folder digest bytes : List ℕ) (a b : Option Tree) → Told (OnlyAt (manifest_part folder digest)) a b → Told (IsNotEntered folder digest bytes) a b
told_blob_cut folder digest bytes None b x = tt
told_blob_cut folder digest bytes (Some t) None x = absurd x
told_blob_cut folder digest bytes (Some t) (Some n) x = blob_cut folder digest bytes t n x

pub told_index_cut : (folder digest bytes : List ℕ) (a b c : Option Tree) → Told (IsPut (manifest_part folder digest) (blob_path folder digest) bytes) a b → Told (OnlyAt (index_part folder)) b c → Told (IsNotEntered folder digest bytes) a c
told_index_cut folder digest bytes None b c x y = tt
told_index_cut folder digest bytes (Some t) None c x y = absurd x
told_index_cut folder digest bytes (Some t) (Some m) None x y = absurd y
told_index_cut folder digest bytes (Some t) (Some m) (Some n) x y = index_cut folder digest bytes t m n x y
