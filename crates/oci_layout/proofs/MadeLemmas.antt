-- A destination judged and made.
use Rattle.std.proofs.Common.{◌≡◌, ◌∙◌, List, [], ◌∷◌, ◌+◌, codes, ℕ, Bool, true, false, cond, length, nat_le, Option, Some, None, Result, Ok, Err, IfSome, Contains, ◌⊎◌, inl, inr, refl, sym, ap, subst, arith}
use Rattle.std.specs.Prelude.{⊤}
use Rattle.std.specs.Option.{option_map, unwrap_or}
use Rattle.std.proofs.lemmas.List.Elements.{Contains-append_right}
use Rattle.skopeo_outside.specs.Tree.{Tree, file_at, with_folder}
use Rattle.skopeo_outside.specs.Outside.{Told}
use Rattle.json_tree.specs.Tree.{tree}
use Rattle.layouts.specs.declared.fault.LayoutFault.{LayoutFault}
use Rattle.layouts.specs.declared.fault.LayoutFault.TheVariants.{LayoutInvalid, TooLarge}
use Rattle.skopeo_outside.specs.declared.words.What.TheVariants as what
use Rattle.layouts.specs.Bounds.{limit, limited}
use Rattle.layouts.specs.Trees.{OnlyAt, IsPut, MakesOnly}
use Rattle.layouts.specs.Faults.{Answers}
use Rattle.layouts.proofs.FolderLemmas.{same_folders, then_folders, made_folder}
use Rattle.oci_index.specs.Version.{layout_text, says_version}
use Rattle.oci_layout.specs.Layout.{layout_path, layout_part, index_path, blobs_folder}
use Rattle.oci_layout.specs.Source.{followed}
use Rattle.oci_layout.specs.Destination.{layout_judged, kept_index, destination_judged, MayReplace, IsMade, IsReady, IsHalfReady}
use Rattle.oci_layout.proofs.PathLemmas.{layout_part-apart}

here : (folder : List ℕ) → Contains (folder ∷ []) folder
here folder = (0, omega arith, refl)

stands : (folder : List ℕ) (t : Tree) → Contains (with_folder t folder).folders folder
stands folder t = Contains-append_right t.folders (folder ∷ []) folder (here folder)

-- the folder alone
folder_made : (folder : List ℕ) (t : Tree) → IsMade folder false t (with_folder t (blobs_folder folder))
folder_made folder t = record {
  made = stands (blobs_folder folder) t;
  folders = made_folder (blobs_folder folder) t;
  written = λ e. absurd (no e);
  gone = λ e. absurd (no e);
  kept = λ e q. refl;
  others = λ q p r. refl;
}
  where
    no : false ≡ true → ⊥
    no e = cc e

-- the folder, and then the file
both_made : (folder : List ℕ) (t n : Tree) → IsPut (layout_part folder) (layout_path folder) layout_text (with_folder t (blobs_folder folder)) n → IsMade folder true t n
both_made folder t n put = record {
  made = subst (λ l. Contains l (blobs_folder folder)) (sym put.folders) (stands (blobs_folder folder) t);
  folders = then_folders (blobs_folder folder) t (with_folder t (blobs_folder folder)) n (made_folder (blobs_folder folder) t) (same_folders (blobs_folder folder) (with_folder t (blobs_folder folder)) n put.folders);
  written = λ e. put.there;
  gone = λ e. put.gone (layout_part-apart folder);
  kept = λ e. absurd (no e);
  others = λ q p r. put.others q r p;
}
  where
    no : true ≡ false → ⊥
    no e = cc e

half_none : (folder : List ℕ) (t : Tree) → IsHalfReady folder t t
half_none folder t = record { files = λ q p. refl; folders = same_folders (blobs_folder folder) t t refl }

half_cut : (folder : List ℕ) (t n : Tree) → OnlyAt (layout_part folder) (with_folder t (blobs_folder folder)) n → IsHalfReady folder t n
half_cut folder t n only = record {
  files = only.files;
  folders = then_folders (blobs_folder folder) t (with_folder t (blobs_folder folder)) n (made_folder (blobs_folder folder) t) (same_folders (blobs_folder folder) (with_folder t (blobs_folder folder)) n only.folders);
}

-- ---- the same of what is told

pub told_folder : (folder : List ℕ) (a b : Option Tree) → b ≡ option_map (λ t. with_folder t (blobs_folder folder)) a → Told (IsMade folder false) a b
told_folder folder None b e = tt
told_folder folder (Some t) b e = subst (λ o. Told (IsMade folder false) (Some t) o) (sym e) (folder_made folder t)

pub told_folder_alone : (folder : List ℕ) (absent : Bool) (a b : Option Tree) → absent ≡ false → b ≡ option_map (λ t. with_folder t (blobs_folder folder)) a → Told (IsMade folder absent) a b
told_folder_alone folder true a b is e = cc is
told_folder_alone folder false a b is e = told_folder folder a b e

pub told_both_made : (folder : List ℕ) (a b c : Option Tree) → b ≡ option_map (λ t. with_folder t (blobs_folder folder)) a → Told (IsPut (layout_part folder) (layout_path folder) layout_text) b c → Told (IsMade folder true) a c
told_both_made folder None b c e put = tt
told_both_made folder (Some t) b c e put = by c (subst (λ o. Told (IsPut (layout_part folder) (layout_path folder) layout_text) o c) e put)
  where
    by : (c : Option Tree) → Told (IsPut (layout_part folder) (layout_path folder) layout_text) (Some (with_folder t (blobs_folder folder))) c → Told (IsMade folder true) (Some t) c
    by None h = h
    by (Some n) h = both_made folder t n h

pub told_both_there : (folder : List ℕ) (absent : Bool) (a b c : Option Tree) → absent ≡ true → b ≡ option_map (λ t. with_folder t (blobs_folder folder)) a → Told (IsPut (layout_part folder) (layout_path folder) layout_text) b c → Told (IsMade folder absent) a c
told_both_there folder true a b c is e put = told_both_made folder a b c e put
told_both_there folder false a b c is e put = cc is

pub told_half_none : (folder : List ℕ) (a b : Option Tree) → b ≡ a → Told (IsHalfReady folder) a b
told_half_none folder None b e = tt
told_half_none folder (Some t) b e = subst (λ o. Told (IsHalfReady folder) (Some t) o) (sym e) (half_none folder t)

pub told_half_cut : (folder : List ℕ) (a b c : Option Tree) → b ≡ option_map (λ t. with_folder t (blobs_folder folder)) a → Told (OnlyAt (layout_part folder)) b c → Told (IsHalfReady folder) a c
told_half_cut folder None b c e only = tt
told_half_cut folder (Some t) b c e only = by c (subst (λ o. Told (OnlyAt (layout_part folder)) o c) e only)
  where
    by : (c : Option Tree) → Told (OnlyAt (layout_part folder)) (Some (with_folder t (blobs_folder folder))) c → Told (IsHalfReady folder) (Some t) c
    by None h = h
    by (Some n) h = half_cut folder t n h

-- ---- a layout that was judged

then_ok : {A B : Type 0} (r : Result A LayoutFault) (next : A → Result B LayoutFault) (y : B) → followed r next ≡ Ok y → (a : A) × (r ≡ Ok a) × (next a ≡ Ok y)
then_ok (Ok a) next y h = (a, refl, h)
then_ok (Err e) next y h = cc h

-- whether `oci-layout` is absent is what is answered
judged_absent : (file : Option (List ℕ)) (absent : Bool) → layout_judged (limited file) ≡ Ok absent → ((absent ≡ true) × (file ≡ None)) ⊎ ((absent ≡ false) × ((bytes : List ℕ) × (file ≡ Some bytes)))
judged_absent None absent h = inl (sym (cc h), refl)
judged_absent (Some bytes) absent h = by (nat_le (length bytes) limit) refl
  where
    says : (b : Bool) → says_version (tree bytes) ≡ b → layout_judged (limited (Some bytes)) ≡ cond b (Ok false) (Err (LayoutInvalid (codes "/imageLayoutVersion"))) → absent ≡ false
    says true e k = cc (sym k ∙ h)
    says false e k = cc (sym k ∙ h)

    by : (b : Bool) → nat_le (length bytes) limit ≡ b → ((absent ≡ true) × (Some bytes ≡ None)) ⊎ ((absent ≡ false) × ((more : List ℕ) × (Some bytes ≡ Some more)))
    by true e = inr (says (says_version (tree bytes)) refl (rw e refl), (bytes, refl))
    by false e = let no : layout_judged (limited (Some bytes)) ≡ Err (TooLarge what.Index (limit + 1)) = rw e refl in cc (sym no ∙ h)

ready : (folder : List ℕ) (absent : Bool) (t n : Tree) → Ok absent ≡ destination_judged t folder → IsMade folder absent t n → IsReady folder t n
ready folder absent t n judged m =
    let first = then_ok (layout_judged (limited (file_at t (layout_path folder)))) _ absent (sym judged) in
    let second = then_ok (kept_index (limited (file_at t (index_path folder)))) _ absent first.2 in
    let same : first.0 ≡ absent = cc second.2 in
    by (judged_absent (file_at t (layout_path folder)) absent (first.1 ∙ ap Ok same))
  where
    by : ((absent ≡ true) × (file_at t (layout_path folder) ≡ None)) ⊎ ((absent ≡ false) × ((bytes : List ℕ) × (file_at t (layout_path folder) ≡ Some bytes))) → IsReady folder t n
    by (inl h) = record {
      made = m.made;
      layout = m.written h.0 ∙ sym (ap (λ f. Some (unwrap_or f layout_text)) h.1);
      part = inr (m.gone h.0);
      others = m.others;
      folders = m.folders;
    }
    by (inr h) = record {
      made = m.made;
      layout = m.kept h.0 (layout_path folder) ∙ h.1.1 ∙ sym (ap (λ f. Some (unwrap_or f layout_text)) h.1.1);
      part = inl (m.kept h.0 (layout_part folder));
      others = m.others;
      folders = m.folders;
    }

pub told_ready : (folder : List ℕ) (absent : Bool) (a b : Option Tree) → IfSome a (λ t. Answers {A = Bool} (λ r. r ≡ destination_judged t folder) (Ok absent)) → Told (IsMade folder absent) a b → Told (IsReady folder) a b
told_ready folder absent None b judged made = tt
told_ready folder absent (Some t) None judged made = absurd made
told_ready folder absent (Some t) (Some n) judged made = ready folder absent t n judged made

-- the answer of a destination that was judged
pub judged_answer : (folder : List ℕ) (absent : Bool) (a : Option Tree) → IfSome a (λ t. Answers {A = Bool} (λ r. r ≡ destination_judged t folder) (Ok absent)) → IfSome a (λ t. MayReplace t folder)
judged_answer folder absent None judged = tt
judged_answer folder absent (Some t) judged = ap (λ (r : Result Bool LayoutFault). followed {A = Bool} {B = ⊤} r (λ x. Ok tt)) judged
