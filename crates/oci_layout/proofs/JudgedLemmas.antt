-- A destination judged by its two files.
use Rattle.std.proofs.Common.{◌≡◌, ◌∙◌, List, ℕ, codes, Bool, true, false, cond, Option, Some, None, Result, Ok, Err, IfSome, ◌⊎◌, inl, inr, refl, sym, ap, subst}
use Rattle.std.specs.Prelude.{IfErr}
use Rattle.std.specs.Str.{is_utf8}
use Rattle.serde_json.specs.Data.{Data}
use Rattle.serde_json.specs.Read.{read}
use Rattle.serde_json.specs.Written.{compact_text}
use Rattle.serde_json.proofs.Nesting.{depth-read}
use Rattle.skopeo_outside.specs.Tree.{Tree, file_at}
use Rattle.json_tree.specs.declared.path.Step.{Step}
use Rattle.json_tree.specs.declared.tree.Parsed.{Parsed}
use Rattle.json_tree.specs.Parsed.{tree_of}
use Rattle.json_tree.specs.Tree.{tree}
use Rattle.manifest_v2s2.specs.declared.descriptor.Descriptor.{Descriptor}
use Rattle.layouts.specs.declared.fault.LayoutFault.{LayoutFault}
use Rattle.layouts.specs.declared.fault.LayoutFault.TheVariants as fault
use Rattle.layouts.specs.declared.read.Limited.{Limited}
use Rattle.layouts.specs.Bounds.{limited}
use Rattle.layouts.specs.Faults.{is_free, Answers}
use Rattle.oci_index.specs.declared.edit.NewEntry.{NewEntry}
use Rattle.oci_index.specs.Edited.{edited, IsWritable, IsWritableThere}
use Rattle.oci_index.specs.Index.{SaysIndex}
use Rattle.oci_index.specs.Reading.{index_of}
use Rattle.oci_index.specs.Version.{says_version}
use Rattle.oci_index.proofs.IndexLemmas.{index-said}
use Rattle.oci_layout.specs.Layout.{layout_path, index_path}
use Rattle.oci_layout.specs.Source.{followed, told, Tells, Finds, is_of_bytes}
use Rattle.oci_layout.specs.Destination.{layout_judged, layout_judged_bytes, kept_bytes, kept_tree, kept_index, destination_judged, Keeps}
use Rattle.oci_layout.specs.Written.{index_fitting, index_after}

-- ---- an index can be written again as it is

read_of : (bytes : List ℕ) (d : Data) (b : Bool) → is_utf8 bytes ≡ b → tree bytes ≡ Some d → read bytes ≡ Some d
read_of bytes d true e h = let same : tree bytes ≡ read bytes = ap (λ t. cond t (read bytes) None) e in sym same ∙ h
read_of bytes d false e h = let none : tree bytes ≡ None = ap (λ t. cond t (read bytes) None) e in cc (sym none ∙ h)

writable_by : (bytes : List ℕ) (o : Option Data) (xs : List Descriptor) → tree bytes ≡ o → SaysIndex o xs → IsWritableThere o
writable_by bytes None xs e h = tt
writable_by bytes (Some d) xs e h = record { whole = h.whole; shallow = depth-read bytes d (read_of bytes d (is_utf8 bytes) refl e) }

index-writable : (bytes : List ℕ) (xs : List Descriptor) → index_of (tree bytes) ≡ Ok xs → IsWritableThere (tree bytes)
index-writable bytes xs h = writable_by bytes (tree bytes) xs refl (index-said (tree bytes) xs h)

told_is : {A : Type 0} (x : Result A (List Step)) (a : A) → told x ≡ Ok a → x ≡ Ok a
told_is (Ok y) a h = cc h
told_is (Err p) a h = cc h

abbrev as_kept : Option Data → Result (Option Data) LayoutFault
as_kept o = Ok o

-- ---- what is kept of an index

pub kept_ok : (bytes : List ℕ) (parsed : Parsed) (xs : List Descriptor) → tree_of parsed ≡ tree bytes → Finds (told (index_of (tree_of parsed))) (Ok xs) → Keeps (kept_bytes bytes) (Ok (Some parsed))
kept_ok bytes parsed xs e h =
    let read : told (index_of (tree bytes)) ≡ Ok xs = ap (λ o. told (index_of o)) (sym e) ∙ h.answer in (
      ap (λ r. followed r (λ entries. Ok (tree bytes))) read ∙ ap (λ (o : Option Data). as_kept o) (sym e),
      subst IsWritableThere (sym e) (index-writable bytes xs (told_is (index_of (tree bytes)) xs read)),
    )

pub kept_err : (bytes : List ℕ) (o : Option Data) (f : LayoutFault) → o ≡ tree bytes → Finds (told (index_of o)) (Err f) → Keeps (kept_bytes bytes) (Err f)
kept_err bytes o f e h = by (h.answer)
  where
    by : (f ≡ fault.Memory) ⊎ (told (index_of o) ≡ Err f) → Keeps (kept_bytes bytes) (Err f)
    by (inl m) = inl m
    by (inr k) = inr (ap (λ r. followed r (λ entries. Ok (tree bytes))) (ap (λ x. told (index_of x)) (sym e) ∙ k))

-- ---- the bytes of `oci-layout`

pub layout_says : (bytes : List ℕ) (o : Option Data) → o ≡ tree bytes → true ≡ says_version o → Finds (layout_judged_bytes bytes) (Ok false)
layout_says bytes o e h = record { answer = rw (← e, ← h) refl; of_bytes = tt }

pub layout_lacks : (bytes : List ℕ) (o : Option Data) (member : List ℕ) → o ≡ tree bytes → false ≡ says_version o → member ≡ codes "/imageLayoutVersion" → Finds (layout_judged_bytes bytes) (Err (fault.LayoutInvalid member))
layout_lacks bytes o member e h m = record { answer = inr (rw (← e, ← h, m) refl); of_bytes = refl }

-- ---- both files of a tree

layout_refuses : (t : Tree) (folder : List ℕ) (file : Limited) (e : LayoutFault) → file ≡ limited (file_at t (layout_path folder)) → Finds (layout_judged file) (Err e) → Answers {A = Bool} (λ r. r ≡ destination_judged t folder) (Err e)
layout_refuses t folder file e is h = by h.answer
  where
    by : (e ≡ fault.Memory) ⊎ (layout_judged file ≡ Err e) → Answers {A = Bool} (λ r. r ≡ destination_judged t folder) (Err e)
    by (inl m) = inl (ap is_free m)
    by (inr k) = inr (sym (ap (λ r. followed r (λ absent. followed (kept_index (limited (file_at t (index_path folder)))) (λ index. Ok absent))) (ap layout_judged (sym is) ∙ k)))

pub layout_refused : (seen : Option Tree) (folder path : List ℕ) (file : Limited) (e : LayoutFault) → path ≡ layout_path folder → IfSome seen (λ t. file ≡ limited (file_at t path)) → Finds (layout_judged file) (Err e) → IfSome seen (λ t. Answers {A = Bool} (λ r. r ≡ destination_judged t folder) (Err e))
layout_refused None folder path file e p is h = tt
layout_refused (Some t) folder path file e p is h = layout_refuses t folder file e (is ∙ ap (λ q. limited (file_at t q)) p) h

judged_by : (t : Tree) (folder : List ℕ) (file : Limited) (absent : Bool) → file ≡ limited (file_at t (layout_path folder)) → Finds (layout_judged file) (Ok absent) → destination_judged t folder ≡ followed (kept_index (limited (file_at t (index_path folder)))) (λ index. Ok absent)
judged_by t folder file absent is h = ap (λ r. followed r (λ absent. followed (kept_index (limited (file_at t (index_path folder)))) (λ index. Ok absent))) (ap layout_judged (sym is) ∙ h.answer)

index_refuses : (t : Tree) (folder : List ℕ) (file other : Limited) (absent : Bool) (e : LayoutFault) → file ≡ limited (file_at t (layout_path folder)) → other ≡ limited (file_at t (index_path folder)) → Finds (layout_judged file) (Ok absent) → Keeps (kept_index other) (Err e) → Answers {A = Bool} (λ r. r ≡ destination_judged t folder) (Err e)
index_refuses t folder file other absent e is other_is h (inl m) = inl (ap is_free m)
index_refuses t folder file other absent e is other_is h (inr k) = inr (sym (judged_by t folder file absent is h ∙ ap (λ r. followed r (λ index. Ok absent)) (ap kept_index (sym other_is) ∙ k)))

pub index_refused : (seen later : Option Tree) (folder path place : List ℕ) (file other : Limited) (absent : Bool) (e : LayoutFault) → later ≡ seen → path ≡ layout_path folder → place ≡ index_path folder
    → IfSome seen (λ t. file ≡ limited (file_at t path)) → IfSome later (λ t. other ≡ limited (file_at t place)) → Finds (layout_judged file) (Ok absent) → Keeps (kept_index other) (Err e)
    → IfSome seen (λ t. Answers {A = Bool} (λ r. r ≡ destination_judged t folder) (Err e))
index_refused None later folder path place file other absent e same p q is other_is h k = tt
index_refused (Some t) later folder path place file other absent e same p q is other_is h k =
    let there : other ≡ limited (file_at t place) = subst (λ o. IfSome o (λ t. other ≡ limited (file_at t place))) same other_is in
    index_refuses t folder file other absent e (is ∙ ap (λ x. limited (file_at t x)) p) (there ∙ ap (λ x. limited (file_at t x)) q) h k

pub both_fine : (seen later : Option Tree) (folder path place : List ℕ) (file other : Limited) (absent : Bool) (kept : Option Parsed) → later ≡ seen → path ≡ layout_path folder → place ≡ index_path folder
    → IfSome seen (λ t. file ≡ limited (file_at t path)) → IfSome later (λ t. other ≡ limited (file_at t place)) → Finds (layout_judged file) (Ok absent) → Keeps (kept_index other) (Ok kept)
    → IfSome seen (λ t. Answers {A = Bool} (λ r. r ≡ destination_judged t folder) (Ok absent))
both_fine None later folder path place file other absent kept same p q is other_is h k = tt
both_fine (Some t) later folder path place file other absent kept same p q is other_is h k =
    let there : other ≡ limited (file_at t place) = subst (λ o. IfSome o (λ t. other ≡ limited (file_at t place))) same other_is in
    sym (judged_by t folder file absent (is ∙ ap (λ x. limited (file_at t x)) p) h
    ∙ ap (λ r. followed r (λ index. Ok absent)) (ap kept_index (sym (there ∙ ap (λ x. limited (file_at t x)) q)) ∙ k.0))

-- ---- the next index

pub keeps_refuse : (entry : NewEntry) (file : Limited) (e : LayoutFault) → Keeps (kept_index file) (Err e) → is_of_bytes e ≡ true → Finds (index_after entry file) (Err e)
keeps_refuse entry file e (inl m) b = record { answer = inl m; of_bytes = b }
keeps_refuse entry file e (inr k) b = record { answer = inr (ap (λ r. followed r (λ old. index_fitting (compact_text (edited old entry)))) k); of_bytes = b }

after_ok : (entry : NewEntry) (file : Limited) (kept : Option Parsed) (text : List ℕ) → Keeps (kept_index file) (Ok kept) → text ≡ compact_text (edited (kept_tree kept) entry) → index_after entry file ≡ index_fitting text
after_ok entry file kept text k e = ap (λ r. followed r (λ old. index_fitting (compact_text (edited old entry)))) k.0 ∙ ap index_fitting (sym e)

pub after_finds : (entry : NewEntry) (file : Limited) (kept : Option Parsed) (text : List ℕ) (r : Result (List ℕ) LayoutFault) → Keeps (kept_index file) (Ok kept) → text ≡ compact_text (edited (kept_tree kept) entry) → r ≡ index_fitting text → IfErr r (λ e. is_of_bytes e ≡ true) → Finds (index_after entry file) r
after_finds entry file kept text (Ok x) k e is b = record { answer = after_ok entry file kept text k e ∙ sym is; of_bytes = b }
after_finds entry file kept text (Err f) k e is b = record { answer = inr (after_ok entry file kept text k e ∙ sym is); of_bytes = b }
