-- A destination folder that was emptied and made, and how steps at a folder end.
use Rattle.std.proofs.Common.{◌≡◌, ◌≢◌, ◌⊎◌, ◌∙◌, ◌≤◌, ℕ, List, codes, true, false, Option, Some, None, Ok, Err, IfSome, inl, inr, refl, sym, ap, subst}
use Rattle.skopeo_outside.specs.Tree.{Tree}
use Rattle.skopeo_outside.specs.Outside.{Told}
use Rattle.skopeo_outside.specs.LaneTold.{LaneTold, IsLater}
use Rattle.skopeo_outside.specs.Steps.{Ends, EndsBy}
use Rattle.skopeo_outside.proofs.Trees.{path_cases}
use Rattle.layouts.specs.Faults as layout
use Rattle.layouts.specs.declared.fault.LayoutFault.{LayoutFault}
use Rattle.layouts.specs.declared.fault.LayoutFault.TheVariants as fault
use Rattle.layouts.specs.Paths.{IsIn, IsManifestPath, version_path, version_part}
use Rattle.layouts.specs.Trees.{OnlyIn, SameOrGone}
use Rattle.layouts.specs.Destination.{MayReplace, JudgesDestination, IsReady, IsHalfReady, ImageFirst, ManifestsFirst}
use Rattle.layouts.proofs.NameLemmas.{version_not_manifest, version_part_not_manifest}
use Rattle.layouts.proofs.OccupiedLemmas.{in_cases}
use Rattle.transports.specs.declared.dest.Dest.{Dest}
use Rattle.transports.specs.declared.dest.Dest.TheVariants.{Folder}
use Rattle.transports.specs.declared.refusal.Refusal.{Refusal}
use Rattle.transports.specs.declared.refusal.Refusal.TheVariants as refusal
use Rattle.transports.specs.Refusals.{is_free}
use Rattle.transports.specs.Courses.{lane_course}
use Rattle.transports.specs.StepEnds.{taking, putting}
use Rattle.transports.specs.Has.{OnlyAtDest, MayTake, MayNotTake, TakesLate, RemovesInOrder}
use Rattle.transports.specs.Writes.{KeepsManifests, WritesNone}
use Rattle.transports.specs.Fair.{IsFair, IsFairOn, Works}
use Rattle.transports.specs.Named.{IsPrepared}
use Rattle.transports.specs.Calls.{by_fault, IsRefusedThere, OnFiles}
use Rattle.transports.proofs.ToldLemmas.{told_as}
use Rattle.transports.proofs.FolderLemmas.{later_told, untouched_by}

-- ---- how a destination is taken

pub taken : (folder : List ℕ) (a b : LaneTold) (done : Unit {0}) → IsLater a b → IfSome a.files.tree (λ t. layout.Answers (JudgesDestination t folder) (Ok done)) → Works (Folder folder) a b → Ends lane_course (taking (Folder folder)) a b (Ok done)
unfolding Ends lane_course taking MayTake
taken folder a b done later judged works = record { later = later; ends = (judged, works) }

pub not_taken : (folder : List ℕ) (a b : LaneTold) (given : LayoutFault) (r : Refusal) → OnFiles a b → IsLater a b → layout.LayoutCause {A = Unit {0}} a.files.faults b.files.faults (Err given)
    → IfSome a.files.tree (λ t. layout.Answers (JudgesDestination t folder) (Err given)) → (layout.is_free given ≡ false → b.files.tree ≡ a.files.tree) → IsRefusedThere folder b.files.faults given r → Ends lane_course (taking (Folder folder)) a b (Err r)
unfolding Ends lane_course taking MayNotTake
not_taken folder a b given r on later cause judged same is = record { later = later; ends = of given cause judged same is }
  where
    at_memory : r ≡ refusal.Memory → EndsBy {A = Unit {0}} (is_free r) lane_course r (taking (Folder folder)) a b
    at_memory e = subst (λ e. EndsBy {A = Unit {0}} (is_free e) lane_course e (taking (Folder folder)) a b) (sym e) tt

    leave : (given : LayoutFault) → layout.is_free given ≡ false → (x : Option Tree) → IfSome x (λ t. layout.Answers (JudgesDestination t folder) (Err given)) → IfSome x (λ t. MayReplace t folder → ⊥)
    leave given bound None judged = tt
    leave given bound (Some t) (inl free) = let no : true ≡ false = sym free ∙ bound in cc
    leave given bound (Some t) (inr h) = h.1

    at_folder : (given : LayoutFault) → layout.is_free given ≡ false → IfSome a.files.tree (λ t. layout.Answers (JudgesDestination t folder) (Err given)) → (layout.is_free given ≡ false → b.files.tree ≡ a.files.tree)
        → (r ≡ refusal.Memory) ⊎ (r ≡ refusal.NotAnImageDir folder) → EndsBy {A = Unit {0}} (is_free r) lane_course r (taking (Folder folder)) a b
    at_folder given bound judged same (inl e) = at_memory e
    at_folder given bound judged same (inr e) =
        subst (λ e. EndsBy {A = Unit {0}} (is_free e) lane_course e (taking (Folder folder)) a b) (sym e) (refl, leave given bound a.files.tree judged, untouched_by a b on (same bound))

    of : (given : LayoutFault) → layout.LayoutCause {A = Unit {0}} a.files.faults b.files.faults (Err given) → IfSome a.files.tree (λ t. layout.Answers (JudgesDestination t folder) (Err given))
        → (layout.is_free given ≡ false → b.files.tree ≡ a.files.tree) → IsRefusedThere folder b.files.faults given r → EndsBy {A = Unit {0}} (is_free r) lane_course r (taking (Folder folder)) a b
    of fault.Files cause judged same is = subst (λ e. EndsBy {A = Unit {0}} (is_free e) lane_course e (taking (Folder folder)) a b) (sym is) (record { is = refl; rose = cause.fault refl })
    of fault.Memory cause judged same is = at_memory is
    of fault.NotAnImageDir cause judged same is = at_folder fault.NotAnImageDir refl judged same is
    of (fault.TooLarge what length) cause judged same is = at_folder (fault.TooLarge what length) refl judged same is
    of (fault.LayoutInvalid member) cause judged same is = at_folder (fault.LayoutInvalid member) refl judged same is
    of fault.RefAbsent cause judged same is = at_folder fault.RefAbsent refl judged same is
    of (fault.RefAmbiguous n) cause judged same is = at_folder (fault.RefAmbiguous n) refl judged same is
    of (fault.Digest x y) cause judged same is = at_folder (fault.Digest x y) refl judged same is

-- ---- how files are put there

pub put_done : (dest : Dest) (a b : LaneTold) (done : Unit {0}) → IsLater a b → Ends lane_course (putting dest) a b (Ok done)
unfolding Ends lane_course putting
put_done dest a b done later = record { later = later; ends = tt }

pub put_stopped : (dest : Dest) (a b : LaneTold) (given : LayoutFault) (r : Refusal) → IsLater a b → layout.LayoutCause {A = Unit {0}} a.files.faults b.files.faults (Err given) → r ≡ by_fault given b.files.faults
    → Ends lane_course (putting dest) a b (Err r)
unfolding Ends lane_course
put_stopped dest a b given r later cause is = record { later = later; ends = subst (λ e. EndsBy {A = Unit {0}} (is_free e) lane_course e (putting dest) a b) (sym is) (of given cause) }
  where
    of : (given : LayoutFault) → layout.LayoutCause {A = Unit {0}} a.files.faults b.files.faults (Err given) → EndsBy {A = Unit {0}} (is_free (by_fault given b.files.faults)) lane_course (by_fault given b.files.faults) (putting dest) a b
    of fault.Files cause = record { is = refl; rose = cause.fault refl }
    of fault.Memory cause = tt
    of fault.NotAnImageDir cause = tt
    of (fault.TooLarge what length) cause = tt
    of (fault.LayoutInvalid member) cause = tt
    of fault.RefAbsent cause = tt
    of (fault.RefAmbiguous n) cause = tt
    of (fault.Digest x y) cause = tt

-- ---- what was done there

-- a relation of trees that touches nothing else, writes no manifest and is fair
pub record DoesWork (folder : List ℕ) (lane : ℕ) (s t : Tree) : Type 0 where
  pub only : OnlyIn folder s t
  pub none : KeepsManifests s t
  pub fair : (q : List ℕ) → IsIn folder q → IsFair folder lane s t q

pub works_by : (R : Tree → Tree → Type 0) (folder : List ℕ) (a b : LaneTold) → ((s t : Tree) → R s t → DoesWork folder a.number s t) → OnFiles a b → a.files.faults ≤ b.files.faults → Told R a.files.tree b.files.tree → Works (Folder folder) a b
unfolding Works OnlyAtDest WritesNone IsFairOn
works_by R folder a b does on le told = record {
  later = later_told R a b on told le;
  only = (told_as R (OnlyIn folder) (λ s t r. (does s t r).only) a.files.tree b.files.tree told, ap (λ w. w.talks) on.to);
  none = told_as R KeepsManifests (λ s t r. (does s t r).none) a.files.tree b.files.tree told;
  fair = told_as R (λ s t. (q : List ℕ) → IsIn folder q → IsFair folder a.number s t q) (λ s t r. (does s t r).fair) a.files.tree b.files.tree told;
}

ready_does : (folder : List ℕ) (lane : ℕ) → lane ≡ 0 → (s t : Tree) → IsReady folder s t → DoesWork folder lane s t
ready_does folder lane first s t ready = record {
  only = ready.outside;
  none = λ q m. none q m (in_cases folder q);
  fair = λ q here. fair q here (path_cases q (version_path folder));
}
  where
    none : (q : List ℕ) → IsManifestPath q → IsIn folder q ⊎ (IsIn folder q → ⊥) → SameOrGone s t q
    none q m (inl here) = inr (ready.emptied q here (λ e. version_not_manifest folder (subst IsManifestPath e m)))
    none q m (inr out) = inl (ready.outside.files q out)

    fair : (q : List ℕ) → IsIn folder q → (q ≡ version_path folder) ⊎ (q ≢ version_path folder) → IsFair folder lane s t q
    fair q here (inl e) = inr (inr (inr (record { first = first; name = codes "version"; kind = inl refl; path_is = inl e })))
    fair q here (inr other) = inl (inr (ready.emptied q here other))

half_does : (folder : List ℕ) (lane : ℕ) → lane ≡ 0 → (s t : Tree) → IsHalfReady folder s t → DoesWork folder lane s t
half_does folder lane first s t half = record {
  only = half.outside;
  none = λ q m. half.files q (λ e. version_part_not_manifest folder (subst IsManifestPath e m));
  fair = λ q here. fair q (path_cases q (version_part folder));
}
  where
    fair : (q : List ℕ) → (q ≡ version_part folder) ⊎ (q ≢ version_part folder) → IsFair folder lane s t q
    fair q (inl e) = inr (inr (inr (record { first = first; name = codes "version"; kind = inl refl; path_is = inr e })))
    fair q (inr other) = inl (half.files q other)

pub ready_works : (folder : List ℕ) (a b : LaneTold) → Told (IsReady folder) a.files.tree b.files.tree → a.number ≡ 0 → OnFiles a b → a.files.faults ≤ b.files.faults → Works (Folder folder) a b
ready_works folder a b told first on le = works_by (IsReady folder) folder a b (ready_does folder a.number first) on le told

pub half_works : (folder : List ℕ) (a b : LaneTold) → Told (IsHalfReady folder) a.files.tree b.files.tree → a.number ≡ 0 → OnFiles a b → a.files.faults ≤ b.files.faults → Works (Folder folder) a b
half_works folder a b told first on le = works_by (IsHalfReady folder) folder a b (half_does folder a.number first) on le told

pub half_order : (folder : List ℕ) (a b : LaneTold) → Told (IsHalfReady folder) a.files.tree b.files.tree → RemovesInOrder (Folder folder) a b
unfolding RemovesInOrder
half_order folder a b told = told_as (IsHalfReady folder) (λ s t. ImageFirst folder s t × ManifestsFirst folder s t) (λ s t h. (h.image_first, h.manifests_first)) a.files.tree b.files.tree told

pub prepared_by : (folder : List ℕ) (a b : LaneTold) → Told (IsReady folder) a.files.tree b.files.tree → IsPrepared (Folder folder) a b
unfolding IsPrepared
prepared_by folder a b told = told

-- nothing was touched, or the folder could be replaced
pub late_by : (folder : List ℕ) (a b : LaneTold) → OnFiles a b → (b.files.tree ≡ a.files.tree) ⊎ IfSome a.files.tree (λ t. MayReplace t folder) → TakesLate (Folder folder) a b
unfolding TakesLate MayTake
late_by folder a b on (inl same) = inl (untouched_by a b on same)
late_by folder a b on (inr may) = inr may
