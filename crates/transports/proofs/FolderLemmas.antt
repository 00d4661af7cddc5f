-- What a folder's calls say, as ends of a lane's steps.
use Rattle.std.proofs.Common.{◌≡◌, ◌⊎◌, ◌∙◌, ◌≤◌, ℕ, List, Bool, true, false, Option, Some, None, Result, Ok, Err, IfSome, inl, inr, refl, sym, ap, subst}
use Rattle.skopeo_outside.specs.Tree.{Tree, file_at}
use Rattle.skopeo_outside.specs.Folders.{joined}
use Rattle.skopeo_outside.specs.Outside.{Told, HasCause}
use Rattle.skopeo_outside.specs.LaneTold.{LaneTold, IsLater}
use Rattle.skopeo_outside.specs.LaneLaws.{later_files, told_same, told_tells}
use Rattle.skopeo_outside.specs.Steps.{Ends, EndsBy, Says, SaysBy}
use Rattle.skopeo_outside.specs.OnLanes.{LaneStep}
use Rattle.skopeo_outside.specs.declared.words.Fetched.{Fetched}
use Rattle.skopeo_outside.specs.declared.stop.Stop.{Stop}
use Rattle.skopeo_outside.specs.declared.stop.Stop.TheVariants as stop
use Rattle.layouts.specs.Faults as layout
use Rattle.layouts.specs.Bounds.{limited}
use Rattle.layouts.specs.Names.{manifest_name, prefix_of}
use Rattle.layouts.specs.Source.{AreSignaturesIn, numbered, signatures_in}
use Rattle.layouts.specs.declared.read.Limited.{Limited}
use Rattle.layouts.specs.declared.fault.LayoutFault.{LayoutFault}
use Rattle.layouts.specs.declared.fault.LayoutFault.TheVariants as fault
use Rattle.layouts.proofs.SignatureLaw.{are_signatures}
use Rattle.transports.specs.declared.source.Source.TheVariants.{Folder}
use Rattle.transports.specs.declared.refusal.Refusal.{Refusal}
use Rattle.transports.specs.declared.refusal.Refusal.TheVariants as refusal
use Rattle.transports.specs.Refusals.{is_free}
use Rattle.transports.specs.Courses.{lane_course, shows_earlier}
use Rattle.transports.specs.StepEnds.{reading}
use Rattle.transports.specs.Given.{SameIn, Spares, ManifestEnds, SignaturesEnd, manifest_in, refusal_of, by_folder}
use Rattle.transports.specs.Stores.{StoreAt}
use Rattle.transports.specs.Has.{IsUntouched}
use Rattle.transports.specs.Calls.{by_stop, IsRefused, OnFiles}

-- ---- what stays

pub later_told : (R : Tree → Tree → Type 0) (a b : LaneTold) → OnFiles a b → Told R a.files.tree b.files.tree → a.files.faults ≤ b.files.faults → IsLater a b
later_told R a b on told le = later_files a b on.from on.to on.number (record { tells = told_tells R a.files.tree b.files.tree told; faults = le })

pub later_by : (a b : LaneTold) → OnFiles a b → b.files.tree ≡ a.files.tree → a.files.faults ≤ b.files.faults → IsLater a b
later_by a b on same le = later_told (λ s t. Unit {0}) a b on (subst (λ x. Told (λ s t. Unit {0}) a.files.tree x) (sym same) (told_same (λ s t. Unit {0}) (λ t. tt) a.files.tree)) le

pub untouched_by : (a b : LaneTold) → OnFiles a b → b.files.tree ≡ a.files.tree → IsUntouched a b
untouched_by a b on same = record { files = same; to = ap (λ w. w.talks) on.to }

pub spares_by : (folder : List ℕ) (a b : LaneTold) → b.files.tree ≡ a.files.tree → Spares (Folder folder) a b
unfolding Spares
spares_by folder a b same = subst (λ x. Told (SameIn folder) a.files.tree x) (sym same) (told_same (SameIn folder) (λ t q here. refl) a.files.tree)

-- ---- how steps end

-- a stopped call of the files ends any step
pub files_stopped : {A B : Type 0} (step : LaneStep Refusal A) (a b : LaneTold) (s : Stop) (r : Refusal) → OnFiles a b → b.files.tree ≡ a.files.tree → HasCause {T = B} a.files.faults b.files.faults (Err s) → r ≡ by_stop s b.files.faults → Ends lane_course step a b (Err r)
unfolding Ends lane_course
files_stopped {A} step a b stop.Fault r on same cause is = record {
  later = later_by a b on same cause.later;
  ends = subst (λ e. EndsBy {A = A} (is_free e) lane_course e step a b) (sym is) (record { is = refl; rose = cause.fault refl });
}
files_stopped {A} step a b stop.Memory r on same cause is = record {
  later = later_by a b on same cause.later;
  ends = subst (λ e. EndsBy {A = A} (is_free e) lane_course e step a b) (sym is) tt;
}

-- what is said of a step that looked at the files alone
said_ends : {A : Type 0} (step : LaneStep Refusal A) (a b : LaneTold) (w r : Result A Refusal) → IsLater a b → Says lane_course w r → step a b w → Ends lane_course step a b r
unfolding Ends Says lane_course
said_ends step a b w (Ok x) later says end = record { later = later; ends = subst (step a b) says end }
said_ends {A} step a b w (Err e) later says end = record { later = later; ends = by (is_free e) says }
  where
    by : (f : Bool) → SaysBy f lane_course w e → EndsBy {A = A} f lane_course e step a b
    by true shown = shows_earlier e a b b later (shown b)
    by false is = subst (step a b) is end

manifest_was : (path : List ℕ) (part : Option (List ℕ)) (file : Limited) (a b : LaneTold) → IfSome a.files.tree (λ t. file ≡ limited (file_at t (joined path (manifest_name part)))) → ManifestEnds (Folder path) part a b (manifest_in path file)
unfolding ManifestEnds
manifest_was path part file a b is = by a.files.tree is
  where
    by : (x : Option Tree) → IfSome x (λ t. file ≡ limited (file_at t (joined path (manifest_name part)))) → IfSome x (λ t. manifest_in path file ≡ manifest_in path (limited (file_at t (joined path (manifest_name part)))))
    by None is = tt
    by (Some t) is = ap (manifest_in path) is

pub manifest_ended : (path : List ℕ) (part : Option (List ℕ)) (file : Limited) (a b : LaneTold) (r : Result Fetched Refusal) → OnFiles a b → b.files.tree ≡ a.files.tree → a.files.faults ≤ b.files.faults
    → IfSome a.files.tree (λ t. file ≡ limited (file_at t (joined path (manifest_name part)))) → Says lane_course (manifest_in path file) r → Ends lane_course (reading (ManifestEnds (Folder path) part)) a b r
manifest_ended path part file a b r on same le is says =
    said_ends (reading (ManifestEnds (Folder path) part)) a b (manifest_in path file) r (later_by a b on same le) says (manifest_was path part file a b is, untouched_by a b on same)

-- ---- signatures

pub signatures_ended : (path : List ℕ) (store : Option StoreAt) (part : Option (List ℕ)) (a b : LaneTold) (signatures : List (List ℕ)) → OnFiles a b → b.files.tree ≡ a.files.tree → a.files.faults ≤ b.files.faults
    → IfSome a.files.tree (λ t. layout.Answers (AreSignaturesIn t path part) (Ok signatures)) → Ends lane_course (reading (SignaturesEnd (Folder path) store part)) a b (Ok signatures)
unfolding Ends lane_course SignaturesEnd
signatures_ended path store part a b signatures on same le read = record { later = later_by a b on same le; ends = (by a.files.tree read, untouched_by a b on same) }
  where
    by : (x : Option Tree) → IfSome x (λ t. layout.Answers (AreSignaturesIn t path part) (Ok signatures)) → IfSome x (λ t. Ok signatures ≡ by_folder path (signatures_in (numbered t path (prefix_of part))))
    by None read = tt
    by (Some t) read = ap (by_folder path) (are_signatures (numbered t path (prefix_of part)) (Ok signatures) read)

-- a fault of a folder that a step has, or one that may always come
fault_ends : {A B : Type 0} (path : List ℕ) (step : LaneStep Refusal A) (a b : LaneTold) (given : LayoutFault) (r : Refusal) → IsLater a b → layout.LayoutCause {A = B} a.files.faults b.files.faults (Err given)
    → IsRefused path b.files.faults given r → (layout.is_free given ≡ false → step a b (Err (refusal_of path given))) → Ends lane_course step a b (Err r)
unfolding Ends lane_course
fault_ends {A} {B} path step a b given r later cause is end = record { later = later; ends = of given cause is end }
  where
    at_memory : r ≡ refusal.Memory → EndsBy {A = A} (is_free r) lane_course r step a b
    at_memory e = subst (λ e. EndsBy {A = A} (is_free e) lane_course e step a b) (sym e) tt

    at_fault : (wanted : Refusal) → (r ≡ refusal.Memory) ⊎ (r ≡ wanted) → step a b (Err wanted) → is_free wanted ≡ false → EndsBy {A = A} (is_free r) lane_course r step a b
    at_fault wanted (inl e) end free = at_memory e
    at_fault wanted (inr e) end free = subst (λ e. EndsBy {A = A} (is_free e) lane_course e step a b) (sym e) (subst (λ f. EndsBy {A = A} f lane_course wanted step a b) (sym free) end)

    either : (r ≡ refusal.Memory) ⊎ (r ≡ refusal.Memory) → EndsBy {A = A} (is_free r) lane_course r step a b
    either (inl e) = at_memory e
    either (inr e) = at_memory e

    of : (given : LayoutFault) → layout.LayoutCause {A = B} a.files.faults b.files.faults (Err given) → IsRefused path b.files.faults given r → (layout.is_free given ≡ false → step a b (Err (refusal_of path given)))
        → EndsBy {A = A} (is_free r) lane_course r step a b
    of fault.Files cause is end = subst (λ e. EndsBy {A = A} (is_free e) lane_course e step a b) (sym is) (record { is = refl; rose = cause.fault refl })
    of fault.Memory cause is end = either is
    of fault.NotAnImageDir cause is end = at_fault _ is (end refl) refl
    of (fault.TooLarge what length) cause is end = at_fault _ is (end refl) refl
    of (fault.LayoutInvalid member) cause is end = either is
    of fault.RefAbsent cause is end = either is
    of (fault.RefAmbiguous n) cause is end = either is
    of (fault.Digest x y) cause is end = either is

pub signatures_refused : {B : Type 0} (path : List ℕ) (store : Option StoreAt) (part : Option (List ℕ)) (a b : LaneTold) (given : LayoutFault) (r : Refusal) → OnFiles a b → b.files.tree ≡ a.files.tree → layout.LayoutCause {A = B} a.files.faults b.files.faults (Err given)
    → IfSome a.files.tree (λ t. layout.Answers (AreSignaturesIn t path part) (Err given)) → IsRefused path b.files.faults given r → Ends lane_course (reading (SignaturesEnd (Folder path) store part)) a b (Err r)
unfolding SignaturesEnd
signatures_refused path store part a b given r on same cause read is = fault_ends path (reading (SignaturesEnd (Folder path) store part)) a b given r (later_by a b on same cause.later) cause is (λ bound. (by bound a.files.tree read, untouched_by a b on same))
  where
    by : layout.is_free given ≡ false → (x : Option Tree) → IfSome x (λ t. layout.Answers (AreSignaturesIn t path part) (Err given)) → IfSome x (λ t. Err (refusal_of path given) ≡ by_folder path (signatures_in (numbered t path (prefix_of part))))
    by bound None read = tt
    by bound (Some t) (inl free) = let no : true ≡ false = sym free ∙ bound in cc
    by bound (Some t) (inr said) = ap (by_folder path) (are_signatures (numbered t path (prefix_of part)) (Err given) said)
