-- A refusal of the source, the gate or the destination comes before anything is touched.
use Rattle.std.proofs.Common.{◌≡◌, ◌∙◌, ◌<◌, Bool, true, false, ℕ, List, [], ◌∷◌, Option, Some, None, Result, Ok, Err, length, inl, inr, refl, sym, subst, arith}
use Rattle.std.specs.Bool.{⊤}
use Rattle.skopeo_outside.specs.LaneTold.{LaneTold}
use Rattle.skopeo_outside.specs.LaneLaws.{each_then}
use Rattle.skopeo_outside.specs.Seen.{Seen, OnFirst, OnEach, KeepsFrom}
use Rattle.skopeo_outside.specs.Steps.{Then, goes, stops, ◌>>=◌, given, Ends, EndsBy}
use Rattle.skopeo_outside.specs.OnLanes.{LaneStep, SeenStep, on_first}
use Rattle.image_ref.specs.Reference.{Reference}
use Rattle.image_ref.specs.declared.place.Place.{Place}
use Rattle.image_ref.specs.declared.place.Place.TheVariants.{Docker, Dir, Oci}
use Rattle.digest_reader.specs.declared.job.Job.{Job}
use Rattle.copy_workers.specs.declared.cause.Cause.{Cause}
use Rattle.copy_workers.specs.declared.cause.Cause.TheVariants as cause
use Rattle.policy_file.specs.PolicyLists.{PolicyLists}
use Rattle.registries_conf.specs.Settings.{Settings}
use Rattle.registries_conf.specs.SourcesOf.{sources_of}
use Rattle.transports.specs.declared.source.Source.{Source}
use Rattle.transports.specs.declared.source.Source.TheVariants as source
use Rattle.transports.specs.declared.dest.Dest.{Dest}
use Rattle.transports.specs.declared.plan.CopyPlan.{CopyPlan}
use Rattle.transports.specs.declared.report.Copied.{Copied}
use Rattle.transports.specs.declared.refusal.Refusal.{Refusal}
use Rattle.transports.specs.declared.refusal.Refusal.TheVariants as refusal
use Rattle.transports.specs.Refusals as of
use Rattle.transports.specs.Places.{dest_at}
use Rattle.transports.specs.Found.{by_sources, trying, in_folder, at_registries, found_for, found_as, by_expansion, trying_names, at_names, found_short, found_by, found}
use Rattle.registries_conf.specs.Expand.{expand}
use Rattle.transports.specs.Courses.{lane_course, call_course}
use Rattle.transports.specs.Stores.{store_of}
use Rattle.transports.specs.Given.{ManifestEnds, SignaturesEnd}
use Rattle.transports.specs.Has.{IsUntouched}
use Rattle.transports.specs.StepEnds.{reading, taking, putting}
use Rattle.transports.proofs.HasLemmas.{untouched_then}
use Rattle.transports.proofs.SameLemmas.{untouched_same}
use Rattle.admission.specs.Parts.{kind_in, image_in}
use Rattle.admission.specs.Admission.{Admission}
use Rattle.admission.specs.GateTold.{GateTold, on_lane, gate_course}
use Rattle.admission.specs.Judged.{Submission, judging}
use Rattle.admission.specs.Taken.{TakenImage}
use Rattle.admission.specs.Walk.{submission, admission}
use Rattle.copy_jobs.specs.Secured.{JobsEnd}
use Rattle.copy_engine.specs.Report.{copied_of}
use Rattle.copy_engine.specs.Walk.{at_gate, securing, readying, placing, image_end}
use Rattle.copy_engine.proofs.SameLemmas.{untouched_each}
use Rattle.skopeo_app.specs.declared.refusal.CommandRefusal.TheVariants.{Image}
use Rattle.skopeo_app.specs.Refusals.{is_ahead}
use Rattle.skopeo_app.proofs.ByTreeLemmas.{first_each}

-- ---- steps of a lane that touch nothing

abbrev Rests : {A : Type 0} → LaneStep Refusal A → Type 0
Rests {A} p = (a b : LaneTold) (r : Result A Refusal) → p a b r → IsUntouched a b

rests_then : {A B : Type 0} (p : LaneStep Refusal A) (q : A → LaneStep Refusal B) → Rests p → ((x : A) → Rests (q x)) → Rests (p >>= q)
rests_then p q f g a b r (goes s m t x w one two) = untouched_then s m t (f s m (Ok x) one) (g x m t w two)
rests_then p q f g a b r (stops s t e one) = f s t (Err e) one

rests_given : {A : Type 0} (w : Result A Refusal) → Rests (given w)
unfolding given
rests_given w a b r end = subst (IsUntouched a) (sym end.0) (untouched_same a)

rests_reading : {A : Type 0} (step : LaneStep Refusal A) → Rests (reading step)
rests_reading step a b r end = end.1

rests_for : (tls : Option Bool) (conf : Settings) (place : Place) → Rests (found_for tls conf place)
unfolding found_for in_folder at_registries
rests_for tls conf (Dir path) = rests_then _ _ (rests_reading (ManifestEnds (source.Folder path) None)) (λ fetched. rests_given _)
rests_for tls conf (Docker r) = rests_then _ _ (rests_given (by_sources (sources_of conf r))) (λ sources. rests_reading (trying tls sources))
rests_for tls conf (Oci path name) = rests_given _

rests_as : (tls : Option Bool) (conf : Settings) (place : Place) → Rests (found_as tls conf place)
unfolding found_as
rests_as tls conf place = rests_then _ _ (rests_for tls conf place) (λ it. rests_given (Ok (record { place = place; found = it })))

rests_names : (tls : Option Bool) (conf : Settings) (names : List Reference) → Rests (at_names tls conf names)
unfolding at_names
rests_names tls conf [] = rests_reading (trying_names tls conf [])
rests_names tls conf (r ∷ []) = rests_as tls conf (Docker r)
rests_names tls conf (r ∷ other ∷ more) = rests_reading (trying_names tls conf (r ∷ other ∷ more))

rests_by : (tls : Option Bool) (conf : Settings) (place : Place) (text : Option (List ℕ)) → Rests (found_by tls conf place text)
unfolding found_short
rests_by tls conf place None = rests_as tls conf place
rests_by tls conf place (Some text) = rests_then _ _ (rests_given (by_expansion text (expand conf text))) (λ names. rests_names tls conf names)

rests_found : (plan : CopyPlan) (conf : Settings) → Rests (found plan conf)
unfolding found
rests_found plan conf = rests_by plan.src_tls conf plan.source plan.short

rests_submission : (plan : CopyPlan) (conf : Settings) → Rests (submission plan conf)
unfolding submission
rests_submission plan conf =
    rests_then _ _ (rests_found plan conf)
    (λ it. rests_then _ _ (rests_given (kind_in it.found.fetched))
    (λ kind. rests_then _ _ (rests_given (image_in kind it.found.fetched))
    (λ image. rests_then _ _ (rests_reading (SignaturesEnd it.found.from (store_of plan it.place it.found.fetched.bytes) None))
    (λ signatures. rests_given _))))

-- ---- the first lane alone

first_untouched : (x y : List LaneTold) → OnFirst (λ a b. IsUntouched a b) x y → KeepsFrom 1 x y → OnEach (λ place a b. IsUntouched a b) x y
first_untouched x y first kept = first_each IsUntouched untouched_same x y first kept

on_each : {A : Type 0} (step : LaneStep Refusal A) (x y : Seen) (r : Result A Refusal) → ((a b : LaneTold) → Ends lane_course step a b r → IsUntouched a b) → on_first lane_course step x y r → OnEach (λ place a b. IsUntouched a b) x.lanes y.lanes
unfolding on_first
on_each {A} step x y r f end = first_untouched x.lanes y.lanes (by x.lanes y.lanes end.0) end.1
  where
    by : (x y : List LaneTold) → OnFirst (λ a b. Ends lane_course step a b r) x y → OnFirst (λ a b. IsUntouched a b) x y
    by [] y e = tt
    by (a ∷ x) [] e = e
    by (a ∷ x) (b ∷ y) e = f a b e

-- an end that is not free is one of the step
not_free : {A : Type 0} (step : LaneStep Refusal A) (a b : LaneTold) (e : Refusal) → of.is_free e ≡ false → Ends lane_course step a b (Err e) → step a b (Err e)
unfolding Ends lane_course
not_free {A} step a b e free end = subst (λ f. EndsBy {A = A} f lane_course e step a b) free end.ends

value_of : {A : Type 0} (step : LaneStep Refusal A) (a b : LaneTold) (x : A) → Ends lane_course step a b (Ok x) → step a b (Ok x)
unfolding Ends
value_of step a b x end = end.ends

-- ---- which refusals come ahead

ahead_free : (e : Refusal) → is_ahead (Image e) ≡ true → of.is_free e ≡ false
ahead_free (refusal.Files count) ahead = let no : false ≡ true = ahead in cc
ahead_free (refusal.Wire count) ahead = let no : false ≡ true = ahead in cc
ahead_free (refusal.Job number reason) ahead = refl
ahead_free (refusal.NotBuilt p) ahead = refl
ahead_free (refusal.NotAnImageDir p) ahead = refl
ahead_free (refusal.TooLarge w n) ahead = refl
ahead_free (refusal.ManifestInvalid m) ahead = refl
ahead_free (refusal.Rejected s p w) ahead = refl
ahead_free (refusal.BadReference text fault) ahead = refl
ahead_free (refusal.ShortName text count) ahead = refl
ahead_free (refusal.Blocked n) ahead = refl
ahead_free (refusal.NoSource attempts) ahead = refl
ahead_free (refusal.TlsRequired host) ahead = refl
ahead_free (refusal.Garbled status first) ahead = refl
ahead_free (refusal.BadAnswer step first) ahead = refl
ahead_free (refusal.LookasideRefused number status) ahead = refl
ahead_free (refusal.Encoded step) ahead = refl
ahead_free (refusal.TooManyRedirects step) ahead = refl
ahead_free (refusal.Helper count) ahead = refl
ahead_free refusal.Memory ahead = let no : false ≡ true = ahead in cc

ahead_memory : (e : Refusal) → is_ahead (Image e) ≡ true → of.is_memory e ≡ false
ahead_memory (refusal.Files count) ahead = refl
ahead_memory (refusal.Wire count) ahead = refl
ahead_memory (refusal.Job number reason) ahead = refl
ahead_memory (refusal.NotBuilt p) ahead = refl
ahead_memory (refusal.NotAnImageDir p) ahead = refl
ahead_memory (refusal.TooLarge w n) ahead = refl
ahead_memory (refusal.ManifestInvalid m) ahead = refl
ahead_memory (refusal.Rejected s p w) ahead = refl
ahead_memory (refusal.BadReference text fault) ahead = refl
ahead_memory (refusal.ShortName text count) ahead = refl
ahead_memory (refusal.Blocked n) ahead = refl
ahead_memory (refusal.NoSource attempts) ahead = refl
ahead_memory (refusal.TlsRequired host) ahead = refl
ahead_memory (refusal.Garbled status first) ahead = refl
ahead_memory (refusal.BadAnswer step first) ahead = refl
ahead_memory (refusal.LookasideRefused number status) ahead = refl
ahead_memory (refusal.Encoded step) ahead = refl
ahead_memory (refusal.TooManyRedirects step) ahead = refl
ahead_memory (refusal.Helper count) ahead = refl
ahead_memory refusal.Memory ahead = let no : false ≡ true = ahead in cc

-- ---- source and gate

-- an answer that is none, or a refusal that comes ahead
abbrev IsAheadOf : {A : Type 0} → Result A Refusal → Type 0
IsAheadOf (Ok x) = Unit {0}
IsAheadOf (Err e) = is_ahead (Image e) ≡ true

on_lane_rests : {A : Type 0} (step : LaneStep Refusal A) → Rests step → (a b : GateTold) (r : Result A Refusal) → IsAheadOf r → on_lane step a b r → IsUntouched a.lane b.lane
unfolding on_lane
on_lane_rests step f a b (Ok x) ahead end = f a.lane b.lane (Ok x) (value_of step a.lane b.lane x end.0)
on_lane_rests step f a b (Err e) ahead end = f a.lane b.lane (Err e) (not_free step a.lane b.lane e (ahead_free e ahead) end.0)

judging_rests : (plan : CopyPlan) (policy : PolicyLists) (s : Submission) (a b : GateTold) (r : Result TakenImage Refusal) → judging plan policy s a b r → IsUntouched a.lane b.lane
unfolding judging
judging_rests plan policy s a b r end = end.untouched

rests_admission : (plan : CopyPlan) (conf : Settings) (policy : PolicyLists) (a b : GateTold) (r : Result TakenImage Refusal) → IsAheadOf r → admission plan conf policy a b r → IsUntouched a.lane b.lane
unfolding admission
rests_admission plan conf policy a b r ahead end = by a b r ahead end
  where
    by : (a b : GateTold) (r : Result TakenImage Refusal) → IsAheadOf r → Then (on_lane (submission plan conf)) (judging plan policy) a b r → IsUntouched a.lane b.lane
    by a b r ahead (goes k m t s w one two) =
        untouched_then k.lane m.lane t.lane (on_lane_rests (submission plan conf) (rests_submission plan conf) k m (Ok s) tt one) (judging_rests plan policy s m t w two)
    by a b r ahead (stops k t e one) = on_lane_rests (submission plan conf) (rests_submission plan conf) k t (Err e) ahead one

-- what the gate's end on the first lane touched
gate_end : (plan : CopyPlan) (conf : Settings) (policy : PolicyLists) (a b : GateTold) (r : Result TakenImage Refusal) → IsAheadOf r → Ends gate_course (admission plan conf policy) a b r → IsUntouched a.lane b.lane
unfolding Ends gate_course
gate_end plan conf policy a b (Ok it) ahead end = rests_admission plan conf policy a b (Ok it) tt end.ends
gate_end plan conf policy a b (Err e) ahead end =
    rests_admission plan conf policy a b (Err e) ahead (subst (λ f. EndsBy {A = TakenImage} f gate_course e (admission plan conf policy) a b) (ahead_memory e ahead) end.ends)

gate_rests : (plan : CopyPlan) (conf : Settings) (policy : PolicyLists) (x y : Seen) (r : Result TakenImage Refusal) → IsAheadOf r → at_gate (admission plan conf policy) x y r → OnEach (λ place a b. IsUntouched a b) x.lanes y.lanes
unfolding at_gate
gate_rests plan conf policy x y r ahead end = first_untouched x.lanes y.lanes (by x.lanes y.lanes end.0) end.1
  where
    by : (k l : List LaneTold) → OnFirst (λ a b. Ends gate_course (admission plan conf policy) (record { lane = a; helper = x.helper }) (record { lane = b; helper = y.helper }) r) k l → OnFirst (λ a b. IsUntouched a b) k l
    by [] l e = tt
    by (a ∷ k) [] e = e
    by (a ∷ k) (b ∷ l) e = gate_end plan conf policy (record { lane = a; helper = x.helper }) (record { lane = b; helper = y.helper }) r ahead e

cause_late : (number : ℕ) (c : Cause) → is_ahead (Image (of.by_cause number c)) ≡ false
cause_late number (cause.Files count) = refl
cause_late number (cause.Wire count) = refl
cause_late number (cause.TlsRequired host) = refl
cause_late number (cause.BlobMismatch m) = refl
cause_late number (cause.BlobAbsent digest) = refl
cause_late number (cause.DestRefused step code) = refl
cause_late number (cause.TooLarge what length) = refl
cause_late number (cause.BadAnswer step bytes) = refl
cause_late number (cause.SourceRefused step code) = refl
cause_late number (cause.Encoded step) = refl
cause_late number (cause.TooManyRedirects step) = refl
cause_late number cause.Memory = refl

jobs_late : (from : Source) (to : Dest) (jobs : List Job) (x y : Seen) (e : Refusal) → securing from to jobs x y (Err e) → is_ahead (Image e) ≡ true → ⊥
unfolding securing
jobs_late from to jobs x y e end ahead = by end.0
  where
    by : JobsEnd {A = ⊤} from to jobs x.lanes y.lanes (Err e) → ⊥
    by (inl least) = let no : false ≡ true = sym (subst (λ v. is_ahead (Image v) ≡ false) (sym least.is) (cause_late least.job.number least.cause)) ∙ ahead in cc
    by (inr memory) = let no : false ≡ true = subst (λ v. is_ahead (Image v) ≡ true) memory.0 ahead in cc

-- ---- the walk of an image

err_same : {A : Type 0} (d e : Refusal) → ◌≡◌ {A = Result A Refusal} (Err d) (Err e) → d ≡ e
err_same d e is = cc

-- where two steps are refused, the first is, or the second
refused_then : {A B : Type 0} (p : SeenStep Refusal A) (q : A → SeenStep Refusal B) (P : Seen → Seen → Type 0) (e : Refusal) → ((x m y : Seen) (v : A) → p x m (Ok v) → q v m y (Err e) → P x y)
    → ((x y : Seen) → p x y (Err e) → P x y) → (x y : Seen) → (p >>= q) x y (Err e) → P x y
refused_then {A} {B} p q P e f g x y end = by x y (Err e) end refl
  where
    by : (x y : Seen) (r : Result B Refusal) → Then p q x y r → r ≡ Err e → P x y
    by x y r (goes s m t v w one two) is = f s m t v one (subst (q v m t) is two)
    by x y r (stops s t d one) is = g s t (subst (λ v. p s t (Err v)) (err_same d e is) one)

abbrev pub Untouched : Seen → Seen → Type 0
Untouched x y = OnEach (λ place a b. IsUntouched a b) x.lanes y.lanes

taken_rests : (to : Dest) (e : Refusal) (x y : Seen) → is_ahead (Image e) ≡ true → on_first lane_course (taking to) x y (Err e) → Untouched x y
unfolding taking
taken_rests to e x y ahead end = on_each (taking to) x y (Err e) (λ a b one. (not_free (taking to) a b e (ahead_free e ahead) one).2) end

readying_rests : (from : Source) (to : Dest) (jobs : List Job) (e : Refusal) (x y : Seen) → is_ahead (Image e) ≡ true → readying from to jobs x y (Err e) → Untouched x y
unfolding readying
readying_rests from to jobs e x y ahead end =
    refused_then (on_first lane_course (taking to)) (λ d. securing from to jobs) Untouched e
    (λ s m t v one two. absurd (jobs_late from to jobs m t e two ahead)) (λ s t one. taken_rests to e s t ahead one) x y end

-- the manifest's step is not refused so, where there is a lane
put_at : (to : Dest) (e : Refusal) (x y : Seen) → is_ahead (Image e) ≡ true → on_first lane_course (putting to) x y (Err e) → length y.lanes ≡ 0
unfolding on_first putting
put_at to e x y ahead end = by x.lanes y.lanes end.0 end.1
  where
    by : (x y : List LaneTold) → OnFirst (λ a b. Ends lane_course (putting to) a b (Err e)) x y → KeepsFrom 1 x y → length y ≡ 0
    by [] y first kept = kept.same
    by (a ∷ x) [] first kept = refl
    by (a ∷ x) (b ∷ y) first kept = absurd (not_free (putting to) a b e (ahead_free e ahead) first)

put_late : (to : Dest) (copied : Copied) (e : Refusal) (x y : Seen) → is_ahead (Image e) ≡ true → (on_first lane_course (putting to) >>= (λ d. given {E = Refusal} (Ok copied))) x y (Err e) → length y.lanes ≡ 0
unfolding given
put_late to copied e x y ahead end =
    refused_then (on_first lane_course (putting to)) (λ d. given (Ok copied)) (λ s t. length t.lanes ≡ 0) e
    (λ s m t v one two. (let no : ◌≡◌ {A = Result Copied Refusal} (Err e) (Ok copied) = two.1 in cc)) (λ s t one. put_at to e s t ahead one) x y end

placing_rests : (from : Source) (to : Dest) (image : Admission) (e : Refusal) (x y : Seen) → 0 < length y.lanes → is_ahead (Image e) ≡ true → placing from to image x y (Err e) → Untouched x y
unfolding placing
placing_rests from to image e x y some ahead end =
    refused_then (readying from to image.jobs) (λ d. on_first lane_course (putting to) >>= (λ u. given (Ok (copied_of image)))) (λ s t. 0 < length t.lanes → Untouched s t) e
    (λ s m t v one two some. (let none = put_late to (copied_of image) e m t ahead two in absurd (omega (arith, none, some)))) (λ s t one some. readying_rests from to image.jobs e s t ahead one) x y end some

image_rests : (plan : CopyPlan) (conf : Settings) (policy : PolicyLists) (to : Dest) (e : Refusal) (x y : Seen) → 0 < length y.lanes → is_ahead (Image e) ≡ true
    → (at_gate (admission plan conf policy) >>= (λ it. placing it.from to it.image)) x y (Err e) → Untouched x y
image_rests plan conf policy to e x y some ahead end =
    refused_then (at_gate (admission plan conf policy)) (λ it. placing it.from to it.image)
    (λ s t. 0 < length t.lanes → Untouched s t) e
    (λ s m t it one two some. each_then (λ place a b. IsUntouched a b) (λ place a b. IsUntouched a b) (λ place a b. IsUntouched a b) (λ place a b c p q. untouched_then a b c p q) s.lanes m.lanes t.lanes
    (gate_rests plan conf policy s m (Ok it) tt one)
    (placing_rests it.from to it.image e m t some ahead two))
    (λ s t one some. gate_rests plan conf policy s t (Err e) ahead one) x y end some

walk_rests : (plan : CopyPlan) (conf : Settings) (policy : PolicyLists) (e : Refusal) (x y : Seen) → 0 < length y.lanes → is_ahead (Image e) ≡ true → image_end plan conf policy x y (Err e) → Untouched x y
unfolding image_end given
walk_rests plan conf policy e x y some ahead end =
    refused_then (given (dest_at plan.dest)) (λ to. at_gate (admission plan conf policy) >>= (λ it. placing it.from to it.image))
    (λ s t. 0 < length t.lanes → Untouched s t) e
    (λ s m t to one two some. subst (λ v. Untouched v t) (one.0) (image_rests plan conf policy to e m t some ahead two))
    (λ s t one some. subst (λ v. Untouched s v) (sym one.0) (untouched_each s.lanes)) x y end some

-- such a refusal leaves all as it was
pub untouched_ahead : (plan : CopyPlan) (policy : PolicyLists) (conf : Settings) (x y : Seen) (e : Refusal) → 0 < length x.lanes → Ends call_course (image_end plan conf policy) x y (Err e) → is_ahead (Image e) ≡ true → Untouched x y
unfolding Ends
untouched_ahead plan policy conf x y e some end ahead =
    let count : length y.lanes ≡ length x.lanes = end.later.count in
    walk_rests plan conf policy e x y (omega (arith, some, count)) ahead (subst (λ f. EndsBy {A = Copied} f call_course e (image_end plan conf policy) x y) (ahead_memory e ahead) end.ends)
