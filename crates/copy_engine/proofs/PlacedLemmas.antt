-- An image that was admitted, at its destination: the destination and the jobs, then the signatures and the manifest.
use Rattle.std.proofs.Common.{◌≡◌, ◌∙◌, ◌∷◌, [], List, None, Result, Ok, Err, length, inr, sym, ap, subst, arith}
use Rattle.std.specs.Prelude.{⊤}
use Rattle.skopeo_outside.specs.LaneTold.{LaneTold, IsLater}
use Rattle.skopeo_outside.specs.LaneLaws.{later_same, later_then, each_then}
use Rattle.skopeo_outside.specs.Seen.{Seen, OnFirst, OnEach, KeepsFrom, seen}
use Rattle.skopeo_outside.specs.Steps.{Then, goes, Says, Ends}
use Rattle.skopeo_outside.specs.OnLanes.{on_first}
use Rattle.skopeo_outside.proofs.StepLemmas.{then_ends, then_stops, given_ends}
use Rattle.skopeo_outside.proofs.PlaceLemmas.{each_self, some_then}
use Rattle.digest_reader.specs.declared.job.Job.{Job}
use Rattle.transports.specs.declared.source.Source.{Source}
use Rattle.transports.specs.declared.dest.Dest.{Dest}
use Rattle.transports.specs.declared.refusal.Refusal.{Refusal}
use Rattle.transports.specs.declared.report.Copied.{Copied}
use Rattle.transports.specs.declared.report.CopiedRow.{CopiedRow}
use Rattle.transports.specs.Courses.{lane_course, call_course}
use Rattle.transports.specs.StepEnds.{IsDone, taking, putting}
use Rattle.transports.specs.Has.{MayTake, RemovesInOrder, OnlyAtDest, KeepsAllBlobs}
use Rattle.transports.specs.Fair.{IsFairOn, Works, AllWork}
use Rattle.transports.specs.Named.{IsNamed, AreSigned, IsAlone, HasNoManifest, AddsOnly, IsOfJobs}
use Rattle.transports.specs.Writes.{WritesNone, WritesOnly, WritesNowhere, spot_of}
use Rattle.transports.proofs.SameLemmas.{only_same, fair_same, writes_same}
use Rattle.transports.proofs.WorkLemmas.{only_then, none_then, fair_then}
use Rattle.admission.specs.Admission.{Admission}
use Rattle.copy_jobs.specs.Secured.{AreDone}
use Rattle.copy_jobs.proofs.StateLemmas.{done_kept}
use Rattle.copy_engine.specs.Ready.{ReadyImage, IsReady, IsMadeOf, IsFilled, IsFinished, LeavesWritten, AllWritten, TakesLate}
use Rattle.copy_engine.specs.Placed.{LeavesImage, LeavesPlaced, IsLost, IsPlaced}
use Rattle.copy_engine.specs.Report.{copied_of}
use Rattle.copy_engine.specs.Walk.{readying, placing}
use Rattle.copy_engine.proofs.LiftLemmas.{first_then, first_with, first_of, first_both, others_kept}
use Rattle.copy_engine.proofs.ReadyLemmas.{all_later}
use Rattle.copy_engine.proofs.ClearedLemmas.{cleared_then, cleared_order}
use Rattle.copy_engine.proofs.WriteLemmas.{none_writes, writes_then, named_earlier, signed_earlier, works_none}
use Rattle.copy_engine.proofs.SameLemmas.{late_same, order_first}
use Rattle.transports.proofs.SameLemmas.{nowhere_same}

-- ---- nothing was done

leaves_same : (dest : Dest) (image : Admission) (a : LaneTold) → LeavesImage dest image a a
leaves_same dest image a = record { later = later_same a; writes = writes_same (spot_of dest None) image.manifest a; only = only_same dest a; fair = fair_same dest a.number a }

pub placed_same : (dest : Dest) (image : Admission) (x : List LaneTold) → LeavesPlaced dest image x x
placed_same dest image x = record { each = each_self (λ place a b. LeavesImage dest image a b) (λ place a. leaves_same dest image a) x; late = late_same dest x }

pub lost_same : (dest : Dest) (x : List LaneTold) → IsLost dest x x
lost_same dest x = record { none = nowhere_same x; order = order_first dest x }

-- ---- the walk

-- a walk that went well, step by step
pub then_ok : {S E A B : Type 0} {p : S → S → Result A E → Type 0} {q : A → S → S → Result B E → Type 0} {a c : S} {y : B} → Then p q a c (Ok y) → (m : S) × (x : A) × p a m (Ok x) × q x m c (Ok y)
then_ok (goes a m c x r one two) = (m, x, one, two)

pub placing_stops : (from : Source) (dest : Dest) (image : Admission) (a b : Seen) (e : Refusal) → Ends {A = ⊤} call_course (readying from dest image.jobs) a b (Err e) → Ends {A = Copied} call_course (placing from dest image) a b (Err e)
unfolding placing
placing_stops from dest image a b e ends = then_stops call_course (readying from dest image.jobs) _ a b e ends

pub placing_cut : (from : Source) (dest : Dest) (image : Admission) (a b c : Seen) (done : ⊤) (e : Refusal) → Ends call_course (readying from dest image.jobs) a b (Ok done) → Ends {A = ⊤} call_course (on_first lane_course (putting dest)) b c (Err e) → Ends {A = Copied} call_course (placing from dest image) a c (Err e)
unfolding placing
placing_cut from dest image a b c done e ready ends = then_ends call_course (readying from dest image.jobs) _ a b c done (Err e) ready (then_stops call_course (on_first lane_course (putting dest)) _ b c e ends)

pub placing_ends : (from : Source) (dest : Dest) (image : Admission) (a b c : Seen) (done put : ⊤) (copied : Copied) → Ends call_course (readying from dest image.jobs) a b (Ok done) → Ends call_course (on_first lane_course (putting dest)) b c (Ok put) → copied ≡ copied_of image → Ends call_course (placing from dest image) a c (Ok copied)
unfolding placing Says
placing_ends from dest image a b c done put copied ready ends is =
    then_ends call_course (readying from dest image.jobs) _ a b c done (Ok copied) ready
    (then_ends call_course (on_first lane_course (putting dest)) _ b c c put (Ok copied) ends (given_ends call_course (Ok (copied_of image)) (Ok copied) c (ap Ok (sym is))))

-- ---- what is left

works_leave : (dest : Dest) (image : Admission) (a b : LaneTold) → Works dest a b → LeavesImage dest image a b
unfolding Works
works_leave dest image a b works = record { later = works.later; writes = none_writes (spot_of dest None) image.manifest a b works.none; only = works.only; fair = works.fair }

-- the jobs were given up
pub jobs_left : (dest : Dest) (image : Admission) (x y : List LaneTold) → AllWork dest x y → TakesLate dest x y → LeavesPlaced dest image x y
unfolding AllWork
jobs_left dest image x y works late = record { each = record { count = works.count; each = λ place a b ea eb. works_leave dest image a b (works.each place a b ea eb) }; late = late }

pub work_nowhere : (dest : Dest) (x y : List LaneTold) → AllWork dest x y → WritesNowhere x y
unfolding AllWork WritesNowhere
work_nowhere dest x y works = record { count = works.count; each = λ place a b ea eb. works_none dest a b (works.each place a b ea eb) }

pub jobs_lost : (dest : Dest) (x y : List LaneTold) → AllWork dest x y → OnFirst (RemovesInOrder dest) x y → IsLost dest x y
jobs_lost dest x y works order = record { none = work_nowhere dest x y works; order = order }

pub nowhere_then : (x y z : List LaneTold) → WritesNowhere x y → WritesNowhere y z → WritesNowhere x z
unfolding WritesNowhere
nowhere_then x y z r s = each_then (λ place a b. WritesNone a b) (λ place a b. WritesNone a b) (λ place a b. WritesNone a b) (λ place a b c p q. none_then a b c p q) x y z r s

-- the destination was taken, as it was at first
first_any : (P : LaneTold → Type 0) (x y z : List LaneTold) → OnFirst (λ a b. P a) x y → length z ≡ length x → OnFirst (λ a b. P a) x z
first_any P [] y z r e = tt
first_any P (a ∷ x) [] z r e = absurd r
first_any P (a ∷ x) (b ∷ y) [] r e = let n : 0 ≡ length (a ∷ x) = e in absurd (omega arith)
first_any P (a ∷ x) (b ∷ y) (c ∷ z) r e = r

pub ready_may : (from : Source) (dest : Dest) (jobs : List Job) (x y z : List LaneTold) (done : ⊤) → Ends call_course (readying from dest jobs) (seen x None 0) (seen y None 0) (Ok done) → length z ≡ length x → OnFirst (λ a b. MayTake dest a) x z
unfolding Ends readying on_first taking
ready_may from dest jobs x y z done ends same =
    let taken = then_ok ends.ends in
    first_any (MayTake dest) x taken.0.lanes z (first_with (λ a b. Ends lane_course (taking dest) a b (Ok taken.1)) (λ a b. MayTake dest a) (λ a b e. e.ends.0) x taken.0.lanes taken.2.0) same

-- ---- a `Ready` was written

-- what the writing of it did on a lane, by what it was made of
pub record Wrote (dest : Dest) (image : Admission) (a b : LaneTold) : Type 0 where
  pub leaves : LeavesImage dest image a b
  pub blobs : KeepsAllBlobs dest a b

wrote_lane : (dest : Dest) (image : Admission) (r : ReadyImage) (a b : LaneTold) → r.dest ≡ dest → r.bytes ≡ image.manifest → LeavesWritten r a b → Wrote dest image a b
wrote_lane dest image r a b to bytes left = record {
  leaves = record {
    later = left.later;
    writes = subst (λ d. WritesOnly (spot_of d None) image.manifest a b) to (subst (λ m. WritesOnly (spot_of r.dest None) m a b) bytes left.writes);
    only = subst (λ d. OnlyAtDest d a b) to left.only;
    fair = subst (λ d. IsFairOn d a.number a b) to left.fair;
  };
  blobs = subst (λ d. KeepsAllBlobs d a b) to left.blobs;
}

ready_bytes : (dest : Dest) (image : Admission) (row : CopiedRow) (x y : List LaneTold) (r : ReadyImage) → IsMadeOf dest image row x y r → IsReady r → r.bytes ≡ image.manifest
ready_bytes dest image row x y r made ready = ready.converted.1 ∙ ap (λ i. i.manifest) made.image_is

abbrev pub AllWrote : Dest → Admission → List LaneTold → List LaneTold → Type 0
AllWrote dest image y z = OnEach (λ place a b. Wrote dest image a b) y z

pub all_wrote : (dest : Dest) (image : Admission) (row : CopiedRow) (x y z : List LaneTold) (r : ReadyImage) → IsMadeOf dest image row x y r → IsReady r → AllWritten r y z → AllWrote dest image y z
unfolding AllWritten
all_wrote dest image row x y z r made ready written = record { count = written.count; each = λ place a b ea eb. wrote_lane dest image r a b made.dest_is (ready_bytes dest image row x y r made ready) (written.each place a b ea eb) }

leaves_then : (dest : Dest) (image : Admission) (a b c : LaneTold) → Works dest a b → LeavesImage dest image b c → LeavesImage dest image a c
unfolding Works
leaves_then dest image a b c works left = record {
  later = later_then a b c works.later left.later;
  writes = writes_then (spot_of dest None) image.manifest a b c works.none left.writes;
  only = only_then dest a b c works.only left.only;
  fair = fair_then dest a.number a b c works.fair (subst (λ n. IsFairOn dest n b c) works.later.number left.fair);
}

pub written_left : (from : Source) (dest : Dest) (image : Admission) (x y z : List LaneTold) (done : ⊤) → Ends call_course (readying from dest image.jobs) (seen x None 0) (seen y None 0) (Ok done) → AllWork dest x y → AllWrote dest image y z → LeavesPlaced dest image x z
unfolding AllWork TakesLate
written_left from dest image x y z done ends works wrote = record {
  each = each_then (λ place a b. Works dest a b) (λ place a b. Wrote dest image a b) (λ place a b. LeavesImage dest image a b) (λ place a b c p q. leaves_then dest image a b c p q.leaves) x y z works wrote;
  late = inr (ready_may from dest image.jobs x y z done ends (wrote.count ∙ works.count));
}

-- the manifest was not written
cut_lane : (dest : Dest) (image : Admission) (a b c : LaneTold) → HasNoManifest dest a b → WritesNone b c × Wrote dest image b c → RemovesInOrder dest a c
cut_lane dest image a b c cleared cut = cleared_order dest a c (cleared_then dest b.number a b c cleared cut.1.leaves.fair cut.0)

pub written_lost : (dest : Dest) (image : Admission) (x y z : List LaneTold) → AllWork dest x y → IsFilled dest image.jobs x y → AllWrote dest image y z → WritesNowhere y z → IsLost dest x z
unfolding WritesNowhere
written_lost dest image x y z works filled wrote none = record {
  none = nowhere_then x y z (work_nowhere dest x y works) none;
  order = first_then (HasNoManifest dest) (λ b c. WritesNone b c × Wrote dest image b c) (RemovesInOrder dest) (cut_lane dest image) x y z filled.cleared
      (first_both WritesNone (Wrote dest image) y z (first_of (λ place b c. WritesNone b c) y z none) (first_of (λ place b c. Wrote dest image b c) y z wrote));
}

-- ---- and it stands

-- what stands on the first lane, by what it was made of
pub record Stands (dest : Dest) (image : Admission) (a b : LaneTold) : Type 0 where
  pub named : IsNamed dest None image.manifest a b
  pub signed : AreSigned dest None image.signatures a b
  pub alone : (entry : LaneTold) → IsAlone dest image.jobs [] entry a → IsAlone dest image.jobs image.signatures entry b

stands_lane : (dest : Dest) (image : Admission) (r : ReadyImage) (a b : LaneTold) → r.dest ≡ dest → r.image ≡ image → r.bytes ≡ image.manifest → IsFinished r a b → Stands dest image a b
stands_lane dest image r a b to it bytes end = record {
  named = subst (λ d. IsNamed d None image.manifest a b) to (subst (λ m. IsNamed r.dest None m a b) bytes end.named);
  signed = subst (λ d. AreSigned d None image.signatures a b) to (subst (λ i. AreSigned r.dest None i.signatures a b) it end.signed);
  alone = subst (λ d. (entry : LaneTold) → IsAlone d image.jobs [] entry a → IsAlone d image.jobs image.signatures entry b) to
      (subst (λ i. (entry : LaneTold) → IsAlone r.dest i.jobs [] entry a → IsAlone r.dest i.jobs i.signatures entry b) it end.alone);
}

pub first_stands : (dest : Dest) (image : Admission) (row : CopiedRow) (x y z : List LaneTold) (r : ReadyImage) → IsMadeOf dest image row x y r → IsReady r → OnFirst (IsFinished r) y z → OnFirst (Stands dest image) y z
first_stands dest image row x y z r made ready end = first_with (IsFinished r) (Stands dest image) (λ a b f. stands_lane dest image r a b made.dest_is made.image_is (ready_bytes dest image row x y r made ready) f) y z end

pub placed : (from : Source) (dest : Dest) (image : Admission) (x y z : List LaneTold) → AllWork dest x y → AreDone from dest image.jobs (length image.jobs) x y → IsFilled dest image.jobs x y → AllWrote dest image y z → OnFirst (Stands dest image) y z → KeepsFrom 1 y z → IsPlaced from dest image x z
unfolding AllWork
placed from dest image x y z works done filled wrote stands rest =
    let later : OnFirst IsLater x y = first_of (λ place a b. IsLater a b) x y (all_later dest x y works) in
    record {
      done = λ k job lt at. some_then (λ place a b. IsDone from dest job a b) (λ place b c. Wrote dest image b c) (λ place a c. IsDone from dest job a c) (λ place a b c d w. done_kept from dest job a b c d w.leaves.later (w.blobs job a d.has)) x y z (done k job lt at) wrote;
      named = first_then IsLater (Stands dest image) (IsNamed dest None image.manifest) (λ a b c l s. named_earlier dest None image.manifest a b c l s.named) x y z later stands;
      signed = first_then IsLater (Stands dest image) (AreSigned dest None image.signatures) (λ a b c l s. signed_earlier dest None image.signatures a b c l s.signed) x y z later stands;
      alone = first_then (IsAlone dest image.jobs []) (Stands dest image) (IsAlone dest image.jobs image.signatures) (λ a b c i s. s.alone a i) x y z filled.first stands;
      others = others_kept (AddsOnly dest (IsOfJobs image.jobs)) x y z filled.others rest;
    }
