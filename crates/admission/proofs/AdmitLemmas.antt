-- What comes of an image that was judged.
use Rattle.std.proofs.Common.{◌≡◌, ◌∙◌, ◌-◌, ◌^◌, ◌<◌, ◌≤◌, List, ℕ, Bool, true, false, Option, Result, Ok, Err, length, refl, sym, ap, subst}
use Rattle.skopeo_outside.specs.Tree.{Tree}
use Rattle.skopeo_outside.specs.Helper.{Runs}
use Rattle.skopeo_outside.specs.LaneTold.{LaneTold, IsLater}
use Rattle.skopeo_outside.specs.Steps.{Ends, EndsBy, Says, SaysBy}
use Rattle.json_tree.specs.Tree.{tree as json}
use Rattle.digest_reader.specs.declared.job.Job.{Job}
use Rattle.manifest_v2s2.specs.IsImage.{SaysImage}
use Rattle.manifest_convert.specs.Blobs.{AreJobsOf, descriptors, blobs}
use Rattle.manifest_convert.proofs.BlobLemmas.{AreJobsOf-blobs}
use Rattle.policy_file.specs.PolicyLists.{PolicyLists}
use Rattle.policy_scope.specs.Chosen.{chosen}
use Rattle.policy_gate.specs.declared.fault.GateFault.{GateFault}
use Rattle.policy_gate.specs.Gate.{AreHeld, Ends as GateEnds}
use Rattle.policy_gate.specs.Calls.{Gained, GateCause}
use Rattle.transports.specs.declared.source.Source.{Source}
use Rattle.transports.specs.declared.source.Source.TheVariants.{Folder, Registry}
use Rattle.transports.specs.declared.plan.CopyPlan.{CopyPlan}
use Rattle.transports.specs.declared.refusal.Refusal.{Refusal}
use Rattle.transports.specs.declared.refusal.Refusal.TheVariants as refusal
use Rattle.transports.specs.Refusals.{is_memory}
use Rattle.transports.specs.Calls.{OnFiles}
use Rattle.transports.specs.Given.{Spares}
use Rattle.transports.specs.Has.{IsUntouched}
use Rattle.transports.proofs.FolderLemmas.{later_by, untouched_by, spares_by}
use Rattle.admission.specs.Admission.{Admission, IsSound}
use Rattle.admission.specs.Taken.{TakenImage}
use Rattle.admission.specs.GateTold.{GateTold, IsLaterGate, gate_course, told_at}
use Rattle.admission.specs.Judged.{Submission, case_in, refusal_of, IsJudged, judging}
use Rattle.admission.specs.Calls.{taken_at}
use Rattle.admission.proofs.CountLemmas.{chosen_counts}
use Rattle.admission.proofs.JobLemmas.{are_jobs, few_jobs}
use Rattle.admission.proofs.GateLemmas.{cause_ok, cause_err}

-- ---- the image

-- it is as it was put to the gate
abbrev image_of : CopyPlan → PolicyLists → Submission → List Job → Option Tree → Runs → Runs → Admission
image_of plan policy s jobs tree before after = record {
  policy = policy;
  place = s.place;
  manifest = s.manifest;
  kind = s.kind;
  image = s.image;
  jobs = jobs;
  signatures = s.signatures;
  program = plan.verifier;
  cwd = plan.cwd;
  files = tree;
  before = before;
  after = after;
}

-- it is sound where each requirement holds
pub is_sound : (plan : CopyPlan) (policy : PolicyLists) (s : Submission) (jobs : List Job) (tree : Option Tree) (before after : Runs) → Gained before after (AreHeld (case_in plan s tree) (chosen policy s.place).list)
    → SaysImage s.kind (json s.manifest) s.image → jobs ≡ blobs s.image → length (descriptors s.image) < 2 ^ 32 - 16 → IsSound (image_of plan policy s jobs tree before after)
is_sound plan policy s jobs tree before after held is same few = (
  record {
    list = (chosen policy s.place).list;
    counts = chosen_counts policy s.place;
    gate = held;
    is_image = is;
    jobs_are = subst (AreJobsOf (descriptors s.image)) (sym same) (AreJobsOf-blobs s.image);
  },
  record { are = are_jobs s.image jobs same; few = few_jobs s.image jobs (2 ^ 32 - 16) same few },
)

-- it is taken
pub takes : (plan : CopyPlan) (policy : PolicyLists) (s : Submission) (jobs : List Job) (tree : Option Tree) (before after : Runs) → jobs ≡ blobs s.image
    → Says gate_course (Ok (taken_at plan policy s tree before after)) (Ok (record { from = s.from; image = image_of plan policy s jobs tree before after }))
unfolding Says
takes plan policy s jobs tree before after same = ap (λ js. Ok (record { from = s.from; image = image_of plan policy s js tree before after })) (sym same)

-- want of memory may come always
pub wants : {A : Type 0} (wanted : Result A Refusal) → Says gate_course wanted (Err refusal.Memory)
unfolding Says gate_course
wants wanted = λ a. tt

-- ---- the step

-- the files took part alone, and so the source is spared
pub spares_judged : (s : Source) (a b : LaneTold) → OnFiles a b → b.files.tree ≡ a.files.tree → a.files.faults ≤ b.files.faults → Spares s a b
unfolding Spares
spares_judged (Folder path) a b on same le = spares_by path a b same
spares_judged (Registry r) a b on same le = later_by a b on same le

-- what was judged is an end of the step
judged_ends : (plan : CopyPlan) (policy : PolicyLists) (s : Submission) (a b : GateTold) (r : Result TakenImage Refusal) → IsJudged plan policy s a b r → Ends gate_course (judging plan policy s) a b r
unfolding Ends gate_course judging
judged_ends plan policy s a b (Ok x) judged = record { later = judged.later; ends = judged }
judged_ends plan policy s a b (Err e) judged = record { later = judged.later; ends = by (is_memory e) }
  where
    by : (f : Bool) → EndsBy {A = TakenImage} f gate_course e (judging plan policy s) a b
    by true = tt
    by false = judged

-- a fault of the gate is a refusal
pub judged_refuses : (plan : CopyPlan) (policy : PolicyLists) (s : Submission) (a b : LaneTold) (before after : Runs) (ho hn : ℕ) (fault : GateFault) (e : Refusal) → OnFiles a b → b.files.tree ≡ a.files.tree
    → Gained before after (GateEnds (case_in plan s a.files.tree) (chosen policy s.place).scope (chosen policy s.place).list (Err fault))
    → GateCause {A = Submission} a.files.faults b.files.faults ho hn (Err fault) → e ≡ refusal_of b.files.faults hn fault
    → Ends gate_course (judging plan policy s) (told_at a before ho) (told_at b after hn) (Err e)
judged_refuses plan policy s a b before after ho hn fault e on same ends cause is = judged_ends plan policy s (told_at a before ho) (told_at b after hn) (Err e) (record {
  answer = Err fault;
  ends = ends;
  cause = cause_err a.files.faults b.files.faults ho hn fault cause;
  later = record { lane = later_by a b on same cause.files_later; helper = cause.helper_later };
  untouched = untouched_by a b on same;
  is = ap (λ x. Err x) is;
})

-- the image is taken, or memory is wanting
pub judged_takes : (plan : CopyPlan) (policy : PolicyLists) (s kept : Submission) (a b : LaneTold) (before after : Runs) (ho hn : ℕ) (r : Result TakenImage Refusal) → OnFiles a b → b.files.tree ≡ a.files.tree → kept ≡ s
    → Gained before after (GateEnds (case_in plan s a.files.tree) (chosen policy s.place).scope (chosen policy s.place).list (Ok tt))
    → GateCause a.files.faults b.files.faults ho hn (Ok kept) → Says gate_course (Ok (taken_at plan policy kept a.files.tree before after)) r
    → Ends gate_course (judging plan policy s) (told_at a before ho) (told_at b after hn) r
unfolding Ends Says gate_course judging
judged_takes plan policy s kept a b before after ho hn (Ok x) on same is ends cause says = judged_ends plan policy s (told_at a before ho) (told_at b after hn) (Ok x) (record {
  answer = Ok tt;
  ends = ends;
  cause = cause_ok a.files.faults b.files.faults ho hn kept tt cause;
  later = record { lane = later_by a b on same cause.files_later; helper = cause.helper_later };
  untouched = untouched_by a b on same;
  is = sym says ∙ ap (λ k. Ok (taken_at plan policy k a.files.tree before after)) is;
})
judged_takes plan policy s kept a b before after ho hn (Err e) on same is ends cause says = record { later = record { lane = later_by a b on same cause.files_later; helper = cause.helper_later }; ends = by (is_memory e) says }
  where
    by : (f : Bool) → SaysBy f gate_course (Ok (taken_at plan policy kept a.files.tree before after)) e → EndsBy {A = TakenImage} f gate_course e (judging plan policy s) (told_at a before ho) (told_at b after hn)
    by true says = tt
    by false says = absurd (cc says)
