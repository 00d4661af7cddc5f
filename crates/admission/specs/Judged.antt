-- How an image is judged: what is put to the gate, and what comes of the gate's end.
use Rattle.std.specs.Prelude.{◌≡◌, ◌-◌, ◌^◌, ◌<◌, ℕ, List, Option, Some, None, Result, Ok, Err, ⊤, All, length}
use Rattle.std.specs.Option.{option_map}
use Rattle.skopeo_outside.specs.Tree.{Tree}
use Rattle.skopeo_outside.specs.Helper.{HelperRun, Runs}
use Rattle.json_tree.specs.Tree.{tree as json}
use Rattle.image_ref.specs.Digest.{digest_text}
use Rattle.image_ref.specs.declared.place.Place.{Place}
use Rattle.digest_reader.specs.Digests.{digest}
use Rattle.manifest_v2s2.specs.declared.image.Image.{Image}
use Rattle.manifest_v2s2.specs.declared.kind.Kind.{Kind}
use Rattle.manifest_convert.specs.Blobs.{blobs}
use Rattle.policy_file.specs.PolicyLists.{PolicyLists}
use Rattle.policy_scope.specs.Seen.{reference_in}
use Rattle.policy_scope.specs.Chosen.{Choice, chosen}
use Rattle.policy_gate.specs.declared.fault.GateFault.{GateFault}
use Rattle.policy_gate.specs.declared.fault.GateFault.TheVariants as gate
use Rattle.policy_gate.specs.Gate.{Case, Ends as GateEnds}
use Rattle.policy_gate.specs.Calls.{Gained, GateCause}
use Rattle.transports.specs.declared.source.Source.{Source}
use Rattle.transports.specs.declared.plan.CopyPlan.{CopyPlan}
use Rattle.transports.specs.declared.refusal.Refusal.{Refusal}
use Rattle.transports.specs.declared.refusal.Refusal.TheVariants as refusal
use Rattle.transports.specs.Has.{IsUntouched}
use Rattle.admission.specs.GateTold.{GateTold, GateStep, IsLaterGate}
use Rattle.admission.specs.Admission.{Admission}
use Rattle.admission.specs.Taken.{TakenImage}

-- what is put to the gate: the source that answered, the image as it is named, its manifest, what that is, and its signatures
pub record Submission : Type 0 where
  pub from : Source
  pub place : Place
  pub manifest : List ℕ
  pub kind : Kind
  pub image : Image
  pub signatures : List (List ℕ)

-- the case of it, by the plan's verifier and folder, over files that tell this tree
abbrev pub case_in : CopyPlan → Submission → Option Tree → Case
case_in plan s files = record {
  subject = record { named = reference_in s.place; digest = digest_text (digest s.manifest) };
  signatures = s.signatures;
  program = plan.verifier;
  cwd = plan.cwd;
  tree = files;
}

-- the image that is admitted of it, by what was told before and after
abbrev pub admission_of : CopyPlan → PolicyLists → Submission → GateTold → GateTold → Admission
admission_of plan policy s old new = record {
  policy = policy;
  place = s.place;
  manifest = s.manifest;
  kind = s.kind;
  image = s.image;
  jobs = blobs s.image;
  signatures = s.signatures;
  program = plan.verifier;
  cwd = plan.cwd;
  files = old.lane.files.tree;
  before = old.helper.runs;
  after = new.helper.runs;
}

-- the refusal that a fault of the gate is, with the counts of the files' and the helper's faults
abbrev pub refusal_of : ℕ → ℕ → GateFault → Refusal
refusal_of files helper (gate.Rejected scope place why) = refusal.Rejected scope place why
refusal_of files helper (gate.Garbled status front) = refusal.Garbled status front
refusal_of files helper (gate.TooLarge what length) = refusal.TooLarge what length
refusal_of files helper gate.Files = refusal.Files files
refusal_of files helper gate.Helper = refusal.Helper helper
refusal_of files helper gate.Memory = refusal.Memory

-- the image that the gate's end admits, or the refusal that it is
abbrev pub taken_by : CopyPlan → PolicyLists → Submission → GateTold → GateTold → Result ⊤ GateFault → Result TakenImage Refusal
taken_by plan policy s old new (Ok done) = Ok (record { from = s.from; image = admission_of plan policy s old new })
taken_by plan policy s old new (Err fault) = Err (refusal_of new.lane.files.faults new.helper.faults fault)

-- the gate came to this end over the runs that were gained, by the list that the policy has for the image as it is named; an
-- object is blamed only where its count rose; and no file and no destination was touched
pub record IsJudged (plan : CopyPlan) (policy : PolicyLists) (s : Submission) (old new : GateTold) (result : Result TakenImage Refusal) : Type 0 where
  pub answer : Result ⊤ GateFault
  pub ends : (let choice = chosen policy s.place in
      Gained old.helper.runs new.helper.runs (GateEnds (case_in plan s old.lane.files.tree) choice.scope choice.list answer))
  pub cause : GateCause old.lane.files.faults new.lane.files.faults old.helper.faults new.helper.faults answer
  pub later : IsLaterGate old new
  pub untouched : IsUntouched old.lane new.lane
  pub is : result ≡ taken_by plan policy s old new answer

-- the same, as a step
unfoldable pub judging : CopyPlan → PolicyLists → Submission → GateStep TakenImage
judging plan policy s old new result = IsJudged plan policy s old new result

-- ---- at every exit

-- the run asked this program
abbrev pub IsOfProgram : Option (List ℕ) → HelperRun → Type 0
IsOfProgram program run = program ≡ Some run.program

-- the helper gained runs of the plan's verifier alone; where none is named, none
abbrev pub AsksOnly : CopyPlan → Runs → Runs → Type 0
AsksOnly plan old new = Gained old new (λ runs. All (IsOfProgram plan.verifier) runs)
