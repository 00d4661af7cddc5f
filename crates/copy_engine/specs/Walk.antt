-- How the copy of an image ends: its steps in order, the first refusal counting. Each step says which ends it may come to
-- between what was told before it and behind it; the walk puts them one after the other.
use Rattle.std.specs.Prelude.{◌≡◌, List, Result, Ok, Err, ⊤}
use Rattle.skopeo_outside.specs.Seen.{OnFirst, KeepsFrom}
use Rattle.skopeo_outside.specs.Steps.{◌>>=◌, given, Ends}
use Rattle.skopeo_outside.specs.OnLanes.{SeenStep, on_first}
use Rattle.digest_reader.specs.declared.job.Job.{Job}
use Rattle.policy_file.specs.PolicyLists.{PolicyLists}
use Rattle.registries_conf.specs.Settings.{Settings}
use Rattle.transports.specs.declared.source.Source.{Source}
use Rattle.transports.specs.declared.dest.Dest.{Dest}
use Rattle.transports.specs.declared.plan.CopyPlan.{CopyPlan}
use Rattle.transports.specs.declared.report.Copied.{Copied}
use Rattle.transports.specs.declared.refusal.Refusal.{Refusal}
use Rattle.transports.specs.Places.{dest_at}
use Rattle.transports.specs.Courses.{lane_course}
use Rattle.transports.specs.StepEnds.{taking, putting}
use Rattle.transports.specs.Fair.{AllWork}
use Rattle.admission.specs.Admission.{Admission}
use Rattle.admission.specs.GateTold.{GateStep, gate_course}
use Rattle.admission.specs.Walk.{admission}
use Rattle.copy_jobs.specs.Secured.{JobsEnd}
use Rattle.copy_engine.specs.Report.{copied_of}

-- that a step went well, without what it answered
abbrev pub forget : {A : Type 0} → Result A Refusal → Result ⊤ Refusal
forget (Ok x) = Ok tt
forget (Err e) = Err e

-- a step of the first lane and the helper, in its course; the other lanes rest
unfoldable pub at_gate : {A : Type 0} → GateStep A → SeenStep Refusal A
at_gate step old new r =
    OnFirst (λ a b. Ends gate_course step (record { lane = a; helper = old.helper }) (record { lane = b; helper = new.helper }) r) old.lanes new.lanes
    × KeepsFrom 1 old.lanes new.lanes

-- all jobs, on the lanes that are used; each lane works at the destination alone
unfoldable pub securing : Source → Dest → List Job → SeenStep Refusal ⊤
securing from to jobs old new r = JobsEnd from to jobs old.lanes new.lanes r × AllWork to old.lanes new.lanes × (new.helper ≡ old.helper)

-- the destination is taken, and then the jobs are done
unfoldable pub readying : Source → Dest → List Job → SeenStep Refusal ⊤
readying from to jobs = do
  _ ← on_first lane_course (taking to)
  securing from to jobs

-- an image that was admitted: the destination and the jobs, then its signatures and its manifest. (Place for conversion,
-- ahead of the destination.)
unfoldable pub placing : Source → Dest → Admission → SeenStep Refusal Copied
placing from to image = do
  _ ← readying from to image.jobs
  _ ← on_first lane_course (putting to)
  given (Ok (copied_of image))

-- one image. (Place for instances, each before its list.)
unfoldable pub image_end : CopyPlan → Settings → PolicyLists → SeenStep Refusal Copied
image_end plan conf policy = do
  to ← given (dest_at plan.dest)
  it ← at_gate (admission plan conf policy)
  placing it.from to it.image
