-- Source and gate: from a plan to the image that the policy admits as the plan names it, step by step.
use Rattle.std.specs.Prelude.{None, Ok}
use Rattle.skopeo_outside.specs.Steps.{◌>>=◌, given}
use Rattle.skopeo_outside.specs.OnLanes.{LaneStep}
use Rattle.policy_file.specs.PolicyLists.{PolicyLists}
use Rattle.registries_conf.specs.Settings.{Settings}
use Rattle.transports.specs.declared.plan.CopyPlan.{CopyPlan}
use Rattle.transports.specs.declared.refusal.Refusal.{Refusal}
use Rattle.transports.specs.StepEnds.{reading}
use Rattle.transports.specs.Given.{SignaturesEnd}
use Rattle.transports.specs.Stores.{store_of}
use Rattle.transports.specs.Found.{found}
use Rattle.admission.specs.Parts.{kind_in, image_in}
use Rattle.admission.specs.GateTold.{GateStep, on_lane}
use Rattle.admission.specs.Judged.{Submission, judging}
use Rattle.admission.specs.Taken.{TakenImage}

-- what is put to the gate: the plan's image, from the source that answers, with its signatures
unfoldable pub submission : CopyPlan → Settings → LaneStep Refusal Submission
submission plan conf = do
  it ← found plan conf
  kind ← given (kind_in it.found.fetched)
  image ← given (image_in kind it.found.fetched)
  signatures ← reading (SignaturesEnd it.found.from (store_of plan it.place it.found.fetched.bytes) None)
  given (Ok (record { from = it.found.from; place = it.place; manifest = it.found.fetched.bytes; kind = kind; image = image; signatures = signatures }))

-- source and gate, by the list that the policy has for the image as it is named
unfoldable pub admission : CopyPlan → Settings → PolicyLists → GateStep TakenImage
admission plan conf policy = do
  s ← on_lane (submission plan conf)
  judging plan policy s
