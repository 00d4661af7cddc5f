-- What holds behind the copy of an image, and behind that of a task: the words of private contracts.
use Rattle.std.specs.Prelude.{◌≡◌, ◌⊎◌, List, ℕ, true, false, Some, Result, IfErr, IfOk, slice_get}
use Rattle.skopeo_outside.specs.LaneTold.{LaneTold}
use Rattle.skopeo_outside.specs.Seen.{Seen, KeepsFrom}
use Rattle.skopeo_outside.specs.Steps.{Ends}
use Rattle.transports.specs.declared.plan.CopyPlan.{CopyPlan}
use Rattle.transports.specs.declared.report.Copied.{Copied}
use Rattle.transports.specs.Writes.{Spot, IsWrite}
use Rattle.admission.specs.Judged.{AsksOnly}
use Rattle.copy_engine.specs.Headline.{IsCopied, ImageHeadline}
use Rattle.copy_engine.specs.Stops as engine
use Rattle.copy_engine.specs.Delivered.{Delivers}
use Rattle.copy_engine.specs.Walk.{image_end}
use Rattle.skopeo_app.specs.declared.refusal.CommandRefusal.{CommandRefusal}
use Rattle.skopeo_app.specs.declared.run.Done.{Done}
use Rattle.skopeo_app.specs.declared.rules.Rules.{Rules}
use Rattle.skopeo_app.specs.declared.task.CopyTask.{CopyTask}
use Rattle.skopeo_app.specs.Refusals.{is_of_words, is_of_copy, is_ahead}
use Rattle.skopeo_app.specs.Courses.{seen_course, CommandTold, command_course}
use Rattle.skopeo_app.specs.Headline.{RulesCount, first_tree}
use Rattle.skopeo_app.specs.Ending.{of_image, image_of_task, copy_end}
use Rattle.skopeo_app.specs.Stops.{AreUntouched, HasDelivered, CopyStops, IsCopy}

-- what the engine says of a copy, with the command's refusals
pub record CopiesImage (rules : Rules) (plan : CopyPlan) (old new : Seen) (result : Result Copied CommandRefusal) : Type 0 where
  pub ends : Ends seen_course (of_image (image_end plan rules.conf rules.policy)) old new result
  pub headline : ImageHeadline rules.policy rules.conf plan old new
  pub leaves : engine.Leaves rules.policy rules.conf plan old new
  pub gives_up : engine.GivesUp result plan old new
  pub delivered : IfOk result (λ copied. Delivers rules.policy rules.conf plan copied old new)
  pub rest : KeepsFrom plan.lanes old.lanes new.lanes
  pub asks : AsksOnly plan old.helper.runs new.helper.runs
  pub untouched : IfErr result (λ e. is_ahead e ≡ true → AreUntouched old new)
  pub other : IfErr result (λ e. is_of_copy e ≡ true)

-- behind each manifest that was written stands the image of the task, under the policy and the configuration that count
abbrev pub TaskHeadline : List ℕ → List ℕ → CopyTask → Seen → Seen → Type 0
TaskHeadline home cwd task old new = (lane : ℕ) (a b : LaneTold) (at : Spot) (bytes : List ℕ)
    → slice_get old.lanes lane ≡ Some a → slice_get new.lanes lane ≡ Some b → IsWrite a b at bytes
    → (rules : Rules) × RulesCount (first_tree old.lanes) home cwd task rules × IsCopied rules.policy rules.conf task.plan old new at bytes

-- nothing was touched, or it was by the image of the task, under the policy and the configuration that count
abbrev pub TaskLeaves : List ℕ → List ℕ → CopyTask → Seen → Seen → Type 0
TaskLeaves home cwd task old new =
    AreUntouched old new ⊎ ((rules : Rules) × RulesCount (first_tree old.lanes) home cwd task rules × engine.IsTouched rules.policy rules.conf task.plan old new)

-- what holds of the lanes and the helper behind a task's copy
pub record IsTaskRun (home cwd : List ℕ) (task : CopyTask) (old new : Seen) : Type 0 where
  pub headline : TaskHeadline home cwd task old new
  pub leaves : TaskLeaves home cwd task old new
  pub rest : KeepsFrom task.plan.lanes old.lanes new.lanes
  pub asks : AsksOnly task.plan old.helper.runs new.helper.runs

-- the image of a task was copied, or why not
pub record CopiesTask (home cwd : List ℕ) (task : CopyTask) (old new : Seen) (result : Result Copied CommandRefusal) : Type 0 where
  pub run : IsTaskRun home cwd task old new
  pub ends : Ends seen_course (image_of_task home cwd task) old new result
  pub gives_up : engine.GivesUp result task.plan old new
  pub delivered : IfOk result (HasDelivered home cwd task old new)
  pub untouched : IfErr result (λ e. is_ahead e ≡ true → AreUntouched old new)
  pub other : IfErr result (λ e. is_of_copy e ≡ true)

-- and its lines were printed
pub record IsCopyAnswer (home cwd : List ℕ) (task : CopyTask) (before after : CommandTold) (answer : Result Done CommandRefusal) : Type 0 where
  pub run : IsTaskRun home cwd task before.seen after.seen
  pub ends : Ends command_course (copy_end home cwd task) before after answer
  pub stops : IfErr answer (CopyStops home cwd task before after)
  pub stands : IfOk answer (IsCopy home cwd task before after)
  pub untouched : IfErr answer (λ e. is_ahead e ≡ true → AreUntouched before.seen after.seen)
  pub other : IfErr answer (λ e. is_of_words e ≡ false)
