-- How the command ends: its steps in order, the first refusal counting. Each step says which ends it may come to between
-- what was told before it and behind it.
use Rattle.std.specs.Prelude.{◌≡◌, [], List, ℕ, Bool, if◌then◌else◌, Some, None, Ok, Err}
use Rattle.skopeo_outside.specs.Steps.{◌>>=◌, given, Ends}
use Rattle.skopeo_outside.specs.OnLanes.{SeenStep, on_first}
use Rattle.transports.specs.declared.report.Copied.{Copied}
use Rattle.transports.specs.declared.refusal.Refusal.{Refusal}
use Rattle.copy_engine.specs.Walk.{image_end}
use Rattle.skopeo_app.specs.declared.refusal.CommandRefusal.{CommandRefusal}
use Rattle.skopeo_app.specs.declared.refusal.CommandRefusal.TheVariants.{Image}
use Rattle.skopeo_app.specs.declared.run.Done.{Done}
use Rattle.skopeo_app.specs.declared.task.CopyTask.{CopyTask}
use Rattle.skopeo_app.specs.declared.task.Task.{Task}
use Rattle.skopeo_app.specs.declared.task.Task.TheVariants.{Page, Copy}
use Rattle.skopeo_app.specs.Sinks.{Gains}
use Rattle.skopeo_app.specs.Refusals.{BlamesOutput, IsUnprinted}
use Rattle.skopeo_app.specs.Courses.{lane_course, seen_course, CommandStep}
use Rattle.skopeo_app.specs.Task.{task_of}
use Rattle.skopeo_app.specs.Rules.{rules_end}

-- a text that is printed
abbrev pub page_done : List ℕ → Done
page_done text = record { rows = None; lines = text }

-- an image that was copied; a quiet copy prints nothing
abbrev pub copy_done : Bool → Copied → Done
copy_done quiet copied = record { rows = Some copied.rows; lines = if quiet then [] else copied.lines }

-- a step of an image's copy, whose refusals are the image's
unfoldable pub of_image : {A : Type 0} → SeenStep Refusal A → SeenStep CommandRefusal A
of_image step old new (Ok x) = step old new (Ok x)
of_image step old new (Err (Image e)) = step old new (Err e)
of_image step old new (Err e) = ⊥

-- the policy and the configuration of a copy are read on the first lane, and then its image is copied
unfoldable pub image_of_task : List ℕ → List ℕ → CopyTask → SeenStep CommandRefusal Copied
image_of_task home cwd task = do
  rules ← on_first lane_course (rules_end home cwd task)
  of_image (image_end task.plan rules.conf rules.policy)

-- a step over the lanes; the output rests
unfoldable pub on_lanes : {A : Type 0} → SeenStep CommandRefusal A → CommandStep A
on_lanes step old new r = Ends seen_course step old.seen new.seen r × (new.out ≡ old.out)

-- lines are printed on the output: whole, or a front of them and the output's fault; the lanes rest
unfoldable pub printing : Done → CommandStep Done
printing done old new (Ok x) = (x ≡ done) × (new.seen ≡ old.seen) × Gains done.lines old.out new.out
printing done old new (Err e) = (new.seen ≡ old.seen) × IsUnprinted done.lines old.out new.out e × BlamesOutput e old.out new.out

-- one copy, and the lines of what was copied
unfoldable pub copy_end : List ℕ → List ℕ → CopyTask → CommandStep Done
copy_end home cwd task = do
  copied ← on_lanes (image_of_task home cwd task)
  printing (copy_done task.quiet copied)

abbrev pub task_end : List ℕ → List ℕ → Task → CommandStep Done
task_end home cwd (Page text) = printing (page_done text)
task_end home cwd (Copy task) = copy_end home cwd task

-- the words, and then what they ask for
unfoldable pub ending : List (List ℕ) → List ℕ → List ℕ → CommandStep Done
ending words home cwd = do
  task ← given (task_of words cwd)
  task_end home cwd task
