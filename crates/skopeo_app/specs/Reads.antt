-- How files are read that a copy is judged by: the words of private contracts.
use Rattle.std.specs.Prelude.{◌≡◌, ◌≤◌, List, ℕ, true, Result, IfErr, IfOk}
use Rattle.skopeo_outside.specs.Tree.{Tree}
use Rattle.skopeo_outside.specs.LaneTold.{LaneTold}
use Rattle.skopeo_outside.specs.declared.stop.Stop.{Stop}
use Rattle.skopeo_outside.specs.declared.stop.Stop.TheVariants as stop
use Rattle.skopeo_outside.specs.Seen.{Seen, OnEach, KeepsFrom}
use Rattle.skopeo_outside.specs.Steps.{Ends}
use Rattle.skopeo_outside.specs.OnLanes.{LaneStep, on_first}
use Rattle.transports.specs.declared.refusal.Refusal.TheVariants as image
use Rattle.transports.specs.Has.{IsUntouched}
use Rattle.skopeo_app.specs.declared.refusal.CommandRefusal.{CommandRefusal}
use Rattle.skopeo_app.specs.declared.refusal.CommandRefusal.TheVariants as refusal
use Rattle.skopeo_app.specs.declared.rules.Rules.{Rules}
use Rattle.skopeo_app.specs.declared.task.CopyTask.{CopyTask}
use Rattle.skopeo_app.specs.Refusals.{is_of_copy}
use Rattle.skopeo_app.specs.Courses.{lane_course, seen_course}
use Rattle.skopeo_app.specs.Usual.{by_tree}
use Rattle.skopeo_app.specs.Rules.{rules_end}
use Rattle.skopeo_app.specs.Headline.{RulesCount, first_tree}

-- the refusal that a stopped call of the files is
abbrev pub stopped : Stop → ℕ → CommandRefusal
stopped stop.Fault count = refusal.Image (image.Files count)
stopped stop.Memory count = refusal.Image image.Memory

-- a lane on which files were read alone
pub record IsQuiet (old new : LaneTold) : Type 0 where
  pub from : new.from ≡ old.from
  pub to : new.to ≡ old.to
  pub number : new.number ≡ old.number
  pub tree : new.files.tree ≡ old.files.tree
  pub faults : old.files.faults ≤ new.files.faults

-- what files say was read on a lane by a step, or why not
pub record ReadsAs {A : Type 0} (step : LaneTold → LaneTold → Result A CommandRefusal → Type 0) (old new : LaneTold) (result : Result A CommandRefusal) : Type 0 where
  pub ends : Ends lane_course step old new result
  pub quiet : IsQuiet old new
  pub other : IfErr result (λ e. is_of_copy e ≡ true)

-- the step that reads it of the lane's files
unfoldable pub by_files : {A : Type 0} → (Tree → Result A CommandRefusal) → LaneStep CommandRefusal A
by_files said old new r = by_tree said old new r × IsUntouched old new

-- what a task's copy is judged by was read on the first lane
pub record ReadsFirst (home cwd : List ℕ) (task : CopyTask) (old new : Seen) (result : Result Rules CommandRefusal) : Type 0 where
  pub ends : Ends seen_course (on_first lane_course (rules_end home cwd task)) old new result
  pub counts : IfOk result (RulesCount (first_tree old.lanes) home cwd task)
  pub quiet : OnEach (λ place a b. IsQuiet a b) old.lanes new.lanes
  pub rest : KeepsFrom 1 old.lanes new.lanes
  pub helper : new.helper ≡ old.helper
  pub other : IfErr result (λ e. is_of_copy e ≡ true)
