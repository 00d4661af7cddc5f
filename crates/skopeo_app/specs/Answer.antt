-- The end of the command: its answer, its status, and its lines.
use Rattle.std.specs.Prelude.{◌≡◌, List, ℕ, true, Result, Err, IfErr, IfOk}
use Rattle.skopeo_outside.specs.LaneTold.{LaneTold}
use Rattle.skopeo_outside.specs.Helper.{Runs}
use Rattle.skopeo_outside.specs.Seen.{seen}
use Rattle.skopeo_outside.specs.Steps.{Ends}
use Rattle.skopeo_app.specs.declared.refusal.CommandRefusal.{CommandRefusal}
use Rattle.skopeo_app.specs.declared.run.Done.{Done}
use Rattle.skopeo_app.specs.Sinks.{SinkTold, IsLaterSink, Gained}
use Rattle.skopeo_app.specs.Refusals.{is_of_words, is_ahead}
use Rattle.skopeo_app.specs.Courses.{CommandTold, command_course}
use Rattle.skopeo_app.specs.Task.{task_of}
use Rattle.skopeo_app.specs.Lines.{status_of, err_lines}
use Rattle.skopeo_app.specs.Ending.{ending}
use Rattle.skopeo_app.specs.Stops.{AreUntouched, StopsAt, StandsAt}

-- what lanes, the helper and the output tell
abbrev pub told_by : List LaneTold → Runs → ℕ → SinkTold → CommandTold
told_by lanes runs faults out = record { seen = seen lanes runs faults; out = out }

-- a refusal of the words comes only where the words are refused so
abbrev pub IsOfWords : {A : Type 0} → Result A CommandRefusal → List (List ℕ) → List ℕ → Type 0
IsOfWords answer words cwd = IfErr answer (λ e. is_of_words e ≡ true → task_of words cwd ≡ Err e)

-- a refusal that comes ahead of the first change of a file leaves all as it was
abbrev pub LeavesAll : {A : Type 0} → Result A CommandRefusal → CommandTold → CommandTold → Type 0
LeavesAll answer before after = IfErr answer (λ e. is_ahead e ≡ true → AreUntouched before.seen after.seen)

-- what holds of an answer: it is an end of the command's steps, or want of memory; and what stands then
pub record IsAnswer (words : List (List ℕ)) (home cwd : List ℕ) (before after : CommandTold) (answer : Result Done CommandRefusal) : Type 0 where
  pub ends : Ends command_course (ending words home cwd) before after answer
  pub of_words : IsOfWords answer words cwd
  pub untouched : LeavesAll answer before after
  pub stops : IfErr answer (StopsAt (task_of words cwd) home cwd before after)
  pub stands : IfOk answer (StandsAt (task_of words cwd) home cwd before after)

-- the command ended with an answer, with its status, and with its lines on `err`
pub record CommandEnds (words : List (List ℕ)) (home cwd : List ℕ) (before after : CommandTold) (err_before err_after : SinkTold) (code : ℕ) : Type 0 where
  pub answer : Result Done CommandRefusal
  pub is : IsAnswer words home cwd before after answer
  pub status : code ≡ status_of answer
  pub told : Gained (err_lines answer) err_before err_after
  pub later : IsLaterSink err_before err_after
