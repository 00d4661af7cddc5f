-- What holds behind the steps of the command, and behind the telling of its end: the words of private contracts.
use Rattle.std.specs.Prelude.{◌≡◌, ◌⊎◌, List, ℕ, Result, Ok, Err}
use Rattle.skopeo_outside.specs.Seen.{KeepsFrom}
use Rattle.transports.specs.declared.refusal.Refusal.TheVariants as image
use Rattle.skopeo_app.specs.declared.refusal.CommandRefusal.{CommandRefusal}
use Rattle.skopeo_app.specs.declared.refusal.CommandRefusal.TheVariants as refusal
use Rattle.skopeo_app.specs.declared.run.Done.{Done}
use Rattle.skopeo_app.specs.Sinks.{SinkTold, IsLaterSink, Gained}
use Rattle.skopeo_app.specs.Courses.{CommandTold}
use Rattle.skopeo_app.specs.Task.{task_of, lanes_of}
use Rattle.skopeo_app.specs.Lines.{status_of, status_of_refusal, refusal_line, err_lines}
use Rattle.skopeo_app.specs.Asks.{AsksAt}
use Rattle.skopeo_app.specs.Headline.{Headline}
use Rattle.skopeo_app.specs.Stops.{Leaves}
use Rattle.skopeo_app.specs.Answer.{IsAnswer}

-- what holds of the steps of the command
pub record IsRun (words : List (List ℕ)) (home cwd : List ℕ) (before after : CommandTold) (answer : Result Done CommandRefusal) : Type 0 where
  pub headline : Headline words home cwd before.seen after.seen
  pub leaves : Leaves words home cwd before.seen after.seen
  pub rest : KeepsFrom (lanes_of (task_of words cwd)) before.seen.lanes after.seen.lanes
  pub asks : AsksAt (task_of words cwd) before.seen.helper.runs after.seen.helper.runs
  pub is : IsAnswer words home cwd before after answer

-- a refusal, or want of memory, was told by its line and its status
pub record Tells (given : CommandRefusal) (code : ℕ) (old new : SinkTold) : Type 0 where
  pub told : CommandRefusal
  pub same : (told ≡ given) ⊎ (told ≡ refusal.Image image.Memory)
  pub status : code ≡ status_of_refusal told
  pub line : Gained (refusal_line told) old new
  pub later : IsLaterSink old new

-- a refusal that could not be told for want of memory
abbrev pub IsUntellable : Result Done CommandRefusal → Result Done CommandRefusal → Type 0
IsUntellable (Ok done) answer = ⊥
IsUntellable (Err e) answer = answer ≡ Err (refusal.Image image.Memory)

-- an end was told: nothing where the command was done, or the refusal, or want of memory in its place
pub record Finishes (ended : Result Done CommandRefusal) (code : ℕ) (old new : SinkTold) : Type 0 where
  pub answer : Result Done CommandRefusal
  pub same : (answer ≡ ended) ⊎ IsUntellable ended answer
  pub status : code ≡ status_of answer
  pub line : Gained (err_lines answer) old new
  pub later : IsLaterSink old new
