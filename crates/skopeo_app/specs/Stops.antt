-- What the command leaves, at every exit; and what stands where it stopped, and where a copy was done.
use Rattle.std.specs.Prelude.{◌≡◌, ◌⊎◌, List, ℕ, false, Result, Ok, Err}
use Rattle.skopeo_outside.specs.Seen.{Seen, OnEach}
use Rattle.transports.specs.declared.report.Copied.{Copied}
use Rattle.transports.specs.Has.{IsUntouched}
use Rattle.copy_engine.specs.Stops.{IsTouched, IsGivenUp}
use Rattle.copy_engine.specs.Delivered.{Delivers}
use Rattle.skopeo_app.specs.declared.refusal.CommandRefusal.{CommandRefusal}
use Rattle.skopeo_app.specs.declared.run.Done.{Done}
use Rattle.skopeo_app.specs.declared.rules.Rules.{Rules}
use Rattle.skopeo_app.specs.declared.task.CopyTask.{CopyTask}
use Rattle.skopeo_app.specs.declared.task.Task.{Task}
use Rattle.skopeo_app.specs.declared.task.Task.TheVariants.{Page, Copy}
use Rattle.skopeo_app.specs.Sinks.{SinkTold, Gains}
use Rattle.skopeo_app.specs.Refusals.{IsUnprinted, is_output}
use Rattle.skopeo_app.specs.Courses.{CommandTold}
use Rattle.skopeo_app.specs.Headline.{RulesCount, IsAsked, first_tree}
use Rattle.skopeo_app.specs.Ending.{page_done, copy_done}

-- ---- at every exit

-- each lane's files, and what was said to destinations, are as they were
abbrev pub AreUntouched : Seen → Seen → Type 0
AreUntouched old new = OnEach (λ lane a b. IsUntouched a b) old.lanes new.lanes

-- what touched a destination: the words name a copy to it; its image, from a source that the configuration which counts
-- gives, was admitted in this call by the policy that counts,
-- the destination could be replaced as it was at first, nothing else was touched, and each path in it is fair
pub record IsCommandTouch (words : List (List ℕ)) (home cwd : List ℕ) (old new : Seen) : Type 0 where
  pub task : CopyTask
  pub rules : Rules
  pub asked : IsAsked words home cwd old task rules
  pub touched : IsTouched rules.policy rules.conf task.plan old new

-- nothing was touched, or it was done so
abbrev pub Leaves : List (List ℕ) → List ℕ → List ℕ → Seen → Seen → Type 0
Leaves words home cwd old new = AreUntouched old new ⊎ IsCommandTouch words home cwd old new

-- ---- where the command stopped

-- nothing was printed, and the output is not blamed
pub record IsSilent (old new : SinkTold) (e : CommandRefusal) : Type 0 where
  pub same : new ≡ old
  pub other : is_output e ≡ false

-- the image that the policy which counts admits stands at the task's destination, and nothing else in it, and this tells it
pub record HasDelivered (home cwd : List ℕ) (task : CopyTask) (old new : Seen) (copied : Copied) : Type 0 where
  pub rules : Rules
  pub counts : RulesCount (first_tree old.lanes) home cwd task rules
  pub delivers : Delivers rules.policy rules.conf task.plan copied old new

-- an image was copied, and its lines could not be printed
pub record IsUntold (home cwd : List ℕ) (task : CopyTask) (before after : CommandTold) (e : CommandRefusal) : Type 0 where
  pub copied : Copied
  pub delivered : HasDelivered home cwd task before.seen after.seen copied
  pub unprinted : IsUnprinted (copy_done task.quiet copied).lines before.out after.out e

-- a copy stopped: no manifest was written, what was lost was lost in order, and nothing was printed; or the image was copied
abbrev pub CopyStops : List ℕ → List ℕ → CopyTask → CommandTold → CommandTold → CommandRefusal → Type 0
CopyStops home cwd task before after e =
    (IsGivenUp task.plan before.seen after.seen × IsSilent before.out after.out e) ⊎ IsUntold home cwd task before after e

-- a text could not be printed, or printing it was not begun
abbrev pub PageStops : List ℕ → CommandTold → CommandTold → CommandRefusal → Type 0
PageStops text before after e = (after.seen ≡ before.seen) × (IsSilent before.out after.out e ⊎ IsUnprinted text before.out after.out e)

-- by what the words ask for; where they are refused nothing changed
abbrev pub StopsAt : Result Task CommandRefusal → List ℕ → List ℕ → CommandTold → CommandTold → CommandRefusal → Type 0
StopsAt (Ok (Page text)) home cwd before after e = PageStops text before after e
StopsAt (Ok (Copy task)) home cwd before after e = CopyStops home cwd task before after e
StopsAt (Err fault) home cwd before after e = (after.seen ≡ before.seen) × IsSilent before.out after.out e

-- ---- where it was done

-- the text was printed, and nothing else changed
pub record IsPage (text : List ℕ) (before after : CommandTold) (done : Done) : Type 0 where
  pub is : done ≡ page_done text
  pub same : after.seen ≡ before.seen
  pub printed : Gains text before.out after.out

-- an image was copied, and its lines were printed
pub record IsCopy (home cwd : List ℕ) (task : CopyTask) (before after : CommandTold) (done : Done) : Type 0 where
  pub copied : Copied
  pub is : done ≡ copy_done task.quiet copied
  pub delivered : HasDelivered home cwd task before.seen after.seen copied
  pub printed : Gains done.lines before.out after.out

-- by what the words ask for
abbrev pub StandsAt : Result Task CommandRefusal → List ℕ → List ℕ → CommandTold → CommandTold → Done → Type 0
StandsAt (Ok (Page text)) home cwd before after done = IsPage text before after done
StandsAt (Ok (Copy task)) home cwd before after done = IsCopy home cwd task before after done
StandsAt (Err fault) home cwd before after done = ⊥
