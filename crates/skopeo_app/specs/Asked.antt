-- The copy that words ask for, apart from how they are read. `Task` has it as a function, with its refusals.
use Rattle.std.specs.Prelude.{◌≡◌, List, ℕ, Bool, true, false}
use Rattle.std.specs.Option.{option_map}
use Rattle.image_ref.specs.Path.{cleaned}
use Rattle.image_ref.specs.Place.{PlaceOf}
use Rattle.skopeo_words.specs.CopyOf.{CopyOf}
use Rattle.skopeo_words.specs.declared.command.Common.{Common}
use Rattle.skopeo_words.specs.declared.command.Passing.{Passing}
use Rattle.transports.specs.Places.{IsBetweenPlaces}
use Rattle.skopeo_app.specs.Plan.{lanes_for, short_for}
use Rattle.skopeo_app.specs.Task.{asks_more, are_built, choice_of, conf_choice_of}
use Rattle.skopeo_app.specs.declared.task.CopyTask.{CopyTask}

-- the words are a `copy`; its operands spell the places of the task, which are built and not one folder, and with
-- `--short-names` the short name, where the source is one; its options choose the policy, the configuration, the lanes, the
-- use of TLS, the store of signatures and the program that judges them, and ask for nothing that is not built; the program's
-- path and those of keys count from the folder
pub record AsksCopy (words : List (List ℕ)) (cwd : List ℕ) (task : CopyTask) : Type 0 where
  pub common : Common
  pub passing : Passing
  pub short_names : Bool
  pub source : List ℕ
  pub dest : List ℕ
  pub asked : CopyOf words common passing task.quiet short_names source dest
  pub from : PlaceOf cwd source task.plan.source
  pub short : task.plan.short ≡ short_for short_names task.plan.source source
  pub to : PlaceOf cwd dest task.plan.dest
  pub apart : IsBetweenPlaces task.plan
  pub built : are_built task.plan ≡ true
  pub plain : asks_more common passing ≡ false
  pub lanes : task.plan.lanes ≡ lanes_for common
  pub tls : task.plan.src_tls ≡ passing.src_tls
  pub lookaside : task.plan.lookaside ≡ passing.lookaside
  pub verifier : task.plan.verifier ≡ option_map (cleaned cwd) passing.verifier
  pub folder : task.plan.cwd ≡ cwd
  pub policy : task.policy ≡ choice_of cwd common
  pub conf : task.conf ≡ conf_choice_of cwd common task.plan.source
