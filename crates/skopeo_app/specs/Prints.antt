-- What holds behind lines that were to be printed: the words of private contracts.
use Rattle.std.specs.Prelude.{◌≡◌, List, ℕ, Result, IfErr, IfOk, OnOk}
use Rattle.skopeo_app.specs.declared.refusal.CommandRefusal.{CommandRefusal}
use Rattle.skopeo_app.specs.declared.run.Done.{Done}
use Rattle.skopeo_app.specs.Sinks.{SinkTold, IsLaterSink, Gains}
use Rattle.skopeo_app.specs.Refusals.{IsUnprinted, BlamesOutput}
use Rattle.skopeo_app.specs.Ending.{page_done}

-- lines were printed, or why not
pub record Prints {A : Type 0} (lines : List ℕ) (old new : SinkTold) (result : Result A CommandRefusal) : Type 0 where
  pub later : IsLaterSink old new
  pub printed : OnOk result (Gains lines old new)
  pub unprinted : IfErr result (IsUnprinted lines old new)
  pub blamed : IfErr result (λ e. BlamesOutput e old new)

-- a text was printed, or why not
pub record IsPageAnswer (text : List ℕ) (old new : SinkTold) (answer : Result Done CommandRefusal) : Type 0 where
  pub is : IfOk answer (λ done. done ≡ page_done text)
  pub prints : Prints text old new answer
