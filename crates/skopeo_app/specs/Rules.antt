-- The step that reads what a copy is judged by: the policy, and then the configuration of the registries.
use Rattle.std.specs.Prelude.{List, ℕ, Ok}
use Rattle.skopeo_outside.specs.Steps.{◌>>=◌, given}
use Rattle.skopeo_outside.specs.OnLanes.{LaneStep}
use Rattle.skopeo_app.specs.declared.refusal.CommandRefusal.{CommandRefusal}
use Rattle.skopeo_app.specs.declared.rules.Rules.{Rules}
use Rattle.skopeo_app.specs.declared.task.CopyTask.{CopyTask}
use Rattle.skopeo_app.specs.Policy.{policy_end}
use Rattle.skopeo_app.specs.Conf.{conf_end}

-- both, as they count for a task
unfoldable pub rules_end : List ℕ → List ℕ → CopyTask → LaneStep CommandRefusal Rules
rules_end home cwd task = do
  policy ← policy_end home cwd task.policy
  conf ← conf_end home cwd task.conf
  given (Ok (record { policy = policy; conf = conf }))
