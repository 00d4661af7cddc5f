use Rattle.std.proofs.Common.{rules, ◌≡◌, Result, Err}
use Rattle.transports.specs.declared.report.Copied.{Copied}
use Rattle.skopeo_app.specs.declared.refusal.CommandRefusal.{CommandRefusal}
use Rattle.skopeo_app.proofs.ImageLemmas.{rules_refused, copied_behind}
use Rattle.skopeo_app.proofs.run.copy_named.Goals as goal

pub returns-in_err-rules : goal.returns-in_err-rules
returns-in_err-rules g c =
    let r : ◌≡◌ {A = Result Copied CommandRefusal} c.from_residual.result (Err c.in_err-rules.field-0.0) = search rules in
    record { copies = rw (r) (rules_refused c.args.home.now c.args.cwd.now c.args.task.now _ _ c.in_err-rules.field-0.0 c.requires.plan.lanes (c.in_err-rules.ensures.reads _ _)) }

pub returns : goal.returns
returns g c = record { copies = copied_behind c.args.home.now c.args.cwd.now c.args.task.now c.in_ok-rules.rules _ _ _ c.copy_plan.result c.requires.plan.lanes (c.in_ok-rules.ensures.reads _ _) c.copy_plan.ensures.copies }
