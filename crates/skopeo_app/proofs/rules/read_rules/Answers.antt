use Rattle.std.proofs.Common.{rules, ◌≡◌, Result, Err}
use Rattle.skopeo_app.specs.declared.rules.Rules.{Rules}
use Rattle.skopeo_app.specs.declared.refusal.CommandRefusal.{CommandRefusal}
use Rattle.skopeo_app.proofs.RulesLemmas.{policy_refused, conf_refused, rules_read}
use Rattle.skopeo_app.proofs.rules.read_rules.Goals as goal

pub returns-in_err-policy : goal.returns-in_err-policy
returns-in_err-policy g c =
    let r : ◌≡◌ {A = Result Rules CommandRefusal} c.from_residual.result (Err c.in_err-policy.field-0.0) = search rules in
    record { reads = rw (r) (policy_refused c.args.home.now c.args.cwd.now c.args.task.now _ _ c.in_err-policy.field-0.0 c.in_err-policy.ensures.reads) }

pub returns-in_err-conf : goal.returns-in_err-conf
returns-in_err-conf g c =
    let r : ◌≡◌ {A = Result Rules CommandRefusal} c.from_residual-in_err-conf.result (Err c.in_err-conf.field-0.0) = search rules in
    record { reads = rw (r) (conf_refused c.args.home.now c.args.cwd.now c.args.task.now c.in_ok-policy.policy _ _ _ c.in_ok-policy.ensures.reads c.in_err-conf.field-0.0 c.in_err-conf.ensures.reads) }

pub returns : goal.returns
returns g c = record { reads = rules_read c.args.home.now c.args.cwd.now c.args.task.now c.in_ok-policy.policy _ _ _ c.in_ok-policy.ensures.reads c.in_ok-conf.conf c.in_ok-conf.ensures.reads }
