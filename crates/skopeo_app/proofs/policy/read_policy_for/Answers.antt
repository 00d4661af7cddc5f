use Rattle.std.proofs.Common.{rules, ◌≡◌, Result, Err}
use Rattle.policy_file.specs.PolicyLists.{PolicyLists}
use Rattle.transports.specs.declared.refusal.Refusal.TheVariants as image
use Rattle.skopeo_app.specs.declared.refusal.CommandRefusal.{CommandRefusal}
use Rattle.skopeo_app.specs.declared.refusal.CommandRefusal.TheVariants.{Image}
use Rattle.skopeo_app.proofs.ReadLemmas.{quiet_same, memory_reads}
use Rattle.skopeo_app.proofs.PolicyLemmas.{anything_reads, named_reads, usual_reads}
use Rattle.skopeo_app.proofs.policy.read_policy_for.Goals as goal

pub returns-in_err-accept_all-in-Anything : goal.returns-in_err-accept_all-in-Anything
returns-in_err-accept_all-in-Anything g c =
    let r : ◌≡◌ {A = Result PolicyLists CommandRefusal} c.from_residual.result (Err (Image image.Memory)) = search rules in
    record { reads = rw (r) (memory_reads _ c.args.lane.now c.args.lane.now (quiet_same c.args.lane.now)) }

pub returns-in_ok-accept_all-in-Anything : goal.returns-in_ok-accept_all-in-Anything
returns-in_ok-accept_all-in-Anything g c = record { reads = anything_reads c.args.home.now c.args.cwd.now c.args.choice.now c.args.lane.now _ (search rules) (search rules) }

pub returns-in-Named : goal.returns-in-Named
returns-in-Named g c = record { reads = named_reads c.args.home.now c.args.cwd.now _ c.args.choice.now _ _ c.read_policy_file.result (search rules) c.read_policy_file.ensures.reads }

pub returns-in-Usual : goal.returns-in-Usual
returns-in-Usual g c = record { reads = usual_reads c.args.home.now c.args.cwd.now c.args.choice.now _ _ c.read_usual.result (search rules) c.read_usual.ensures.reads }
