use Rattle.std.proofs.Common.{◌≡◌, Result, Err, rules, subst, sym}
use Rattle.registry_commands.specs.declared.fault.CommandFault.{CommandFault}
use Rattle.registry_commands.specs.Deletes.{Deletes}
use Rattle.registry_commands.proofs.DeleteLemmas.{ends_failed, ends_sent}
use Rattle.registry_commands.proofs.deletion.delete_at.Goals as goal

pub returns-in_err-digest-clause-ends : goal.returns-in_err-digest-clause-ends
returns-in_err-digest-clause-ends g c =
    let e = c.in_err-digest.field-0.0 in
    let r : ◌≡◌ {A = Result (Unit {0}) CommandFault} c.from_residual-in_err-digest.result (Err e) = search rules in
    λ conf tls may. subst (λ (x : Result (Unit {0}) CommandFault). Deletes conf tls c.args.image.now c.args.lane.now.to c.get_digest.new.lane.to x) (sym r)
    (ends_failed conf tls c.args.image.now c.in_ok-registry.registry c.as_str.result.now _ c.args.lane.now.to c.get_digest.new.lane.to e (search rules) (search rules) c.digest.ensures c.in_err-digest.ensures.got may)

pub returns-clause-ends : goal.returns-clause-ends
returns-clause-ends g c =
    λ conf tls may. ends_sent conf tls c.args.image.now c.in_ok-registry.registry c.as_str.result.now _ c.args.lane.now.to c.get_digest.new.lane.to c.delete_digest.new.lane.to c.in_ok-digest.digest c.delete_digest.result
    (search rules) (search rules) c.digest.ensures c.in_ok-digest.ensures.got c.delete_digest.ensures.sent may
