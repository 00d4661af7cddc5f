use Rattle.std.proofs.Common.{◌∙◌, sym, ap}
use Rattle.std.proofs.lemmas.Result.{err_from_is_err_and}
use Rattle.policy_file.specs.PolicyLists.{with_transport}
use Rattle.policy_file.proofs.TurnLemmas.{transport_read, transport_stops, transports_read}
use Rattle.policy_file.proofs.read.with_transports.Goals as goal

pub loop-name-preserved : goal.loop-name-preserved
loop-name-preserved c =
    transport_read _ _ _ _ _ _ _ _ c.as_str.result.now c.in_ok-scopes.scopes c.loop-name.invariant c.in-Some.ensures.steps c.as_str.ensures.value (c.in_ok-scopes.ensures _ c.scopes_in.ensures)
    (c.keep.ensures ∙ ap (λ name. with_transport name c.in_ok-scopes.scopes c.loop-name.policy) (c.as_str-in-loop-name.ensures.value ∙ sym c.as_str.ensures.value))

pub returns-in_err-scopes : goal.returns-in_err-scopes
returns-in_err-scopes c =
    let p = err_from_is_err_and c.from_residual.result c.from_residual.ensures.1 in
    let stops = transport_stops _ _ _ _ _ _ _ c.as_str.result.now _ c.loop-name.invariant c.in-Some.ensures.steps c.as_str.ensures.value (c.in_err-scopes.ensures _ c.scopes_in.ensures) in
    rw (p.1, p.2) stops

pub returns : goal.returns
returns c = transports_read _ _ _ _ c.loop-name.invariant c.in-None.ensures.steps.0
