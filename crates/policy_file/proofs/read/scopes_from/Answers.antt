use Rattle.std.proofs.Common.{◌∙◌, sym, ap}
use Rattle.std.proofs.lemmas.Result.{err_from_is_err_and}
use Rattle.policy_file.specs.PolicyLists.{with_scope}
use Rattle.policy_file.proofs.TurnLemmas.{no_scope_read, scope_read, scope_stops, scopes_read}
use Rattle.policy_file.proofs.read.scopes_from.Goals as goal

pub loop-name-init : goal.loop-name-init
loop-name-init c = no_scope_read _ _ _ c.new-scopes.ensures c.into_iter-name-iterator.ensures.into_iter_gives.0 c.into_iter-name-iterator.ensures.into_iter_gives.5

pub loop-name-preserved : goal.loop-name-preserved
loop-name-preserved c =
    scope_read _ _ _ _ _ c.as_str.result.now _ _ c.in_ok-list.list c.loop-name.invariant c.in-Some.ensures.steps c.as_str.ensures.value (c.in_ok-list.ensures _ c.list_in.ensures)
    (c.in_ok-add.ensures ∙ ap (λ name. with_scope name c.in_ok-list.list c.loop-name.scopes) (c.as_str-in-loop-name.ensures.value ∙ sym c.as_str.ensures.value))

pub returns-in_err-list : goal.returns-in_err-list
returns-in_err-list c =
    let p = err_from_is_err_and c.from_residual.result c.from_residual.ensures.1 in
    let stops = scope_stops _ _ _ _ _ c.as_str.result.now _ _ c.loop-name.invariant c.in-Some.ensures.steps c.as_str.ensures.value (c.in_err-list.ensures _ c.list_in.ensures) in
    rw (p.1, p.2) stops

pub returns : goal.returns
returns c = scopes_read _ _ _ c.loop-name.invariant c.in-None.ensures.steps.0
