use Rattle.std.proofs.lemmas.Result.{err_from_is_err_and}
use Rattle.policy_file.proofs.TurnLemmas.{item_read, item_stops, items_read, nothing_read}
use Rattle.policy_file.proofs.list.requirements_in.Goals as goal

pub loop-place-init : goal.loop-place-init
loop-place-init c = nothing_read _ _ c.new-list.ensures

pub returns-in_err-requirement : goal.returns-in_err-requirement
returns-in_err-requirement c =
    let p = err_from_is_err_and c.from_residual.result c.from_residual.ensures.1 in
    let stops = item_stops _ _ c.index-items-place.result _ _ c.loop-place.invariant c.loop-place-test.true c.index-items-place.is (c.in_err-requirement.ensures _ c.requirement_in.ensures) in
    rw (p.1, p.2) stops

pub loop-place-preserved : goal.loop-place-preserved
loop-place-preserved c =
    item_read _ _ c.index-items-place.result _ _ _ c.loop-place.invariant c.loop-place-test.true c.index-items-place.is
    (c.in_ok-requirement.ensures _ c.requirement_in.ensures) c.in_ok-push.ensures.ok

pub returns : goal.returns
returns c = items_read _ _ _ c.loop-place.invariant c.loop-place-test.false
