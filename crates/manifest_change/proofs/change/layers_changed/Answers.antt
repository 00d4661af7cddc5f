use Rattle.std.proofs.lemmas.Result.{err_from_is_err_and}
use Rattle.manifest_change.specs.Changed.{layer_changed}
use Rattle.manifest_change.proofs.EachLemmas.{nothing_made, item_made, item_stops, items_made}
use Rattle.manifest_change.proofs.change.layers_changed.Goals as goal

pub loop-place-init : goal.loop-place-init
loop-place-init c = nothing_made (layer_changed c.args.to) _ _ c.new-changed.ensures

pub returns-in_err-layer : goal.returns-in_err-layer
returns-in_err-layer c =
    let p = err_from_is_err_and c.from_residual.result c.from_residual.ensures.1 in
    let stops = item_stops (layer_changed c.args.to) _ _ c.index-layers-place.result _ _ c.loop-place.invariant c.loop-place-test.true c.index-layers-place.is c.in_err-layer.ensures in
    rw (p.1, p.2) stops

pub loop-place-preserved : goal.loop-place-preserved
loop-place-preserved c =
    item_made (layer_changed c.args.to) _ _ c.index-layers-place.result _ _ _ c.loop-place.invariant c.loop-place-test.true c.index-layers-place.is c.in_ok-layer.ensures c.in_ok-push.ensures.ok

pub returns : goal.returns
returns c = items_made (layer_changed c.args.to) _ _ _ c.loop-place.invariant c.loop-place-test.false
