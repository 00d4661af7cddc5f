use Rattle.std.proofs.Common.{[], ◌∷◌, take}
use Rattle.manifest_convert.proofs.SeenLemmas.{seen-none, seen-layer, room_left}
use Rattle.manifest_convert.proofs.blobs.first_blobs.Goals as goal

pub loop-layer-init : goal.loop-layer-init
loop-layer-init c = c.in_ok-add_blob.ensures [] (seen-none _ _ c.new-seen.ensures.empty c.new-jobs.ensures)

pub add_blob-requires-in-loop-layer : goal.add_blob-requires-in-loop-layer
add_blob-requires-in-loop-layer c =
    let image = c.args.image.now in
    room_left _ _ image.config image.layers _ (rw c.as_slice-layer-items.ensures at c.loop-layer-test.true) c.loop-layer.invariant c.requires

pub loop-layer-preserved : goal.loop-layer-preserved
loop-layer-preserved c =
    let image = c.args.image.now in
    seen-layer _ _ image.config image.layers _ _ (rw c.as_slice-layer-items.ensures at c.loop-layer-test.true) (rw c.as_slice-layer-items.ensures at c.layer-item.is)
    (c.in_ok-add_blob-2.ensures (image.config ∷ take c.loop-layer.layer-index image.layers) c.loop-layer.invariant)
