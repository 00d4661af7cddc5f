use Rattle.oci_index.proofs.EntriesSoFar.{read_nothing, read_one, read_all}
use Rattle.oci_index.proofs.entry.entries_by.Goals as goal

pub loop-place-init : goal.loop-place-init
loop-place-init c = read_nothing _ _ _ c.new-sizes.ensures c.new.ensures

pub loop-place-preserved : goal.loop-place-preserved
loop-place-preserved c =
    read_one _ _ _ _ c.index-items-place.result _ _ c.loop-place.invariant c.loop-place-test.true c.index-items-place.is
    (λ known h. c.in_ok-learn.ensures.learnt known h)
    (λ known x h gives. c.push-all.ensures x _ gives (c.under.ensures _ (c.read_entry-entry.ensures known h)))

pub returns : goal.returns
returns c = read_all _ _ _ _ c.loop-place.invariant c.loop-place-test.false
