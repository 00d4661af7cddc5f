use Rattle.manifest_list.proofs.LoopLemmas.{read_nothing, read_one, read_all}
use Rattle.manifest_list.proofs.entry.entries_by.Goals as goal

pub loop-place-init : goal.loop-place-init
loop-place-init c = λ known are. read_nothing _ _ _ _ are c.new.ensures

pub loop-place-preserved : goal.loop-place-preserved
loop-place-preserved c = λ first are.
    read_one _ _ _ _ _ c.index-items-place.result _ _ (c.loop-place.invariant first are) c.loop-place-test.true c.index-items-place.is
    (λ known h. c.in_ok-learn.ensures.learnt known h)
    (λ known x h gives. c.push-all.ensures x _ gives (c.under.ensures _ (c.read_entry-entry.ensures known h)))

pub returns : goal.returns
returns c = λ known are. read_all _ _ _ _ _ (c.loop-place.invariant known are) c.loop-place-test.false
