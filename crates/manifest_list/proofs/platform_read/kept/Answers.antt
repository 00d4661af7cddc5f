use Rattle.manifest_list.proofs.LoopLemmas.{kept_none, kept_more, kept_all}
use Rattle.manifest_list.proofs.platform_read.kept.Goals as goal

pub loop-name-init : goal.loop-name-init
loop-name-init c = kept_none _ _ _ c.new-all.ensures c.into_iter-name-iterator.ensures.into_iter_gives.0

pub loop-name-preserved : goal.loop-name-preserved
loop-name-preserved c =
    kept_more _ _ _ _ _ _ _ _ _ c.loop-name.invariant c.in-Some.ensures.steps c.as_str.ensures.value c.in_ok-value.ensures c.in_ok-push_member.ensures

pub returns : goal.returns
returns c = kept_all _ _ _ c.loop-name.invariant c.in-None.ensures.steps.0
