use Rattle.json_tree.proofs.ReadSoFar.{read_no_member, read_one_member, read_all_members}
use Rattle.json_tree.proofs.leaf.read_members.Goals as goal

pub loop-name-init : goal.loop-name-init
loop-name-init g c = λ f h. read_no_member f _ _ _ c.new.ensures c.into_iter-name-iterator.ensures.into_iter_gives.0

pub loop-name-preserved : goal.loop-name-preserved
loop-name-preserved g c = λ f h.
    read_one_member f _ _ _ _ _ _ _ _ (c.loop-name.invariant f h) c.in-Some.ensures.steps c.as_str.ensures.value
    (λ x gives. c.push-all.ensures x _ gives (c.at.ensures _ (h _ _ _ c.read.ensures)))

pub returns : goal.returns
returns g c = λ f h. read_all_members f _ _ _ (c.loop-name.invariant f h) c.in-None.ensures.steps.0
