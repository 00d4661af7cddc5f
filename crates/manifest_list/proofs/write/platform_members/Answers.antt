use Rattle.std.proofs.Common.{ap}
use Rattle.serde_json.specs.View.{members_view}
use Rattle.json_tree.proofs.BuildLemmas.{put-same}
use Rattle.manifest_list.specs.Written.{put_members}
use Rattle.manifest_list.proofs.LoopLemmas.{one_member_more, all_members}
use Rattle.manifest_list.proofs.write.platform_members.Goals as goal

pub loop-member-init : goal.loop-member-init
loop-member-init c = ap (λ es. put_members c.args.all.now (members_view es)) c.new-members.ensures.empty

pub loop-member-preserved : goal.loop-member-preserved
loop-member-preserved c =
    one_member_more _ _ c.member-item.result _ _ _ c.loop-member.invariant c.loop-member-test.true c.member-item.is
    (put-same _ _ _ _ _ _ c.in_ok-put.ensures.put c.as_str.ensures c.in_ok-value.ensures)

pub returns : goal.returns
returns c = all_members _ _ _ _ c.loop-member.invariant c.loop-member-test.false
