use Rattle.std.proofs.Common.{◌≡◌, drop}
use Rattle.serde_json.specs.Data.{no_members}
use Rattle.serde_json.specs.View.{members_view}
use Rattle.manifest_list.specs.Written.{put_members}
use Rattle.manifest_list.proofs.write.platform_members.Given as goal

abbrev pub invariant-loop-member : goal.invariant-loop-member
invariant-loop-member l = put_members (drop l.member-index l.all) (members_view l.members.entries) ≡ put_members l.all no_members
