use Rattle.std.proofs.Common.{ap}
use Rattle.serde_json.specs.View.{members_view}
use Rattle.policy_file.specs.Members.{unknown_name}
use Rattle.policy_file.proofs.MemberLemmas.{texts, known_goes_on, unknown_is_found, none_is_unknown}
use Rattle.policy_file.proofs.members.unknown_name.Goals as goal

pub loop-name-init : goal.loop-name-init
loop-name-init c = ap (λ es. unknown_name (texts c.args.names.now) (members_view es)) c.into_iter-name-iterator.ensures.into_iter_gives.0

pub loop-name-preserved : goal.loop-name-preserved
loop-name-preserved c =
    known_goes_on _ _ _ _ _ _ c.as_str-name.result.now c.is_among.result c.loop-name.invariant c.in-Some.ensures.steps c.as_str-name.ensures.value c.is_among.ensures c.if-not-is_among.false

pub returns-then-not-is_among : goal.returns-then-not-is_among
returns-then-not-is_among c =
    unknown_is_found _ _ _ _ _ _ c.as_str-name.result.now c.is_among.result c.loop-name.invariant c.in-Some.ensures.steps c.as_str-name.ensures.value c.is_among.ensures c.if-not-is_among.true

pub returns : goal.returns
returns c = none_is_unknown _ _ _ c.loop-name.invariant c.in-None.ensures.steps.0
