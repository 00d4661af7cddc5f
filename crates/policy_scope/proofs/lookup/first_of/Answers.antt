use Rattle.std.proofs.Common.{sym, ◌∙◌, ap}
use Rattle.policy_file.specs.Lookup.{scopes_for}
use Rattle.policy_scope.specs.Chosen.{scope_at}
use Rattle.policy_scope.proofs.ChoiceLaw.{turn-hit, turn-miss, turn-end}
use Rattle.policy_scope.proofs.lookup.first_of.Goals as goal

pub returns-then-is_some : goal.returns-then-is_some
returns-then-is_some c =
    let there = scopes_for c.args.transport c.args.policy.now in
    sym (turn-hit there c.args.names.now c.loop-name.name-index c.name-item.result c.scope_at-found.result c.loop-name-test.true c.name-item.is (c.scope_at-found.ensures ∙ ap (scope_at there) c.as_str.ensures) (sym c.is_some.ensures ∙ c.if-is_some.true))
    ∙ c.loop-name.invariant

pub loop-name-preserved : goal.loop-name-preserved
loop-name-preserved c =
    let there = scopes_for c.args.transport c.args.policy.now in
    sym (turn-miss there c.args.names.now c.loop-name.name-index c.name-item.result c.scope_at-found.result c.loop-name-test.true c.name-item.is (c.scope_at-found.ensures ∙ ap (scope_at there) c.as_str.ensures) (sym c.is_some.ensures ∙ c.if-is_some.false))
    ∙ c.loop-name.invariant

pub returns : goal.returns
returns c = sym (turn-end (scopes_for c.args.transport c.args.policy.now) c.args.names.now c.loop-name.name-index c.loop-name-test.false) ∙ c.loop-name.invariant
