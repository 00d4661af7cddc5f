use Rattle.std.proofs.Common.{sym, ◌∙◌, []}
use Rattle.policy_file.specs.Lookup.{scopes_for}
use Rattle.policy_scope.specs.Chosen.{scope_at}
use Rattle.policy_scope.proofs.ChoiceLaw.{known_path, hit, miss}
use Rattle.policy_scope.proofs.choice.path_scope.Goals as goal

pub returns-then-is_some : goal.returns-then-is_some
returns-then-is_some c =
    let there = scopes_for c.args.transport c.args.policy.now in
    sym (known_path there c.args.path.now ∙ hit c.first_front-front.result _ (scope_at there []) c.first_front-front.ensures (sym c.is_some.ensures ∙ c.if-is_some.true))

pub returns : goal.returns
returns c =
    let there = scopes_for c.args.transport c.args.policy.now in
    c.scope_at.ensures
    ∙ sym (known_path there c.args.path.now ∙ miss c.first_front-front.result _ (scope_at there []) c.first_front-front.ensures (sym c.is_some.ensures ∙ c.if-is_some.false))
