use Rattle.std.proofs.Common.{sym, ap, ◌∙◌}
use Rattle.policy_scope.specs.Chosen.{scope_at}
use Rattle.policy_scope.specs.Calls.{first_known}
use Rattle.policy_scope.proofs.ChoiceLaw.{known_image, hit, miss}
use Rattle.policy_scope.proofs.choice.image_scope.Goals as goal

pub returns-then-is_some : goal.returns-then-is_some
returns-then-is_some c =
    let there = c.args.policy.now.docker in
    let whole = c.scope_at-whole.ensures ∙ ap (scope_at there) c.whole.ensures in
    sym (known_image there c.args.name.now ∙ hit c.scope_at-whole.result _ _ whole (sym c.is_some.ensures ∙ c.if-is_some.true))

pub returns-then-is_some-2 : goal.returns-then-is_some-2
returns-then-is_some-2 c =
    let there = c.args.policy.now.docker in
    let whole = c.scope_at-whole.ensures ∙ ap (scope_at there) c.whole.ensures in
    let front = c.first_front-front.ensures ∙ ap (first_known there) c.repository.ensures in
    sym (known_image there c.args.name.now
    ∙ miss c.scope_at-whole.result _ _ whole (sym c.is_some.ensures ∙ c.if-is_some.false)
    ∙ hit c.first_front-front.result _ _ front (sym c.is_some-2.ensures ∙ c.if-is_some-2.true))

pub returns-then-is_some-3 : goal.returns-then-is_some-3
returns-then-is_some-3 c =
    let there = c.args.policy.now.docker in
    let whole = c.scope_at-whole.ensures ∙ ap (scope_at there) c.whole.ensures in
    let front = c.first_front-front.ensures ∙ ap (first_known there) c.repository.ensures in
    let wildcard = c.first_of-wildcard.ensures ∙ ap (first_known there) c.wildcards.ensures in
    sym (known_image there c.args.name.now
    ∙ miss c.scope_at-whole.result _ _ whole (sym c.is_some.ensures ∙ c.if-is_some.false)
    ∙ miss c.first_front-front.result _ _ front (sym c.is_some-2.ensures ∙ c.if-is_some-2.false)
    ∙ hit c.first_of-wildcard.result _ _ wildcard (sym c.is_some-3.ensures ∙ c.if-is_some-3.true))

pub returns : goal.returns
returns c =
    let there = c.args.policy.now.docker in
    let whole = c.scope_at-whole.ensures ∙ ap (scope_at there) c.whole.ensures in
    let front = c.first_front-front.ensures ∙ ap (first_known there) c.repository.ensures in
    let wildcard = c.first_of-wildcard.ensures ∙ ap (first_known there) c.wildcards.ensures in
    c.scope_at.ensures
    ∙ sym (known_image there c.args.name.now
    ∙ miss c.scope_at-whole.result _ _ whole (sym c.is_some.ensures ∙ c.if-is_some.false)
    ∙ miss c.first_front-front.result _ _ front (sym c.is_some-2.ensures ∙ c.if-is_some-2.false)
    ∙ miss c.first_of-wildcard.result _ _ wildcard (sym c.is_some-3.ensures ∙ c.if-is_some-3.false))
