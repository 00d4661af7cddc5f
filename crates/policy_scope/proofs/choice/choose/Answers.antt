use Rattle.std.proofs.Common.{sym, ap, ◌∙◌}
use Rattle.policy_file.specs.Lookup.{scopes_for}
use Rattle.policy_scope.specs.Scopes.{scopes}
use Rattle.policy_scope.specs.Chosen.{Choice, transport_of}
use Rattle.policy_scope.proofs.ChoiceLaw.{choice, chosen_first}
use Rattle.policy_scope.proofs.choice.choose.Goals as goal

pub returns-in-Some-clause-scope : goal.returns-in-Some-clause-scope
returns-in-Some-clause-scope c =
    let policy = c.args.policy.now in
    let place = c.args.identity.now in
    sym (ap (λ (x : Choice). x.scope) (chosen_first policy.default (scopes_for (transport_of place) policy) (scopes place) ∙ ap (choice policy.default) (sym c.in-Some.ensures)))

pub returns-in-Some-clause-list : goal.returns-in-Some-clause-list
returns-in-Some-clause-list c =
    let policy = c.args.policy.now in
    let place = c.args.identity.now in
    sym (ap (λ (x : Choice). x.list) (chosen_first policy.default (scopes_for (transport_of place) policy) (scopes place) ∙ ap (choice policy.default) (sym c.in-Some.ensures)))

pub returns-in-None-clause-scope : goal.returns-in-None-clause-scope
returns-in-None-clause-scope c =
    let policy = c.args.policy.now in
    let place = c.args.identity.now in
    sym (ap (λ (x : Choice). x.scope) (chosen_first policy.default (scopes_for (transport_of place) policy) (scopes place) ∙ ap (choice policy.default) (sym c.in-None.ensures)))

pub returns-in-None-clause-list : goal.returns-in-None-clause-list
returns-in-None-clause-list c =
    let policy = c.args.policy.now in
    let place = c.args.identity.now in
    c.default_list.ensures
    ∙ sym (ap (λ (x : Choice). x.list) (chosen_first policy.default (scopes_for (transport_of place) policy) (scopes place) ∙ ap (choice policy.default) (sym c.in-None.ensures)))
