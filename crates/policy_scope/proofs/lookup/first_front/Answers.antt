use Rattle.std.proofs.Common.{sym, ◌∙◌, Some, None, lit<, rules}
use Rattle.std.proofs.lemmas.Str.Pattern.{rfind_char}
use Rattle.policy_file.specs.Lookup.{scopes_for}
use Rattle.policy_scope.proofs.ChoiceLaw.{front-hit, front-miss, front-end}
use Rattle.policy_scope.proofs.lookup.first_front.Goals as goal

pub returns-then-is_some : goal.returns-then-is_some
returns-then-is_some c =
    sym (front-hit (scopes_for c.args.transport c.args.policy.now) c.loop-name.name.now c.scope_at-found.result c.scope_at-found.ensures (sym c.is_some.ensures ∙ c.if-is_some.true))
    ∙ c.loop-name.invariant.left

pub returns-in-None : goal.returns-in-None
returns-in-None c =
    let last = rfind_char 47 c.loop-name.name.now None c.in-None.ensures.cases (lit< tt) in
    sym (front-end (scopes_for c.args.transport c.args.policy.now) c.loop-name.name.now c.scope_at-found.result last c.scope_at-found.ensures (sym c.is_some.ensures ∙ c.if-is_some.false))
    ∙ c.loop-name.invariant.left

pub loop-name-preserved : goal.loop-name-preserved
loop-name-preserved c =
    let at = rfind_char 47 c.loop-name.name.now (Some c.in-Some.slash) c.in-Some.ensures.cases (lit< tt) in
    record {
      text = search rules;
      left = rw c.split_at.ensures.front (sym (front-miss (scopes_for c.args.transport c.args.policy.now) c.loop-name.name.now c.scope_at-found.result c.in-Some.slash at.0 at.1 at.2 c.scope_at-found.ensures (sym c.is_some.ensures ∙ c.if-is_some.false)) ∙ c.loop-name.invariant.left);
    }
