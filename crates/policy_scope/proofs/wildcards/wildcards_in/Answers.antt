use Rattle.std.proofs.Common.{sym, ◌∙◌, ap, rules, ◌++◌, append-nil}
use Rattle.policy_scope.proofs.WildcardLaw.{wildcards-last, wildcards-more}
use Rattle.policy_scope.proofs.wildcards.wildcards_in.Goals as goal

pub returns-in-None : goal.returns-in-None
returns-in-None c =
    let last = wildcards-last c.loop-names.rest.now (rw c.in-None.is at c.cut_at-in-loop-names.ensures.after) in
    sym (append-nil c.loop-names.names) ∙ ap (λ t. c.loop-names.names ++ t) (sym last) ∙ c.loop-names.invariant.left

pub loop-names-preserved : goal.loop-names-preserved
loop-names-preserved c = record {
  text = search rules;
  left = wildcards-more c.loop-names.names c.push.new.self _ c.in_ok-wildcard-in-Some.field-0 c.loop-names.rest.now c.in-Some.after.now c.in_ok-push-in-Some.ensures.ok c.in_ok-wildcard-in-Some.ensures (rw c.in-Some.is at c.cut_at-in-loop-names.ensures.after) c.loop-names.invariant.left;
}
