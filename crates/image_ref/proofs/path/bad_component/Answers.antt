use Rattle.std.proofs.Common.{sym, ◌∙◌, arith, rules}
use Rattle.image_ref.proofs.PartLemmas.{last_part, next_part, bad_part}
use Rattle.image_ref.proofs.path.bad_component.Goals as goal

pub returns-then-not-is_component-clause-first : goal.returns-then-not-is_component-clause-first
returns-then-not-is_component-clause-first c = sym (bad_part c.loop-part.rest.now c.cut_at.result.0.now c.loop-part.at c.cut_at.ensures.before (sym c.is_component.ensures ∙ c.if-not-is_component.true)) ∙ c.loop-part.invariant.left

pub returns-in-None-clause-first : goal.returns-in-None-clause-first
returns-in-None-clause-first c = sym (last_part c.loop-part.rest.now c.cut_at.result.0.now c.loop-part.at c.cut_at.ensures.before (rw c.in-None.is at c.cut_at.ensures.after) (sym c.is_component.ensures ∙ c.if-not-is_component.false)) ∙ c.loop-part.invariant.left

pub loop-part-preserved : goal.loop-part-preserved
loop-part-preserved c =
    let rest = rw c.in-Some.is at c.cut_at.ensures.rest in
    record {
      text = search rules;
      room = omega (arith, rest);
      left = sym (next_part c.loop-part.rest.now c.cut_at.result.0.now c.in-Some.more.now c.loop-part.at c.cut_at.ensures.before (rw c.in-Some.is at c.cut_at.ensures.after) (sym c.is_component.ensures ∙ c.if-not-is_component.false)) ∙ c.loop-part.invariant.left;
    }
