use Rattle.std.proofs.Common.{sym, ◌∙◌, ap, map, rules}
use Rattle.std.specs.List.{fold}
use Rattle.image_ref.specs.Path.{keep, parts_of}
use Rattle.image_ref.proofs.KeptLemmas.{kept_last, kept_next}
use Rattle.image_ref.proofs.clean.keep_parts.Goals as goal

pub returns-in-None : goal.returns-in-None
returns-in-None c =
    c.in_ok-keep_part.ensures
    ∙ sym (kept_last (map (λ x. x.now) c.loop-more.kept.items) c.loop-more.rest.now c.cut_at.result.0.now c.cut_at.ensures.before (rw c.in-None.is at c.cut_at.ensures.after))
    ∙ c.loop-more.invariant.left

pub loop-more-preserved : goal.loop-more-preserved
loop-more-preserved c = record {
  text = search rules;
  left =
      ap (λ k. fold keep k (parts_of c.in-Some.more.now)) c.in_ok-keep_part.ensures
      ∙ sym (kept_next (map (λ x. x.now) c.loop-more.kept.items) c.loop-more.rest.now c.cut_at.result.0.now c.in-Some.more.now c.cut_at.ensures.before (rw c.in-Some.is at c.cut_at.ensures.after))
      ∙ c.loop-more.invariant.left;
}
