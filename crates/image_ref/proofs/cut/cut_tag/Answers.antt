use Rattle.std.proofs.Common.{drop, ◌∙◌}
use Rattle.image_ref.specs.Cuts.{cut_at}
use Rattle.image_ref.proofs.CutLemmas.{colon_boundary, glued_leaf, whole_before, front_before}
use Rattle.image_ref.proofs.cut.cut_tag.Goals as goal

pub split_at-requires-in-Some : goal.split_at-requires-in-Some
split_at-requires-in-Some c =
    colon_boundary _ _ c.in-Some.tag.now _ (rw c.split_at.ensures.back at (glued_leaf 58 c.split_at.result.1.now _ c.in-Some.tag.now c.cut_at.ensures.before (rw c.in-Some.is at c.cut_at.ensures.after)))

pub returns-in-None-clause-before : goal.returns-in-None-clause-before
returns-in-None-clause-before c =
    whole_before _ _ (cut_at 58 (drop c.leaf_at-start.result c.args.text.now)) c.leaf_at-start.ensures.cut (rw (c.in-None.is, c.split_at.ensures.back) at c.cut_at.ensures.after)

pub returns-in-Some-clause-before : goal.returns-in-Some-clause-before
returns-in-Some-clause-before c =
    c.split_at-in-Some.ensures.front ∙ front_before _ _ _ (cut_at 58 (drop c.leaf_at-start.result c.args.text.now)) c.leaf_at-start.ensures.boundary.0 c.leaf_at-start.ensures.cut (rw c.split_at.ensures.back at c.cut_at.ensures.before)
