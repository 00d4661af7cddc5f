use Rattle.std.proofs.Common.{Some, None, refl}
use Rattle.std.proofs.lemmas.Str.Pattern.{split_parts}
use Rattle.image_ref.proofs.CutLemmas.{cut_at-none, cut_at-some, cut_length}
use Rattle.image_ref.proofs.cut.cut_at.Goals as goal

pub returns-in-None-clause-before : goal.returns-in-None-clause-before
returns-in-None-clause-before c = rw (cut_at-none _ _ (split_parts _ _ None c.in-None.ensures.cases c.requires)) refl

pub returns-in-None-clause-after : goal.returns-in-None-clause-after
returns-in-None-clause-after c = rw (cut_at-none _ _ (split_parts _ _ None c.in-None.ensures.cases c.requires)) refl

pub returns-in-Some-clause-before : goal.returns-in-Some-clause-before
returns-in-Some-clause-before c =
    let parts = split_parts c.args.separator c.args.text.now (Some (c.in-Some.before, c.in-Some.after)) c.in-Some.ensures.cases c.requires in
    rw (parts.0, cut_at-some _ _ c.in-Some.after.now parts.1) refl

pub returns-in-Some-clause-after : goal.returns-in-Some-clause-after
returns-in-Some-clause-after c =
    let parts = split_parts c.args.separator c.args.text.now (Some (c.in-Some.before, c.in-Some.after)) c.in-Some.ensures.cases c.requires in
    rw (parts.0, cut_at-some _ _ c.in-Some.after.now parts.1) refl

pub returns-in-Some-clause-rest : goal.returns-in-Some-clause-rest
returns-in-Some-clause-rest c =
    let parts = split_parts c.args.separator c.args.text.now (Some (c.in-Some.before, c.in-Some.after)) c.in-Some.ensures.cases c.requires in
    cut_length _ _ _ _ parts.0
