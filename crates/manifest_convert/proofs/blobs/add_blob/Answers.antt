use Rattle.std.proofs.Common.{◌+◌, sym, ap, ◌∙◌}
use Rattle.std.proofs.lemmas.Result.{MatchResult-weaker}
use Rattle.manifest_convert.proofs.SeenLemmas.{seen-again, seen-new}
use Rattle.manifest_convert.proofs.blobs.add_blob.Goals as goal

pub returns-then-not-added : goal.returns-then-not-added
returns-then-not-added c = λ xs h.
    seen-again _ _ _ xs _ h c.in_ok-added.ensures.updates (sym c.if-not-added.true ∙ c.in_ok-added.ensures.added)

pub returns : goal.returns
returns c = λ xs h.
    MatchResult-weaker c.push.result c.push.ensures.ok
    (λ _ pushed. seen-new _ _ _ _ xs c.args.blob.now (c.len.result + 1) h c.in_ok-added.ensures.updates (sym c.if-not-added.false ∙ c.in_ok-added.ensures.added) (ap (λ n. n + 1) c.len.ensures) pushed)
    (λ _ none. none)
