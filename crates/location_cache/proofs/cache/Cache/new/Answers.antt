use Rattle.std.proofs.Common.{reverse, sym, ap, ◌∙◌, subst, arith}
use Rattle.std.proofs.lemmas.List.{reverse-reverse}
use Rattle.location_cache.specs.Rows.{AreKept, kept_rows}
use Rattle.location_cache.proofs.RowLemmas.{are_kept}
use Rattle.location_cache.proofs.cache.Cache.new.Goals as goal

pub invariant_of-result : goal.invariant_of-result
invariant_of-result c =
    let k = c.loop-row.invariant.kept in
    let e = c.oldest_first.ensures.rows ∙ ap reverse k.2.kept_are ∙ reverse-reverse (kept_rows k.0) in
    let room = c.loop-row.invariant.room in
    let same = c.oldest_first.ensures.room in
    (subst AreKept (sym e) (are_kept k.0), omega arith)
