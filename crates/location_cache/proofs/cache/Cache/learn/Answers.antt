use Rattle.std.proofs.Common.{rules, ◌≡◌, ◌≤◌, ◌++◌, ◌∷◌, [], vec_capacity, sym, ◌∙◌, subst}
use Rattle.location_cache.specs.declared.cache.CacheRow.{CacheRow}
use Rattle.location_cache.specs.Rows.{most_rows, AreKept}
use Rattle.location_cache.proofs.RowLemmas.{are_kept}
use Rattle.location_cache.proofs.cache.Cache.learn.Goals as goal

pub invariant_of-self : goal.invariant_of-self
invariant_of-self c =
    let row : CacheRow = c.args.row in
    let items : c.push.new.self.items ≡ c.make_room.new.rows.items ++ row ∷ [] = search rules in
    let kept = items ∙ c.make_room.ensures.rows in
    let room : most_rows ≤ vec_capacity c.push.new.self = search rules in
    (subst AreKept (sym kept) (are_kept (c.self.inside.rows.items ++ row ∷ [])), room)
