use Rattle.std.proofs.Common.{◌∷◌, ◌++◌, [], sym, ap, ◌∙◌, subst, arith}
use Rattle.location_cache.specs.declared.cache.CacheRow.{CacheRow}
use Rattle.location_cache.specs.Rows.{HasKept}
use Rattle.location_cache.proofs.RowLemmas.{kept_again, kept_new, kept_full}
use Rattle.location_cache.proofs.cache.add_older.Goals as goal

pub returns-then-not-added-clause-kept : goal.returns-then-not-added-clause-kept
returns-then-not-added-clause-kept c = λ rows h.
    let copied : CacheRow = c.in_ok-copy_row.field-0 in
    subst (λ (x : CacheRow). HasKept c.insert.new.self c.args.kept.now.items (x ∷ rows)) c.in_ok-copy_row.ensures
    (kept_again _ _ _ rows copied h c.in_ok-added.ensures.updates (sym c.if-not-added.true ∙ c.in_ok-added.ensures.added))

pub returns-then-len-ge-MOST_ROWS-clause-kept : goal.returns-then-len-ge-MOST_ROWS-clause-kept
returns-then-len-ge-MOST_ROWS-clause-kept c = λ rows h.
    let copied : CacheRow = c.in_ok-copy_row.field-0 in
    let len = c.len.ensures in
    let full = c.if-len-ge-MOST_ROWS.true in
    subst (λ (x : CacheRow). HasKept c.insert.new.self c.args.kept.now.items (x ∷ rows)) c.in_ok-copy_row.ensures
    (kept_full _ _ _ rows copied h c.in_ok-added.ensures.updates (sym c.if-not-added.false ∙ c.in_ok-added.ensures.added) (omega arith))

pub returns-clause-kept : goal.returns-clause-kept
returns-clause-kept c = λ rows h.
    let copied : CacheRow = c.in_ok-copy_row.field-0 in
    let len = c.len.ensures in
    let room = c.if-len-ge-MOST_ROWS.false in
    let pushed = c.in_ok-push.ensures.items ∙ ap (λ (x : CacheRow). c.args.kept.now.items ++ x ∷ []) (sym c.in_ok-copy_row.ensures) in
    subst (λ (x : CacheRow). HasKept c.insert.new.self c.push.new.self.items (x ∷ rows)) c.in_ok-copy_row.ensures
    (kept_new _ _ _ rows copied h c.in_ok-added.ensures.updates (sym c.if-not-added.false ∙ c.in_ok-added.ensures.added) (omega arith) _ pushed)
