use Rattle.std.proofs.Common.{rules, ◌≡◌, ◌<◌, ◌≤◌, false, length, get_or}
use Rattle.location_cache.specs.declared.cache.CacheRow.{CacheRow}
use Rattle.location_cache.specs.Rows.{most_rows, has_row}
use Rattle.location_cache.proofs.Learning.{learnt_again, learnt_new, learnt_full}
use Rattle.location_cache.proofs.learn.make_room.Goals as goal

pub returns-in-Some-clause-rows : goal.returns-in-Some-clause-rows
returns-in-Some-clause-rows c =
    let rows = c.args.rows.now.items in
    let row : CacheRow = c.args.row.now in
    let h : c.in-Some.place < length rows = search rules in
    let at : get_or rows c.in-Some.place row ≡ row = search rules in
    learnt_again rows row c.requires.kept c.in-Some.place c.remove.new.self.items h at c.remove.ensures.by_index.2

pub returns-then-len-ge-MOST_ROWS-clause-rows : goal.returns-then-len-ge-MOST_ROWS-clause-rows
returns-then-len-ge-MOST_ROWS-clause-rows c =
    let rows = c.args.rows.now.items in
    let row : CacheRow = c.args.row.now in
    let none : has_row rows row ≡ false = search rules in
    let full : most_rows ≤ length rows = search rules in
    learnt_full rows row c.requires.kept none c.remove-then-len-ge-MOST_ROWS.new.self.items full c.remove-then-len-ge-MOST_ROWS.ensures.by_index.2

pub returns-else-len-ge-MOST_ROWS-clause-rows : goal.returns-else-len-ge-MOST_ROWS-clause-rows
returns-else-len-ge-MOST_ROWS-clause-rows c =
    let rows = c.args.rows.now.items in
    let row : CacheRow = c.args.row.now in
    let none : has_row rows row ≡ false = search rules in
    let room : length rows < most_rows = search rules in
    learnt_new rows row c.requires.kept none room
