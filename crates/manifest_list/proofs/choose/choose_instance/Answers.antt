use Rattle.std.proofs.Common.{◌≡◌, ◌<◌, ◌≤◌, length, get_or, Some, None, sym, ap, arith}
use Rattle.manifest_list.proofs.ChoiceLemmas.{chosen}
use Rattle.manifest_list.proofs.LoopLemmas.{left_found, left_none}
use Rattle.manifest_list.proofs.choose.choose_instance.Goals as goal

pub returns-then-fits-clause-chosen : goal.returns-then-fits-clause-chosen
returns-then-fits-clause-chosen c =
    let same : length c.as_slice-entry-items.result.now ≡ length c.args.list.now.entries = ap length c.as_slice-entry-items.ensures in
    let lt : c.loop-place.place < length c.args.list.now.entries = omega (arith, same) in
    let is : c.entry-item.result ≡ get_or c.args.list.now.entries c.loop-place.place c.entry-item.result = cc (c.entry-item.is, c.as_slice-entry-items.ensures) in
    chosen _ _ (Some c.loop-place.place) (left_found _ _ _ c.entry-item.result c.loop-place.invariant lt is (sym c.if-fits.ensures))

pub returns-clause-chosen : goal.returns-clause-chosen
returns-clause-chosen c =
    let same : length c.as_slice-entry-items.result.now ≡ length c.args.list.now.entries = ap length c.as_slice-entry-items.ensures in
    let le : length c.args.list.now.entries ≤ c.loop-place.place = omega (arith, same) in
    chosen _ _ None (left_none _ _ _ c.loop-place.invariant le)
