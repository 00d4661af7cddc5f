use Rattle.std.proofs.Common.{◌≡◌, ◌<◌, ◌≤◌, length, arith}
use Rattle.std.proofs.lemmas.Result.{err_from_is_err_and}
use Rattle.manifest_change.proofs.EachLemmas.{nothing_made, item_made, item_stops, items_made}
use Rattle.list_change.specs.Changed.{entry_changed, paired}
use Rattle.list_change.proofs.EntryLemmas.{length-paired, pair-at}
use Rattle.list_change.proofs.entry.entries_changed.Goals as goal

pub loop-place-init : goal.loop-place-init
loop-place-init c = nothing_made (entry_changed c.args.to) (paired c.args.entries.now c.args.written.now) _ c.new-changed.ensures

pub returns-in_err-one : goal.returns-in_err-one
returns-in_err-one c =
    let ps = paired c.args.entries.now c.args.written.now in
    let len : length ps ≡ length c.args.entries.now = length-paired c.args.entries.now c.args.written.now c.requires.all in
    let lt : c.loop-place.place < length ps = omega (arith, len) in
    let pair = pair-at c.args.entries.now c.args.written.now c.loop-place.place c.index-entries-place.result c.index-written-place.result c.loop-place-test.true c.requires.all c.index-entries-place.is c.index-written-place.is in
    let p = err_from_is_err_and c.from_residual.result c.from_residual.ensures.1 in
    let stops = item_stops (entry_changed c.args.to) ps c.loop-place.place (c.index-entries-place.result, c.index-written-place.result) _ _ c.loop-place.invariant lt pair c.in_err-one.ensures in
    rw (p.1, p.2) stops

pub loop-place-preserved : goal.loop-place-preserved
loop-place-preserved c =
    let ps = paired c.args.entries.now c.args.written.now in
    let len : length ps ≡ length c.args.entries.now = length-paired c.args.entries.now c.args.written.now c.requires.all in
    let lt : c.loop-place.place < length ps = omega (arith, len) in
    let pair = pair-at c.args.entries.now c.args.written.now c.loop-place.place c.index-entries-place.result c.index-written-place.result c.loop-place-test.true c.requires.all c.index-entries-place.is c.index-written-place.is in
    item_made (entry_changed c.args.to) ps c.loop-place.place (c.index-entries-place.result, c.index-written-place.result) _ _ _ c.loop-place.invariant lt pair c.in_ok-one.ensures c.in_ok-push.ensures.ok

pub returns : goal.returns
returns c =
    let ps = paired c.args.entries.now c.args.written.now in
    let len : length ps ≡ length c.args.entries.now = length-paired c.args.entries.now c.args.written.now c.requires.all in
    let le : length ps ≤ c.loop-place.place = omega (arith, len) in
    items_made (entry_changed c.args.to) ps c.loop-place.place _ c.loop-place.invariant le
