use Rattle.std.proofs.Common.{◌+◌, length, sym, subst, arith}
use Rattle.copy_jobs.specs.Lent.{AreLent}
use Rattle.copy_jobs.proofs.LentLemmas.{lent_more, lent_count}
use Rattle.copy_jobs.proofs.lend.lend.Goals as goal

pub loop-alloc-preserved : goal.loop-alloc-preserved
loop-alloc-preserved g c =
    let i = c.loop-alloc.invariant in
    let o = c.lend_one.ensures in
    let before = c.loop-alloc.list.items in
    let now = c.lend_one.new.list.items in
    let source = c.args.source.now in
    let dest = c.args.dest.now in
    let all = c.args.lanes.now.items in
    let rest = c.lend_one.new.lanes.items in
    let lent = lent_more source dest (length before) all c.loop-alloc.lanes.items rest before now i.lent o.lent in
    let n = lent_count source dest (length before + 1) all rest now lent in
    let test = c.loop-alloc-test.true in
    let len = c.len.ensures in
    record {
      lent = subst (λ k. AreLent source dest k all rest now) (sym n) lent;
      few = omega arith;
      room = (let r = i.room in let e = o.room in omega arith);
      lanes_room = (let r = i.lanes_room in let e = o.lanes_room in omega arith);
    }
