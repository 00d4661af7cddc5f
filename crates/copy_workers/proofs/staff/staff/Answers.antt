use Rattle.std.proofs.Common.{length, refl, sym, ap, ◌∙◌, subst, arith}
use Rattle.location_cache.specs.declared.view.View.{View}
use Rattle.copy_workers.specs.Works.{IsFresh}
use Rattle.copy_workers.proofs.Hiring.{hire_one, hired_room, hired_lanes, hired_count}
use Rattle.copy_workers.proofs.staff.staff.Goals as goal

pub loop-seat-preserved : goal.loop-seat-preserved
loop-seat-preserved g c =
    let f = g.L.BlobLane.tells in
    let i = c.loop-seat.invariant in
    let s = c.split-kept.ensures in
    let h = c.hire.ensures.hired in
    let given : IsFresh c.split-kept.result.1.view = subst IsFresh (sym s.right) (record { drawn = refl; failed = refl }) in
    let kept : IsFresh c.split-kept.result.0.view = subst IsFresh (sym s.left) (record { drawn = i.seat.drawn; failed = i.seat.failed }) in
    let left = ap (λ (v : View). v.room) s.left in
    let right = ap (λ (v : View). v.room) s.right in
    let counts = hired_count _ _ _ _ _ _ _ h in
    let room = hired_room _ _ _ _ _ _ _ h in
    let test = c.loop-seat-test.true in
    let len = c.len.ensures in
    let all = i.staffs.all in
    let most = c.requires.some.1 in
    record {
      own = s.own.0;
      seat = kept;
      staffs = hire_one f c.args.desk.now c.args.jobs.now (length c.args.lanes.now.items) _ _ _ _ _ _ _ h i.staffs s.own.1 given;
      some = omega arith;
      lists = omega arith;
      rooms = omega arith;
      spare = omega arith;
      lanes = hired_lanes _ _ _ _ _ _ _ h ∙ i.lanes;
      lanes_room = let r = i.lanes_room in let e = c.hire.ensures.lanes_room in omega arith;
      workers_room = let r = i.workers_room in let e = c.hire.ensures.workers_room in omega arith;
    }

pub returns-clause-ready : goal.returns-clause-ready
returns-clause-ready g c =
    let f = g.L.BlobLane.tells in
    let i = c.loop-seat.invariant in
    let h = c.hire-2.ensures.hired in
    (hire_one f c.args.desk.now c.args.jobs.now (length c.args.lanes.now.items) _ _ _ _ _ _ _ h i.staffs i.own i.seat).ready
