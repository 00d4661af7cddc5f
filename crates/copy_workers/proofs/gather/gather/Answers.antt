use Rattle.std.proofs.Common.{◌≡◌, ℕ, ◌+◌, [], ◌∷◌, ◌++◌, length, vec_len, length-append, append_assoc, refl, sym, ap, ◌∙◌, subst, arith}
use Rattle.location_cache.specs.declared.view.View.{View}
use Rattle.location_cache.specs.Seats.{Seated}
use Rattle.location_cache.specs.Rule.{spent, joined}
use Rattle.copy_workers.specs.Works.{Stopped}
use Rattle.copy_workers.specs.Teams.{IsFinished, AreNumbered, lanes_of}
use Rattle.copy_workers.proofs.Gathering.{gathered_none}
use Rattle.copy_workers.proofs.Popping.{no_items, joined_stopped, all_rest, all_last, rooms_last, outcomes_last, lanes_last, numbered_rest, numbered_last, one_gathered}
use Rattle.copy_workers.proofs.gather.gather.Goals as goal

pub loop-worker-init : goal.loop-worker-init
loop-worker-init g c =
    let b = g.L.BlobLane in
    let e = c.in-Some.ensures.items in
    let all = c.args.workers.items in
    let ws = c.pop.new.self.items in
    let w = c.in-Some.first in
    let t = c.take_in-seat.ensures in
    let len = ap length e in
    let size = length-append ws (w ∷ []) in
    let done = all_last (IsFinished b.tells c.args.desk c.args.jobs.now) all ws w e c.requires.finished in
    let no_lane = no_items c.args.lanes.now.items (let z = c.requires.lanes.0 in omega arith) in
    let no_outcome = no_items c.args.outcomes.now.items (let z = c.requires.outcomes.0 in omega arith) in
    let number = numbered_last all ws w e (vec_len c.args.workers) c.requires.numbered in
    let one_lane : length c.take_in-seat.new.lanes.items ≡ 1 = ap length (t.lane ∙ ap (λ l. l ++ w.lane ∷ []) no_lane) in
    let view = ap (λ (x : Seated). x.view) t.seat in
    record {
      own = ap (λ (x : Seated). x.desk) t.seat ∙ done.own;
      gathered = one_gathered b.tells c.args.jobs.now c.args.desk w done [] _ [] _ spent _ (gathered_none b.tells c.args.jobs.now spent refl refl) (omega arith)
          (t.lane ∙ ap (λ l. l ++ w.lane ∷ []) no_lane) (t.outcomes ∙ ap (λ l. l ++ w.outcomes.items) no_outcome) (ap (λ (x : View). x.drawn) view) (ap (λ (x : View). x.failed) view);
      stopped = subst Stopped (sym view) done.stopped;
      finished = all_rest (IsFinished b.tells c.args.desk c.args.jobs.now) all ws w e c.requires.finished;
      numbered = subst (λ n. AreNumbered n ws) (omega arith) (numbered_rest all ws w e (vec_len c.args.workers) c.requires.numbered);
      room = let r = rooms_last all ws w e in let v = ap (λ (x : View). x.room) view in let h = c.requires.room in omega arith;
      lanes = ap (λ l. l ++ lanes_of ws) (t.lane ∙ ap (λ l. l ++ w.lane ∷ []) no_lane) ∙ sym (lanes_last all ws w e);
      lanes_room = let r = c.requires.lanes.1 in let m = t.lanes_room in omega arith;
      outcomes_room = let r = c.requires.outcomes.1 in let m = t.outcomes_room in let o = outcomes_last all ws w e in
          let l = ap length (t.outcomes ∙ ap (λ l. l ++ w.outcomes.items) no_outcome) in omega arith;
    }

pub join-seat-requires : goal.join-seat-requires
join-seat-requires g c =
    let b = g.L.BlobLane in
    let i = c.loop-worker.invariant in
    let done = all_last (IsFinished b.tells c.args.desk c.args.jobs.now) _ _ _ c.in-Some-pop.ensures.items i.finished in
    record { own = (i.own, ap (λ (x : Seated). x.desk) c.take_in-ended.ensures.seat ∙ done.own) }

pub loop-worker-preserved : goal.loop-worker-preserved
loop-worker-preserved g c =
    let b = g.L.BlobLane in
    let e = c.in-Some-pop.ensures.items in
    let i = c.loop-worker.invariant in
    let all = c.loop-worker.workers.items in
    let ws = c.pop-in-loop-worker.new.self.items in
    let w = c.in-Some-pop.worker in
    let t = c.take_in-ended.ensures in
    let j = c.join-seat.ensures in
    let total : ℕ = vec_len c.loop-worker.workers + vec_len c.loop-worker.lanes in
    let len = ap length e in
    let size = length-append ws (w ∷ []) in
    let done = all_last (IsFinished b.tells c.args.desk c.args.jobs.now) all ws w e i.finished in
    let number = numbered_last all ws w e total i.numbered in
    let lanes_len = ap length t.lane in
    let lanes_size = length-append c.loop-worker.lanes.items (w.lane ∷ []) in
    let view = ap (λ (x : Seated). x.view) t.seat in
    let both : c.join-seat.result.view ≡ joined c.loop-worker.seat.view w.seat.view = j.view ∙ ap (λ (x : View). joined c.loop-worker.seat.view x) view in
    record {
      own = j.own;
      gathered = one_gathered b.tells c.args.jobs.now c.args.desk w done c.loop-worker.lanes.items _ c.loop-worker.outcomes.items _ c.loop-worker.seat.view _ i.gathered (omega arith)
          t.lane t.outcomes (ap (λ (x : View). x.drawn) both) (ap (λ (x : View). x.failed) both);
      stopped = subst Stopped (sym both) (joined_stopped c.loop-worker.seat.view w.seat.view i.stopped);
      finished = all_rest (IsFinished b.tells c.args.desk c.args.jobs.now) all ws w e i.finished;
      numbered = subst (λ n. AreNumbered n ws) (omega arith) (numbered_rest all ws w e total i.numbered);
      room = let r = rooms_last all ws w e in let v = ap (λ (x : View). x.room) both in let h = i.room in omega arith;
      lanes = ap (λ l. l ++ lanes_of ws) t.lane ∙ append_assoc c.loop-worker.lanes.items (w.lane ∷ []) (lanes_of ws) ∙ ap (λ l. c.loop-worker.lanes.items ++ l) (sym (lanes_last all ws w e)) ∙ i.lanes;
      lanes_room = let r = i.lanes_room in let m = t.lanes_room in omega arith;
      outcomes_room = let r = i.outcomes_room in let m = t.outcomes_room in let o = outcomes_last all ws w e in
          let l = ap length t.outcomes in let z = length-append c.loop-worker.outcomes.items w.outcomes.items in omega arith;
    }
