use Rattle.std.proofs.Common.{◌≡◌, min, List, length, vec_len, sym, ◌∙◌, subst, arith}
use Rattle.copy_workers.specs.Kept.{EachKeeps}
use Rattle.copy_workers.specs.Teams.{AreNumbered, lanes_of}
use Rattle.copy_workers.proofs.Running.{finished, numbered, same_rooms, few_outcomes, keeps_lanes}
use Rattle.copy_workers.proofs.Settling.{by_result, ready_of_desk, all_secured, least_fault, counted}
use Rattle.copy_workers.proofs.secure.run_at_desk.Goals as goal

pub gather-requires-clause-finished : goal.gather-requires-clause-finished
gather-requires-clause-finished g c =
    let b = g.L.BlobLane in
    finished b.tells c.in_ok-desk.desk c.args.jobs.now c.staff.new.workers.items c.run_all.new.workers.items (let n = c.run_all.ensures.count in omega arith) c.run_all.ensures.worked

pub gather-requires-clause-numbered : goal.gather-requires-clause-numbered
gather-requires-clause-numbered g c =
    let b = g.L.BlobLane in
    let e = c.run_all.ensures.count in
    let f = c.staff.ensures.count in
    subst (λ n. AreNumbered n c.run_all.new.workers.items) (omega arith)
    (numbered b.tells c.in_ok-desk.desk c.args.jobs.now c.staff.new.workers.items c.run_all.new.workers.items (let n = c.run_all.ensures.count in omega arith) c.run_all.ensures.worked (vec_len c.args.lanes.now) c.staff.ensures.numbered)

pub gather-requires-clause-room : goal.gather-requires-clause-room
gather-requires-clause-room g c =
    let b = g.L.BlobLane in
    same_rooms b.tells c.in_ok-desk.desk c.args.jobs.now c.staff.new.workers.items c.run_all.new.workers.items (let n = c.run_all.ensures.count in omega arith) c.run_all.ensures.worked ∙ c.staff.ensures.room

pub gather-requires-clause-outcomes : goal.gather-requires-clause-outcomes
gather-requires-clause-outcomes g c =
    let b = g.L.BlobLane in
    let n = c.run_all.ensures.count in
    let e : length c.run_all.new.workers.items ≡ length c.staff.new.workers.items = omega arith in
    let f = c.staff.ensures.count in
    let most = c.requires.lanes.1 in
    let few = few_outcomes b.tells c.in_ok-desk.desk c.args.jobs.now c.staff.new.workers.items c.run_all.new.workers.items e c.run_all.ensures.worked (omega arith) in
    let room = c.in_ok-outcomes.ensures.capacity in
    (c.in_ok-outcomes.ensures.len, omega arith)

pub settle-requires-clause-once : goal.settle-requires-clause-once
settle-requires-clause-once g c =
    let b = g.L.BlobLane in
    let h = c.gather.ensures.gathered in
    let room = c.in_ok-receipts.ensures.capacity in
    (min h.2.draws (length c.args.jobs.now), omega arith, counted b.tells c.args.jobs.now c.gather.new.lanes.items c.gather.new.outcomes.items h.0 h.1 h.2)

pub returns-clause-outcome : goal.returns-clause-outcome
returns-clause-outcome g c =
    let b = g.L.BlobLane in
    let h = c.gather.ensures.gathered in
    let s = c.settle.ensures in
    let ready = ready_of_desk b.tells c.args.jobs.now c.gather.new.lanes.items c.gather.new.outcomes.items s.0 h.0 c.requires.jobs.0 h.1 h.2 h.3 h.4 s.1 s.2 in
    by_result c.settle.result (λ receipts e. all_secured b.tells c.args.jobs.now c.gather.new.lanes.items c.gather.new.outcomes.items s.0 h.0 ready receipts e)
    (λ fault f. least_fault b.tells c.args.jobs.now c.gather.new.lanes.items c.gather.new.outcomes.items s.0 h.0 ready fault f) s.3

pub returns-clause-kept : goal.returns-clause-kept
returns-clause-kept g c =
    let b = g.L.BlobLane in
    let jobs = c.args.jobs.now in
    let olds = c.staff.new.workers.items in
    let news = c.run_all.new.workers.items in
    subst (λ (x : List g.row.L.Denot). EachKeeps b.tells jobs x c.gather.new.lanes.items) c.staff.ensures.lanes
    (subst (λ (x : List g.row.L.Denot). EachKeeps b.tells jobs (lanes_of olds) x) (sym c.gather.ensures.lanes)
    (keeps_lanes b.tells c.in_ok-desk.desk jobs olds news (let n = c.run_all.ensures.count in omega arith) c.run_all.ensures.worked))
