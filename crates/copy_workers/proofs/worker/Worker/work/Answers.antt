use Rattle.std.proofs.Common.{rules, ◌≡◌, ℕ, ◌-◌, ◌+◌, ◌<◌, List, All, get_or, length, length-append, sym, ap, ◌∙◌, subst, inl, inr, ⊎_elim, IsErr, eq-zero-or-pos, arith}
use Rattle.std.proofs.lemmas.List.Elements.{All-push}
use Rattle.copy_workers.specs.declared.receipt.Outcome.{Outcome}
use Rattle.location_cache.specs.Rule.{times}
use Rattle.copy_workers.specs.Lanes.{Calm}
use Rattle.copy_workers.specs.Works.{DrewPast}
use Rattle.copy_workers.proofs.Keeping.{keeps_job}
use Rattle.copy_workers.proofs.Working.{is_fresh, works_more, works_end, drew_this}
use Rattle.copy_workers.proofs.worker.Worker.work.Goals as goal

pub do_job-requires-clause-calm : goal.do_job-requires-clause-calm
do_job-requires-clause-calm g c = ⊎_elim (λ (h : Calm g.L.BlobLane.tells c.loop-number.self.lane). h)
    (λ (f : (job : ℕ) × (0 < times job c.loop-number.self.seat.view.failed)). absurd (c.in-Some.ensures.calm f.0 f.1)) c.loop-number.invariant.calm

pub do_job-requires-clause-unasked : goal.do_job-requires-clause-unasked
do_job-requires-clause-unasked g c =
    let b = g.L.BlobLane in
    let i = c.loop-number.invariant in
    let s = c.in-Some.ensures.some in
    let all = c.requires.jobs.1 in
    let jobs = c.args.jobs.now in
    let k = c.in-Some.number - 1 in
    let nk : c.in-Some.number ≡ k + 1 = omega arith in
    let lk : k < length jobs = omega arith in
    let job = c.index-jobs-number.result in
    let is : job ≡ get_or jobs k job = search rules in
    (is_fresh b.tells jobs job c.in-Some.number k c.loop-number.self.lane c.loop-number.self.outcomes.items c.loop-number.self.seat.view
    c.requires.jobs.0 i.works nk lk is c.in-Some.ensures.greater).1

later : (g : _) (c : goal.After-do_job g) → c.loop-number.last < c.in-Some.number
later g c =
    let i = c.loop-number.invariant in
    let s = c.in-Some.ensures.some in
    elim (eq-zero-or-pos c.loop-number.last) [ inl z ↦ omega arith | inr p ↦ c.in-Some.ensures.greater c.loop-number.last (i.last p) ]

pub do_job-requires-clause-room : goal.do_job-requires-clause-room
do_job-requires-clause-room g c =
    let i = c.loop-number.invariant in
    let s = c.in-Some.ensures.some in
    let all = c.requires.jobs.1 in
    elim (eq-zero-or-pos c.loop-number.last) [ inl z ↦ omega arith | inr p ↦ (let l = c.in-Some.ensures.greater c.loop-number.last (i.last p) in omega arith) ]

pub loop-number-smaller : goal.loop-number-smaller
loop-number-smaller g c =
    let l = later g c in
    let s = c.in-Some.ensures.some in
    let all = c.requires.jobs.1 in
    let goal : length c.args.jobs.now - c.in-Some.number < length c.args.jobs.now - c.loop-number.last = omega arith in
    goal

pub loop-number-preserved : goal.loop-number-preserved
loop-number-preserved g c =
    let i = c.loop-number.invariant in
    let s = c.in-Some.ensures.some in
    let b = g.L.BlobLane in
    let all = c.requires.jobs.1 in
    let jobs = c.args.jobs.now in
    let k = c.in-Some.number - 1 in
    let nk : c.in-Some.number ≡ k + 1 = omega arith in
    let lk : k < length c.args.jobs.now = omega arith in
    let e = c.do_job.ensures.ends in
    let job = c.index-jobs-number.result in
    let is : job ≡ get_or jobs k job = search rules in
    let l = later g c in
    record {
      own = c.do_job.ensures.own;
      works = works_more b.tells jobs job c.in-Some.number k c.loop-number.self.lane c.loop-number.self.outcomes.items c.loop-number.self.seat.view _ _ _ _ _
          c.requires.jobs.0 i.works nk lk is s.2 c.in-Some.ensures.greater e;
      lane = subst (λ (l : List Outcome). All (λ o. o.lane ≡ c.args.self.now.number) l) (sym e.added)
          (All-push (λ (o : Outcome). o.lane ≡ c.args.self.now.number) c.loop-number.self.outcomes.items e.outcome i.lane (e.lane_is ∙ i.number));
      number = c.do_job.ensures.number ∙ i.number;
      room = e.room ∙ s.2.room ∙ i.room;
      capacity = let r = c.do_job.ensures.capacity in let i = c.loop-number.invariant.capacity in omega arith;
      count = let a = ap length e.added in omega (arith, length-append {A = Outcome});
      within = omega arith;
      last = λ _. drew_this c.in-Some.number c.loop-number.self.seat.view.drawn _ (e.drawn ∙ s.2.drawn);
      calm = ⊎_elim (λ (n : Calm b.tells c.do_job.new.self.lane × (c.do_job.new.self.seat.view.failed ≡ _)). inl n.0)
          (λ (n : IsErr e.outcome.end × (c.do_job.new.self.seat.view.failed ≡ _)). inr (_, drew_this _ _ _ n.1)) e.noted;
      kept = keeps_job b.tells jobs c.requires.jobs.0 job c.args.self.now.lane c.loop-number.self.lane _ (k, lk, sym is) i.kept e.names e.kept;
    }

pub returns-clause-works : goal.returns-clause-works
returns-clause-works g c =
    let b = g.L.BlobLane in
    let all = c.requires.jobs.1 in
    works_end b.tells c.args.jobs.now c.loop-number.self.lane c.loop-number.self.outcomes.items c.loop-number.self.seat.view c.next_job.new.seat.view c.loop-number.invariant.works
    (subst (λ (n : ℕ). DrewPast n c.loop-number.self.seat.view c.next_job.new.seat.view) (sym all) c.in_default.ensures.none.1)
