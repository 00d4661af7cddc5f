use Rattle.std.proofs.Common.{rules, ◌≡◌, ◌+◌, ◌<◌, List, [], ◌∷◌, ◌++◌, length, length-append, take, get_or, All, Contains, IsOk, IsErr, refl, sym, ap, ◌∙◌, subst, inl, inr, arith}
use Rattle.std.proofs.lemmas.List.{get_or_append_left}
use Rattle.std.proofs.lemmas.List.Elements.{All-push, Contains-push}
use Rattle.digest_reader.specs.declared.job.Job.{Job}
use Rattle.copy_workers.specs.declared.receipt.Outcome.{Outcome}
use Rattle.copy_workers.specs.Lanes.{Calm}
use Rattle.copy_workers.specs.Kept.{KeepsAll}
use Rattle.copy_workers.specs.Plain.{alone_view}
use Rattle.copy_workers.specs.Gathered.{InOrder}
use Rattle.copy_workers.proofs.Keeping.{keeps_next}
use Rattle.copy_workers.proofs.Alone.{next_unasked, order_push, plain_more}
use Rattle.copy_workers.proofs.plain.run_plain.Goals as goal

pub finish-end-requires-clause-unasked : goal.finish-end-requires-clause-unasked
finish-end-requires-clause-unasked g c =
    let b = g.L.BlobLane in
    let i = c.loop-job.invariant in
    let k = c.loop-job.job-index in
    let jobs = c.args.jobs.now in
    let job = c.job-item.result in
    let is : job ≡ get_or jobs k job = search rules in
    let lk : k < length jobs = omega arith in
    next_unasked b.tells jobs job k c.loop-job.lane c.loop-job.outcomes.items c.requires.jobs i.works lk is

pub returns-then-failed-clause-done : goal.returns-then-failed-clause-done
returns-then-failed-clause-done g c =
    let b = g.L.BlobLane in
    let i = c.loop-job.invariant in
    let k = c.loop-job.job-index in
    let jobs = c.args.jobs.now in
    let job = c.job-item.result in
    let is : job ≡ get_or jobs k job = search rules in
    let lk : k < length jobs = omega arith in
    let os = c.loop-job.outcomes.items in
    let o : Outcome = record { job = job.number; lane = 0; end = c.finish-end.result } in
    let added : c.push.new.self.items ≡ os ++ o ∷ [] = search rules in
    let err : IsErr c.finish-end.result = search rules in
    let n = ap (λ (j : Job). j.number) is ∙ c.requires.jobs.numbered k job lk in
    let len = ap length added in
    let size = length-append os (o ∷ []) in
    let count = i.count in
    record {
      view = alone_view (k + 1) (job.number ∷ []);
      works = plain_more b.tells jobs job k c.loop-job.lane c.finish-end.new.lane os _ o (job.number ∷ []) c.requires.jobs i.works lk is refl refl c.finish-end.ensures.ends c.finish-end.ensures.named c.finish-end.ensures.kept added (inr (err, refl));
      number = subst (λ (l : List Outcome). All (λ x. x.lane ≡ 0) l) (sym added) (All-push (λ (x : Outcome). x.lane ≡ 0) os o i.number refl);
      ordered = subst (InOrder 0) (sym added) (order_push os 0 o i.ordered (omega arith));
      few = omega arith;
      fine = λ m d lm. let le = ap length added in let lt : m < length os = omega (arith, length-append os (o ∷ [])) in
          subst (λ (x : Outcome). IsOk x.end) (sym (ap (λ l. get_or l m d) added ∙ get_or_append_left os (o ∷ []) d m lt)) (i.fine m d lt);
      ended = inr (o, subst (λ (l : List Outcome). Contains l o) (sym added) (Contains-push os o), err);
    }

pub loop-job-preserved : goal.loop-job-preserved
loop-job-preserved g c =
    let b = g.L.BlobLane in
    let i = c.loop-job.invariant in
    let k = c.loop-job.job-index in
    let jobs = c.args.jobs.now in
    let job = c.job-item.result in
    let is : job ≡ get_or jobs k job = search rules in
    let lk : k < length jobs = omega arith in
    let os = c.loop-job.outcomes.items in
    let o : Outcome = record { job = job.number; lane = 0; end = c.finish-end.result } in
    let added : c.push.new.self.items ≡ os ++ o ∷ [] = search rules in
    let calm : Calm b.tells c.finish-end.new.lane = search rules in
    let n = ap (λ (j : Job). j.number) is ∙ c.requires.jobs.numbered k job lk in
    let len = ap length added in
    let size = length-append os (o ∷ []) in
    let count = i.count in
    record {
      works = plain_more b.tells jobs job k c.loop-job.lane c.finish-end.new.lane os _ o [] c.requires.jobs i.works lk is refl refl c.finish-end.ensures.ends c.finish-end.ensures.named c.finish-end.ensures.kept added (inl (calm, refl));
      calm = calm;
      number = subst (λ (l : List Outcome). All (λ x. x.lane ≡ 0) l) (sym added) (All-push (λ (x : Outcome). x.lane ≡ 0) os o i.number refl);
      ordered = subst (InOrder 0) (sym added) (order_push os 0 o i.ordered (omega arith));
      fine = subst (λ (l : List Outcome). All (λ x. IsOk x.end) l) (sym added) (All-push (λ (x : Outcome). IsOk x.end) os o i.fine (search rules));
      count = omega arith;
      room = let r = i.room in let e = c.push.ensures.capacity in omega arith;
      kept = keeps_next b.tells jobs c.requires.jobs k job c.args.lane.now c.loop-job.lane c.finish-end.new.lane lk is i.kept c.finish-end.ensures.named c.finish-end.ensures.kept;
    }

pub returns-then-failed-clause-asked : goal.returns-then-failed-clause-asked
returns-then-failed-clause-asked g c =
    let b = g.L.BlobLane in
    let i = c.loop-job.invariant in
    let k = c.loop-job.job-index in
    let jobs = c.args.jobs.now in
    let job = c.job-item.result in
    let is : job ≡ get_or jobs k job = search rules in
    let lk : k < length jobs = omega arith in
    let os = c.loop-job.outcomes.items in
    let o : Outcome = record { job = job.number; lane = 0; end = c.finish-end.result } in
    let added : c.push.new.self.items ≡ os ++ o ∷ [] = search rules in
    let size = length-append os (o ∷ []) in
    let count : k + 1 ≡ length c.push.new.self.items = let len = ap length added in let n = i.count in omega arith in
    subst (λ n. KeepsAll b.tells (take n jobs) c.args.lane.now c.finish-end.new.lane) count
    (keeps_next b.tells jobs c.requires.jobs k job c.args.lane.now c.loop-job.lane c.finish-end.new.lane lk is i.kept c.finish-end.ensures.named c.finish-end.ensures.kept)

pub returns-clause-done : goal.returns-clause-done
returns-clause-done g c =
    let i = c.loop-job.invariant in
    let count = i.count in
    let all = c.loop-job-test.false in
    record {
      view = alone_view c.loop-job.job-index [];
      works = i.works;
      number = i.number;
      ordered = i.ordered;
      few = omega arith;
      fine = λ m d lm. i.fine m d (omega arith);
      ended = inl (omega arith);
    }
