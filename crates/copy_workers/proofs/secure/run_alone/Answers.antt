use Rattle.std.proofs.Common.{ℕ, zero, suc, ◌<◌, get_or, rules, ◌≡◌, List, [], ◌∷◌, ◌++◌, length, Vec, Global, MatchResult, sym, ap, ◌∙◌, subst, length-append, arith}
use Rattle.copy_workers.specs.Receipts.{Issued}
use Rattle.copy_workers.specs.declared.receipt.JobFault.{JobFault}
use Rattle.copy_workers.specs.Secured.{AreSecured, IsLeastFault, OnlyAsked}
use Rattle.copy_workers.specs.Lanes.{Lore}
use Rattle.copy_workers.specs.Kept.{KeepsAll, EachKeeps}
use Rattle.digest_reader.specs.declared.job.Job.{Job}
use Rattle.copy_workers.proofs.Keeping.{keeps_front}
use Rattle.copy_workers.proofs.Popping.{no_items}
use Rattle.copy_workers.proofs.Settling.{by_result, all_secured, least_fault}
use Rattle.copy_workers.proofs.Alone.{ready_alone, last_is_fault, kept_alone}
use Rattle.copy_workers.proofs.secure.run_alone.Goals as goal

-- the lanes before and after are one each
lone : (g : _) (c : goal.After-conclude g) → (c.args.lanes.now.items ≡ c.in-Some.lane ∷ []) × (c.push.new.self.items ≡ c.run_plain.new.lane ∷ [])
lone g c =
    let one = c.requires.one in
    let len = ap length c.in-Some.ensures.items in
    let size = length-append c.pop.new.self.items (c.in-Some.lane ∷ []) in
    let none = no_items c.pop.new.self.items (omega arith) in
    let pushed : c.push.new.self.items ≡ c.pop.new.self.items ++ c.run_plain.new.lane ∷ [] = search rules in
    (c.in-Some.ensures.items ∙ ap (λ l. l ++ c.in-Some.lane ∷ []) none, pushed ∙ ap (λ l. l ++ c.run_plain.new.lane ∷ []) none)

pub returns-clause-outcome : goal.returns-clause-outcome
returns-clause-outcome g c =
    let b = g.L.BlobLane in
    let d = c.run_plain.ensures.done in
    let jobs = c.args.jobs.now in
    let lane = c.run_plain.new.lane in
    let os = c.run_plain.new.outcomes.items in
    let are = lone g c in
    let ready = ready_alone b.tells jobs lane os c.requires.jobs d in
    let wanted = λ (olds news : List g.row.L.Denot). MatchResult c.conclude.result (λ (rs : Vec Issued Global). AreSecured b.tells jobs news rs.items)
    (λ (fault : JobFault). IsLeastFault b.tells jobs news fault × OnlyAsked b.tells jobs fault.job olds news) in
    subst (λ (olds : List g.row.L.Denot). wanted olds c.push.new.self.items) (sym are.0)
    (subst (λ (news : List g.row.L.Denot). wanted (c.in-Some.lane ∷ []) news) (sym are.1)
    (by_result c.conclude.result (λ rs e. all_secured b.tells jobs (lane ∷ []) os os d.view ready rs e)
    (λ f e. (
      least_fault b.tells jobs (lane ∷ []) os os d.view ready f e,
      (λ l. keeps_front b.tells jobs c.requires.jobs (length os) f.job c.in-Some.lane lane (last_is_fault b.tells jobs lane os d f e) c.run_plain.ensures.asked),
    )) c.conclude.ensures))

pub returns-clause-kept : goal.returns-clause-kept
returns-clause-kept g c =
    let b = g.L.BlobLane in
    let jobs = c.args.jobs.now in
    let os = c.run_plain.new.outcomes.items in
    let are = lone g c in
    let kept = kept_alone b.tells jobs c.in-Some.lane c.run_plain.new.lane os c.requires.jobs c.run_plain.ensures.done.few c.run_plain.ensures.asked in
    subst (λ (olds : List g.row.L.Denot). EachKeeps b.tells jobs olds c.push.new.self.items) (sym are.0)
    (subst (λ (news : List g.row.L.Denot). EachKeeps b.tells jobs (c.in-Some.lane ∷ []) news) (sym are.1) (λ k l lk. only k l lk kept))
  where
    only : {L O : Type 0} {tells : Lore L O} {jobs : List Job} {old new : L} (k : ℕ) (l : L) → k < 1 → KeepsAll tells jobs old new → KeepsAll tells jobs (get_or (old ∷ []) k l) (get_or (new ∷ []) k l)
    only zero l lk kept = kept
    only (suc k) l lk kept = absurd (omega arith)
