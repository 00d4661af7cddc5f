-- What the sorted outcomes of all lanes say.
use Rattle.std.proofs.Common.{◌≡◌, ◌≢◌, ◌⊎◌, ℕ, zero, suc, ◌+◌, ◌<◌, ◌≤◌, ◌==◌, nat_le, cond, min, true, Some, None, Result, Ok, Err, List, [], ◌∷◌, ◌++◌, map, length, get_or, Contains, IsErr, IsPermutation, refl, sym, ap, ◌∙◌, subst, inl, inr, ⊎_elim, length-append, zero-le, true≢false, arith}
use Rattle.std.specs.Prelude.{slice_get}
use Rattle.std.proofs.Common.{Vec, Global, MatchResult}
use Rattle.std.specs.List.Sorted.{IsNonDecreasingBy}
use Rattle.std.proofs.lemmas.List.{get_or-map}
use Rattle.std.proofs.Math.Seq.{get_or-append_seam}
use Rattle.std.proofs.lemmas.List.Sorted.{All-permutation, IsPermutation-sym, sum_by-IsPermutation}
use Rattle.std.proofs.lemmas.Option.{get_or_from_slice_get, slice_get-get_or, slice_get_within}
use Rattle.std.proofs.lemmas.Bool.Decides.{nat_tests}
use Rattle.location_cache.specs.declared.view.View.{View}
use Rattle.location_cache.specs.Rule.{once_to, none_failed}
use Rattle.location_cache.specs.Seats.{AreDrawn, SawFailed}
use Rattle.digest_reader.specs.declared.job.Job.{Job}
use Rattle.copy_workers.specs.declared.receipt.Outcome.{Outcome}
use Rattle.copy_workers.specs.Receipts.{Issued}
use Rattle.copy_workers.specs.declared.receipt.JobFault.{JobFault}
use Rattle.copy_workers.specs.Lanes.{Lore, EndsAs}
use Rattle.copy_workers.specs.Answers.{Failed}
use Rattle.copy_workers.specs.Jobs.{AreJobs}
use Rattle.copy_workers.specs.Works.{ended, Stopped}
use Rattle.copy_workers.specs.Outcomes.{outcome_of, failure, IsFirstFault}
use Rattle.copy_workers.specs.Secured.{IsSecuredBy, AreSecured, Succeeded, WereDrawn, IsLeastFault}
use Rattle.copy_workers.specs.Gathered.{InOrder, Gathered}
use Rattle.copy_workers.proofs.Ordering.{in_order, at_place, ascends}
use Rattle.copy_workers.proofs.Working.{any_default, pick}

counts_once : (job most draws x : ℕ) → x ≡ cond (nat_le job most) (once_to draws job) 0 → x ≡ once_to (min draws most) job
counts_once job most draws x e = grind (arith, nat_tests)

pub by_result : {P P' : List Issued → Type 0} {Q Q' : JobFault → Type 0} (r : Result (Vec Issued Global) JobFault) → ((rs : List Issued) → P rs → P' rs) → ((f : JobFault) → Q f → Q' f)
    → MatchResult r (λ all. P all.items) Q → MatchResult r (λ all. P' all.items) Q'
by_result (Ok rs) p q h = p rs.items h
by_result (Err f) p q h = q f h

-- what the gathered outcomes count
pub counted : {L O : Type 0} (tells : Lore L O) (jobs : List Job) (lanes : List L) (all : List Outcome) (v : View) → Gathered tells jobs lanes all v → (drawn : AreDrawn (length jobs) v) → (job : ℕ) → ended job all ≡ once_to (min drawn.draws (length jobs)) job
counted tells jobs lanes all v gathered drawn job = counts_once job (length jobs) drawn.draws (ended job all) (gathered.drawn job ∙ ap (λ x. cond (nat_le job (length jobs)) x 0) (drawn.once job))

-- a lane that is found by its number is one of them
found : {L : Type 0} (lanes : List L) (k : ℕ) (l : L) → slice_get lanes k ≡ Some l → Contains lanes l
found lanes k l e = (k, slice_get_within lanes k l e, get_or_from_slice_get lanes k l l e)

len_map : (rs : List Issued) → length (map outcome_of rs) ≡ length rs
len_map [] = refl
len_map (r ∷ rs) = ap suc (len_map rs)

not_err : (o : Outcome) (r : Issued) → outcome_of r ≡ o → IsErr o.end → ⊥
not_err o r e h = let bad : IsErr (outcome_of r).end = subst (λ (y : Outcome). IsErr y.end) (sym e) h in true≢false (sym bad)

no_err_at : (rs : List Issued) (k : ℕ) (o : Outcome) → k < length (map outcome_of rs) → get_or (map outcome_of rs) k o ≡ o → IsErr o.end → ⊥
no_err_at [] k o h e err = absurd (omega arith)
no_err_at (r ∷ rs) zero o h e err = not_err o r e err
no_err_at (r ∷ rs) (suc k) o h e err = no_err_at rs k o (omega arith) e err

front : (before : List Issued) (tail : List Outcome) (k : ℕ) → k < length before → (r : Issued) × ((o : Outcome) → get_or (map outcome_of before ++ tail) k o ≡ outcome_of r)
front [] tail k h = absurd (omega arith)
front (r ∷ before) tail zero h = (r, λ o. refl)
front (r ∷ before) tail (suc k) h = front before tail k (omega arith)

module _ {L O : Type 0} (tells : Lore L O) (jobs : List Job) (lanes : List L) (all sorted : List Outcome) (v : View) where
  -- what is known of the outcomes in the order of their jobs
  pub record Ready : Type 0 where
    pub are : AreJobs jobs
    pub gathered : Gathered tells jobs lanes all v
    pub ordered : InOrder 0 sorted
    pub few : length sorted ≤ length jobs
    pub from : (o : Outcome) → Contains sorted o → Contains all o
    pub to : (o : Outcome) → Contains all o → Contains sorted o
    pub ended : (length sorted ≡ length jobs) ⊎ ((o : Outcome) × Contains all o × IsErr o.end)

  -- the outcomes of a desk's jobs, once sorted
  pub ready_of_desk : AreJobs jobs → Gathered tells jobs lanes all v → AreDrawn (length jobs) v → SawFailed v → Stopped v → IsPermutation all sorted → IsNonDecreasingBy (λ o. o.job) sorted → Ready
  ready_of_desk are gathered drawn saw stopped same rises =
      let order = in_order sorted (min drawn.draws (length jobs))
      (ascends sorted 0 (λ k d h. zero-le) (λ k d h. rises k (k + 1) d (omega arith) h))
      (λ job. sum_by-IsPermutation (λ (o : Outcome). cond (o.job == job) 1 0) all sorted same ∙ counted tells jobs lanes all v gathered drawn job) in
      let len = order.1 in
      record {
        are = are;
        gathered = gathered;
        ordered = order.0;
        few = omega arith;
        from = λ o h. subst (Contains all) h.2 (All-permutation (Contains all) all sorted same (λ k d lk. (k, lk, any_default all k _ _ lk)) h.0 o h.1);
        to = λ o h. subst (Contains sorted) h.2 (All-permutation (Contains sorted) sorted all (IsPermutation-sym all sorted same) (λ k d lk. (k, lk, any_default sorted k _ _ lk)) h.0 o h.1);
        ended = ⊎_elim (λ (d : v.done ≡ true). inl (let p = drawn.past d in omega arith)) (λ (s : v.seen < none_failed). let f = saw s in inr (gathered.fails f.0 f.1)) stopped;
      }

  -- the job of the outcome at a place
  told_at : (r : Ready) (k : ℕ) (o : Outcome) (j : Job) → k < length sorted → k < length jobs → get_or sorted k o ≡ o → (l : L) × (slice_get lanes o.lane ≡ Some l) × EndsAs tells l (get_or jobs k j) o.end
  told_at r k o j lk lj is =
      let job = get_or jobs k j in
      let at = at_place sorted 0 k o r.ordered lk in
      let n = r.are.numbered k j lj in
      let same : o.job ≡ 0 + k + 1 = ap (λ (y : Outcome). y.job) (sym is) ∙ at in
      r.gathered.told o job (r.from o (k, lk, is)) (k, lj, any_default jobs k _ _ lj) (omega arith)

  -- no other lane was asked for the job of the outcome at a place
  alone_at : (r : Ready) (k : ℕ) (o : Outcome) (m : ℕ) (l : L) (j : Job) → k < length jobs → get_or sorted k o ≡ o → slice_get lanes m ≡ Some l → m ≢ o.lane → tells.asked l (get_or jobs k j) ≡ []
  alone_at r k o m l j lk here at ne = ⊎_elim
      (λ (none : tells.asked l (get_or jobs k j) ≡ []). none)
      (λ (one : (p : Outcome) × Contains all p × (p.job ≡ (get_or jobs k j).number) × (p.lane ≡ m)).
      let s = r.to one.0 one.1 in
      let placed = at_place sorted 0 s.0 one.0 r.ordered s.1 in
      let job : one.0.job ≡ 0 + s.0 + 1 = ap (λ (y : Outcome). y.job) (sym s.2) ∙ placed in
      let n = r.are.numbered k j lk in
      let b = one.2 in
      let ik : s.0 ≡ k = omega arith in
      let same : one.0 ≡ o = sym s.2 ∙ ap (λ i. get_or sorted i one.0) ik ∙ any_default sorted k one.0 o (subst (λ i. i < length sorted) ik s.1) ∙ here in
      absurd (ne (sym one.3 ∙ ap (λ (y : Outcome). y.lane) same)))
      (r.gathered.asked m l (get_or jobs k j) at (k, lk, any_default jobs k _ _ lk))

  -- no lane was asked for a job that has no outcome
  none_past : (r : Ready) (k : ℕ) (j : Job) → length sorted ≤ k → slice_get jobs k ≡ Some j → (m : ℕ) (l : L) → slice_get lanes m ≡ Some l → tells.asked l j ≡ []
  none_past r k j past at m l here =
      let lk = slice_get_within jobs k j at in
      let is = get_or_from_slice_get jobs k j j at in
      let n = r.are.numbered k j lk in
      let number : j.number ≡ k + 1 = ap (λ (y : Job). y.number) (sym is) ∙ n in
      ⊎_elim
      (λ (none : tells.asked l j ≡ []). none)
      (λ (one : (p : Outcome) × Contains all p × (p.job ≡ j.number) × (p.lane ≡ m)).
      let s = r.to one.0 one.1 in
      let placed = at_place sorted 0 s.0 one.0 r.ordered s.1 in
      let job : one.0.job ≡ 0 + s.0 + 1 = ap (λ (y : Outcome). y.job) (sym s.2) ∙ placed in
      let b = one.2 in
      let lt = s.1 in
      absurd (omega arith))
      (r.gathered.asked m l j here (k, lk, is))

  -- the jobs that have outcomes are those that were drawn
  drawn_first : (r : Ready) → WereDrawn tells jobs lanes (length sorted)
  drawn_first r = record {
    finished = λ k j lt at. (let p = pick sorted k lt in
        let here : get_or sorted k p.0 ≡ p.0 = get_or_from_slice_get sorted k p.0 p.0 p.1 in
        let lj = slice_get_within jobs k j at in
        let is = get_or_from_slice_get jobs k j j at in
        let t = told_at r k p.0 j lt lj here in
        record {
          place = p.0.lane;
          on = t.0;
          lane = t.1;
          outcome = p.0.end;
          told = subst (λ (x : Job). EndsAs tells t.0 x p.0.end) is t.2;
          alone = λ m l here_m ne. subst (λ (x : Job). tells.asked l x ≡ []) is (alone_at r k p.0 m l j lj here here_m ne);
        });
    none = λ k j past at m l lm. none_past r k j past at m (get_or lanes m l) (slice_get-get_or lanes m l lm);
  }

  pub all_secured : (r : Ready) (rs : List Issued) → sorted ≡ map outcome_of rs → AreSecured tells jobs lanes rs
  all_secured r rs is = record { count = count; each = each; quiet = λ k l lk i j li. no_failure (get_or lanes k l) (get_or jobs i j) (k, lk, any_default lanes k _ _ lk) (i, li, any_default jobs i _ _ li) }
    where
      no_err : (o : Outcome) → Contains all o → IsErr o.end → ⊥
      no_err o h err = let s = subst (λ l. Contains l o) is (r.to o h) in no_err_at rs s.0 o s.1 s.2 err

      count : length rs ≡ length jobs
      count = let e = ap length is in let m = len_map rs in
          ⊎_elim (λ (l : length sorted ≡ length jobs). omega arith) (λ (bad : (o : Outcome) × Contains all o × IsErr o.end). absurd (no_err bad.0 bad.1 bad.2)) r.ended

      each : (k : ℕ) (x : Issued) (j : Job) → k < length jobs → IsSecuredBy tells jobs lanes (get_or rs k x) (get_or jobs k j)
      each k x j lk =
          let rc = get_or rs k x in
          let o = outcome_of rc in
          let lr : k < length rs = let c = count in omega arith in
          let ls : k < length sorted = let e = ap length is in omega (arith, len_map rs) in
          let here : get_or sorted k o ≡ o = ap (λ l. get_or l k o) is ∙ get_or-map outcome_of rs k x o lr in
          let t = told_at r k o j ls lk here in
          let at = at_place sorted 0 k o r.ordered ls in
          let n = r.are.numbered k j lk in
          let same : o.job ≡ 0 + k + 1 = ap (λ (y : Outcome). y.job) (sym here) ∙ at in
          record { job = omega arith; on = t.0; lane = t.1; told = t.2.0; asked = t.2.2; alone = λ m l at ne. alone_at r k o m l j lk here at ne }

      no_failure : (l : L) (j : Job) → Contains lanes l → Contains jobs j → tells.failed l j ≡ None
      no_failure l j hl hj = ⊎_elim (λ (n : tells.failed l j ≡ None). n) (λ (e : (o : Outcome) × Contains all o × (o.job ≡ j.number) × IsErr o.end). absurd (no_err e.0 e.1 e.3)) (r.gathered.blame l j hl hj)

  pub least_fault : (r : Ready) (fault : JobFault) → IsFirstFault sorted fault → IsLeastFault tells jobs lanes fault
  least_fault r fault f =
      let place = length f.before in
      let o = failure fault.job f.lane fault.cause in
      let here : get_or sorted place o ≡ o = ap (λ l. get_or l place o) f.is ∙ subst (λ n. get_or (map outcome_of f.before ++ o ∷ f.rest) n o ≡ o) (len_map f.before) (get_or-append_seam (map outcome_of f.before) o f.rest o) in
      let e = ap length f.is in
      let ls : place < length sorted = omega (arith, length-append (map outcome_of f.before) (o ∷ f.rest), len_map f.before) in
      let lj : place < length jobs = let l = r.few in omega arith in
      let job = pick jobs place lj in
      let t = told_at r place o job.0 ls lj here in
      let at = at_place sorted 0 place o r.ordered ls in
      let same : fault.job ≡ 0 + place + 1 = ap (λ (y : Outcome). y.job) (sym here) ∙ at in
      record {
        place = place;
        is = omega arith;
        job = job.0;
        at = job.1;
        on = t.0;
        lane = found lanes f.lane t.0 t.1;
        cause = ap (tells.failed t.0) (sym (get_or_from_slice_get jobs place job.0 job.0 job.1)) ∙ t.2.0;
        asked = subst (λ (j : Job). Failed (tells.asked t.0 j)) (get_or_from_slice_get jobs place job.0 job.0 job.1) t.2.1;
        lower = lower;
        drawn = length sorted;
        among = ls;
        first = drawn_first r;
      }
    where
      lower : (k : ℕ) (j : Job) → k < length f.before → slice_get jobs k ≡ Some j → Succeeded tells jobs lanes j
      lower k j lk ej =
          let x = front f.before (failure fault.job f.lane fault.cause ∷ f.rest) k lk in
          let o = outcome_of x.0 in
          let here : (d : Outcome) → get_or sorted k d ≡ o = λ d. ap (λ l. get_or l k d) f.is ∙ x.1 d in
          let e = ap length f.is in
          let ls : k < length sorted = omega (arith, length-append (map outcome_of f.before) (failure fault.job f.lane fault.cause ∷ f.rest), len_map f.before) in
          let lj = slice_get_within jobs k j ej in
          let is_j = get_or_from_slice_get jobs k j j ej in
          let t = told_at r k o j ls lj (here o) in
          let n = r.are.numbered k j lj in
          let num : j.number ≡ k + 1 = ap (λ (y : Job). y.number) (sym is_j) ∙ n in
          record {
            on = t.0;
            lane = found lanes o.lane t.0 t.1;
            told = subst (tells.secured t.0) is_j t.2.0;
            how = x.0.how;
            asked = ap (tells.asked t.0) (sym is_j) ∙ t.2.2;
            quiet = λ i d li. let l = get_or lanes i d in
                ⊎_elim (λ (none : tells.failed l j ≡ None). none)
                (λ (bad : (p : Outcome) × Contains all p × (p.job ≡ j.number) × IsErr p.end).
                let s = r.to bad.0 bad.1 in
                let at = at_place sorted 0 s.0 bad.0 r.ordered s.1 in
                let same : bad.0.job ≡ 0 + s.0 + 1 = ap (λ (y : Outcome). y.job) (sym s.2) ∙ at in
                let b = bad.2 in
                let ik : s.0 ≡ k = omega arith in
                absurd (not_err bad.0 x.0 (sym (here bad.0) ∙ ap (λ m. get_or sorted m bad.0) (sym ik) ∙ s.2) bad.3))
                (r.gathered.blame l j (i, li, any_default lanes i _ _ li) (k, lj, is_j));
          }
