-- One more job on a lane keeps what is said of its outcomes.
use Rattle.std.proofs.Common.{◌≡◌, ◌≢◌, ℕ, zero, suc, ◌+◌, ◌<◌, ◌≤◌, ◌==◌, nat_le, cond, Some, None, Result, Ok, Err, List, [], ◌∷◌, ◌++◌, length, get_or, Contains, IsErr, refl, sym, ap, ◌∙◌, subst, inl, inr, ⊎_elim, eq-zero-or-pos, arith}
use Rattle.std.specs.Prelude.{slice_get}
use Rattle.std.proofs.lemmas.List.Sums.{sum_by_push, sum_by-cons}
use Rattle.std.proofs.lemmas.List.Elements.{All-contains, Contains-push_cases, Contains-push, Contains-append_left}
use Rattle.std.proofs.lemmas.Bool.Decides.{nat_tests}
use native.Mathlib.Decide.{dec_le}
use Rattle.location_cache.specs.declared.view.View.{View}
use Rattle.location_cache.specs.Rule.{times}
use Rattle.digest_reader.specs.declared.job.Job.{Job}
use Rattle.copy_workers.specs.declared.cause.Cause.{Cause}
use Rattle.copy_workers.specs.declared.receipt.How.{How}
use Rattle.copy_workers.specs.declared.receipt.Outcome.{Outcome}
use Rattle.copy_workers.specs.Lanes.{Lore, EndsAs, Keeps, IsUnused}
use Rattle.copy_workers.specs.Answers.{Failed}
use Rattle.copy_workers.specs.Jobs.{AreJobs}
use Rattle.copy_workers.specs.Works.{ended, DrewOne, DrewPast, IsFresh, Works, Ends}

pub any_default : {A : Type 0} (xs : List A) (k : ℕ) (a b : A) → k < length xs → get_or xs k a ≡ get_or xs k b
any_default [] k a b h = absurd (omega arith)
any_default (x ∷ xs) zero a b h = refl
any_default (x ∷ xs) (suc k) a b h = any_default xs k a b (omega arith)

-- what stands at a place
pub pick : {A : Type 0} (xs : List A) (k : ℕ) → k < length xs → (x : A) × (slice_get xs k ≡ Some x)
pick [] k h = absurd (omega arith)
pick (x ∷ xs) zero h = (x, refl)
pick (x ∷ xs) (suc k) h = pick xs k (omega arith)

-- the job at a place is known by its number
pub job_at : (jobs : List Job) (i k : ℕ) (a b : Job) → AreJobs jobs → i < length jobs → k < length jobs → a ≡ get_or jobs i a → b ≡ get_or jobs k b → a.number ≡ b.number → a ≡ b
job_at jobs i k a b are li lk ai bk same =
    let na : a.number ≡ i + 1 = ap (λ (j : Job). j.number) ai ∙ are.numbered i a li in
    let nb : b.number ≡ k + 1 = ap (λ (j : Job). j.number) bk ∙ are.numbered k b lk in
    let ik : i ≡ k = omega arith in
    ai ∙ ap (λ n. get_or jobs n a) ik ∙ any_default jobs k a b lk ∙ sym bk

-- jobs of other numbers have other digests
pub other_digest : (jobs : List Job) (a b : Job) → AreJobs jobs → Contains jobs a → Contains jobs b → a.number ≢ b.number → a.digest ≢ b.digest
other_digest jobs a b are ha hb ne =
    let i : ℕ = ha.0 in
    let k : ℕ = hb.0 in
    let na : a.number ≡ i + 1 = ap (λ (j : Job). j.number) (sym ha.2) ∙ are.numbered i a ha.1 in
    let nb : b.number ≡ k + 1 = ap (λ (j : Job). j.number) (sym hb.2) ∙ are.numbered k b hb.1 in
    elim (dec_le i k) [
      | yes le ↦ (λ e. are.distinct i k a (omega arith) hb.1 (ap (λ (j : Job). j.digest) ha.2 ∙ e ∙ sym (ap (λ (j : Job). j.digest) hb.2) ∙ ap (λ (j : Job). j.digest) (any_default jobs k b a hb.1)))
      | no gt ↦ (λ e. are.distinct k i b (omega arith) ha.1 (ap (λ (j : Job). j.digest) hb.2 ∙ sym e ∙ sym (ap (λ (j : Job). j.digest) ha.2) ∙ ap (λ (j : Job). j.digest) (any_default jobs i a b ha.1)))
    ]

hit : (a b : ℕ) → a ≡ b → 0 < cond (a == b) 1 0
hit a b e = grind (arith, nat_tests)

zero_within : (m most x : ℕ) → x ≡ 0 → 0 ≡ cond (nat_le m most) x 0
zero_within m most x e = grind (arith, nat_tests)

pub ended-cons : (job : ℕ) (o : Outcome) (os : List Outcome) → ended job (o ∷ os) ≡ cond (o.job == job) 1 0 + ended job os
ended-cons job o os = sum_by-cons (λ (y : Outcome). cond (y.job == job) 1 0) o os

has_ended_at : (outcomes : List Outcome) (k : ℕ) (o : Outcome) → k < length outcomes → get_or outcomes k o ≡ o → 0 < ended o.job outcomes
has_ended_at [] k o h e = absurd (omega arith)
has_ended_at (x ∷ xs) zero o h e =
    let here = hit x.job o.job (ap (λ (y : Outcome). y.job) e) in
    omega (arith, ended-cons o.job x xs)
has_ended_at (x ∷ xs) (suc k) o h e = let r = has_ended_at xs k o (omega arith) e in omega (arith, ended-cons o.job x xs)

-- what stands in a list has ended
pub has_ended : (outcomes : List Outcome) (o : Outcome) → Contains outcomes o → 0 < ended o.job outcomes
has_ended outcomes o h = has_ended_at outcomes h.0 o h.1 h.2

pub ended_push : (job : ℕ) (outcomes : List Outcome) (o : Outcome) → ended job (outcomes ++ o ∷ []) ≡ ended job outcomes + cond (o.job == job) 1 0
ended_push job outcomes o = sum_by_push (λ (y : Outcome). cond (y.job == job) 1 0) outcomes o

times_push : (job : ℕ) (jobs : List ℕ) (last : ℕ) → times job (jobs ++ last ∷ []) ≡ times job jobs + cond (last == job) 1 0
times_push job jobs last = sum_by_push (λ x. cond (x == job) 1 0) jobs last

pub drew_this : (job : ℕ) (jobs drawn : List ℕ) → drawn ≡ jobs ++ job ∷ [] → 0 < times job drawn
drew_this job jobs drawn is = let h = hit job job refl in let e = ap (times job) is in omega (arith, times_push job jobs job)

drawn_more : (job n most before drawn : ℕ) → n ≤ most → before ≡ cond (nat_le job most) drawn 0 → before + cond (n == job) 1 0 ≡ cond (nat_le job most) (drawn + cond (n == job) 1 0) 0
drawn_more job n most before drawn le is = grind (arith, nat_tests)

at_most_drawn : (job most drawn now : ℕ) → now ≡ cond (nat_le job most) drawn 0 → now ≤ drawn
at_most_drawn job most drawn now is = grind (arith, nat_tests)

not_this : (n job before now : ℕ) → now ≡ before + cond (n == job) 1 0 → now ≡ 0 → (before ≡ 0) × (n ≢ job)
not_this n job before now is none = grind (arith, nat_tests)

module _ {L O : Type 0} (tells : Lore L O) where
  ends_kept : (job other : Job) (old new : L) (end : Result How Cause) → Keeps tells job old new → other.digest ≢ job.digest → EndsAs tells old other end → EndsAs tells new other end
  ends_kept job other old new (Ok how) keeps ne e = (keeps.stays other ne e.0, keeps.fails other ne ∙ e.1, keeps.asks other ne ∙ e.2)
  ends_kept job other old new (Err cause) keeps ne e = (keeps.fails other ne ∙ e.0, subst Failed (sym (keeps.asks other ne)) e.1)

  module _ (jobs : List Job) (job : Job) (n k : ℕ) (lane : L) (outcomes : List Outcome) (v : View) where
    -- a job that was not drawn before has not failed, and the lane was not asked for it
    pub is_fresh : AreJobs jobs → Works tells jobs lane outcomes v → n ≡ k + 1 → k < length jobs → job ≡ get_or jobs k job → ((earlier : ℕ) → 0 < times earlier v.drawn → earlier < n) → (tells.failed lane job ≡ None) × (tells.asked lane job ≡ [])
    is_fresh are works nk lk is greater =
        let jn : job.number ≡ k + 1 = ap (λ (j : Job). j.number) is ∙ are.numbered k job lk in
        let le = at_most_drawn job.number (length jobs) (times job.number v.drawn) (ended job.number outcomes) (works.drawn job.number) in
        works.quiet job (k, lk, sym is) (elim (eq-zero-or-pos (ended job.number outcomes)) [ inl z ↦ z | inr p ↦ absurd (let g = greater job.number (omega arith) in omega arith) ])

    pub works_more : (number : ℕ) (new : L) (u w : View) (after : List Outcome) → AreJobs jobs → Works tells jobs lane outcomes v → n ≡ k + 1 → k < length jobs → job ≡ get_or jobs k job
        → DrewOne n v u → ((earlier : ℕ) → 0 < times earlier v.drawn → earlier < n) → Ends tells job number lane new u w outcomes after → Works tells jobs new after w
    works_more number new u w after are works nk lk is drew greater ends =
        let jn : job.number ≡ k + 1 = ap (λ (j : Job). j.number) is ∙ are.numbered k job lk in
        let here : Contains jobs job = (k, lk, sym is) in
        let o : Outcome = ends.outcome in
        let oj : o.job ≡ n = ends.job_is ∙ jn ∙ sym nk in
        record {
          told = λ p j hp hj e. ⊎_elim
              (λ (old : Contains outcomes p).
              let some_ended = has_ended outcomes p old in
              let le = at_most_drawn p.job (length jobs) (times p.job v.drawn) (ended p.job outcomes) (works.drawn p.job) in
              let lt = greater p.job (omega arith) in
              ends_kept job j lane new p.end ends.kept (other_digest jobs j job are hj here (λ same. absurd (omega arith))) (works.told p j old hj e))
              (λ (same : o ≡ p).
              let js : j.number ≡ job.number = e ∙ ap (λ (y : Outcome). y.job) (sym same) ∙ ends.job_is in
              subst (λ (y : Outcome). EndsAs tells new j y.end) same
              (subst (λ (y : Job). EndsAs tells new y o.end) (sym (job_at jobs hj.0 k j job are hj.1 lk (sym hj.2) is js)) ends.told))
              (Contains-push_cases outcomes o p (subst (λ l. Contains l p) ends.added hp));
          quiet = λ j hj none.
              let t = not_this o.job j.number (ended j.number outcomes) (ended j.number after) (ap (ended j.number) ends.added ∙ ended_push j.number outcomes o) none in
              let ne : j.number ≢ job.number = (λ e. t.1 (ends.job_is ∙ sym e)) in
              let other = other_digest jobs j job are hj here ne in
              let q = works.quiet j hj t.0 in
              (ends.kept.fails j other ∙ q.0, ends.kept.asks j other ∙ q.1);
          drawn = λ m.
              ap (ended m) ends.added ∙ ended_push m outcomes o ∙ ap (λ x. ended m outcomes + cond (x == m) 1 0) oj
              ∙ drawn_more m n (length jobs) (ended m outcomes) (times m v.drawn) (omega arith) (works.drawn m)
              ∙ ap (λ x. cond (nat_le m (length jobs)) x 0) (sym (ap (times m) (ends.drawn ∙ drew.drawn) ∙ times_push m v.drawn n));
          fails = λ m some_failed. fails_more m some_failed;
        }
      where
        earlier : (m : ℕ) → 0 < times m v.failed → (p : Outcome) × Contains after p × IsErr p.end
        earlier m h = let f = works.fails m h in (f.0, subst (λ l. Contains l f.0) (sym ends.added) (Contains-append_left outcomes (ends.outcome ∷ []) f.0 f.1), f.2)

        fails_more : (m : ℕ) → 0 < times m w.failed → (p : Outcome) × Contains after p × IsErr p.end
        fails_more m h = elim ends.noted [
          | inl same ↦ earlier m (subst (λ l. 0 < times m l) (same.1 ∙ drew.failed) h)
          | inr err ↦ (ends.outcome, subst (λ l. Contains l ends.outcome) (sym ends.added) (Contains-push outcomes ends.outcome), err.0)
        ]

  pub works_none : (jobs : List Job) (lane : L) (v : View) → IsFresh v → IsUnused tells jobs lane → Works tells jobs lane [] v
  works_none jobs lane v fresh unused = record {
    told = λ o j ho. absurd (let l = ho.1 in omega arith);
    quiet = λ j hj none. (unused.calm j, All-contains (λ j. tells.asked lane j ≡ []) jobs j unused.unasked hj);
    drawn = λ m. zero_within m (length jobs) (times m v.drawn) (ap (times m) fresh.drawn);
    fails = λ m h. absurd (let e = ap (times m) fresh.failed in omega arith);
  }

  pub works_end : (jobs : List Job) (lane : L) (outcomes : List Outcome) (v w : View) → Works tells jobs lane outcomes v → DrewPast (length jobs) v w → Works tells jobs lane outcomes w
  works_end jobs lane outcomes v w works same = record {
    told = works.told;
    quiet = works.quiet;
    drawn = λ m. works.drawn m ∙ within m (length jobs) (times m v.drawn) (times m w.drawn) (same.drawn m);
    fails = λ m h. works.fails m (subst (λ l. 0 < times m l) same.failed h);
  }
    where
      within : (m most a b : ℕ) → (m ≤ most → b ≡ a) → cond (nat_le m most) a 0 ≡ cond (nat_le m most) b 0
      within m most a b h = grind (arith, nat_tests)
