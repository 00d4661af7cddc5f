-- One more job on a lane that works alone.
use Rattle.std.proofs.Common.{take, map, IsOk, length-append, le_refl, true≢false, ◌≡◌, ◌⊎◌, ℕ, zero, suc, ◌+◌, ◌<◌, ◌≤◌, ◌==◌, cond, List, [], ◌∷◌, ◌++◌, length, get_or, set, IsErr, refl, sym, ap, ◌∙◌, subst, inl, inr, eq-zero-or-pos, add-one, arith}
use Rattle.std.proofs.lemmas.List.Sums.{sum_by_push}
use Rattle.std.proofs.lemmas.Bool.Decides.{nat_tests}
use Rattle.location_cache.specs.Rule.{times}
use Rattle.digest_reader.specs.declared.job.Job.{Job}
use Rattle.copy_workers.specs.declared.receipt.Outcome.{Outcome}
use Rattle.copy_workers.specs.Lanes.{Lore, Calm, EndsAs, Keeps}
use Rattle.copy_workers.specs.Jobs.{AreJobs}
use Rattle.copy_workers.specs.Works.{Works}
use Rattle.copy_workers.specs.Gathered.{InOrder}
use Rattle.copy_workers.specs.Plain.{up_to, alone_view, HasDone}
use Rattle.location_cache.specs.Rule.{spent}
use Rattle.copy_workers.proofs.Gathering.{gathered_none, gather_more}
use Rattle.copy_workers.proofs.Settling.{Ready}
use Rattle.copy_workers.proofs.Working.{is_fresh, works_more}
use Rattle.copy_workers.proofs.Keeping.{keeps_front}
use Rattle.copy_workers.proofs.Ordering.{at_place}
use Rattle.copy_workers.specs.Kept.{KeepsAll}
use Rattle.copy_workers.specs.Outcomes.{outcome_of, failure, IsFirstFault}
use Rattle.copy_workers.specs.declared.receipt.JobFault.{JobFault}
use Rattle.std.proofs.Math.Seq.{get_or-append_seam}
use Rattle.std.proofs.lemmas.List.{take_all}
use native.Mathlib.Decide.{dec_le}

up_to_more : (k : ℕ) → up_to (k + 1) ≡ up_to k ++ (k + 1) ∷ []
up_to_more k = subst (λ n. up_to n ≡ up_to k ++ n ∷ []) (sym (add-one k)) refl

first_or : (k job before all : ℕ) → all ≡ before + cond (suc k == job) 1 0 → 0 < all → before ≡ 0 → job < suc k + 1
first_or k job before all e h z = grind (arith, nat_tests)

below_next : (k job : ℕ) → 0 < times job (up_to k) → job < k + 1
below_next zero job h = absurd (omega arith)
below_next (suc k) job h = elim (eq-zero-or-pos (times job (up_to k))) [
  | inl z ↦ first_or k job (times job (up_to k)) (times job (up_to (suc k))) (sum_by_push (λ x. cond (x == job) 1 0) (up_to k) (suc k)) h z
  | inr p ↦ (let l = below_next k job p in omega arith)
]

pub order_push : (os : List Outcome) (k : ℕ) (o : Outcome) → InOrder k os → o.job ≡ k + length os + 1 → InOrder k (os ++ o ∷ [])
order_push [] k o up e = (omega arith, tt)
order_push (p ∷ os) k o up e = (up.0, order_push os (k + 1) o up.1 (omega arith))

module _ {L O : Type 0} (tells : Lore L O) (jobs : List Job) (job : Job) (k : ℕ) (lane new : L) (outcomes after : List Outcome) (o : Outcome) where
  pub plain_more : (fails : List ℕ) → AreJobs jobs → Works tells jobs lane outcomes (alone_view k []) → k < length jobs → job ≡ get_or jobs k job → o.job ≡ job.number → o.lane ≡ 0 → EndsAs tells new job o.end → tells.named new job ≡ tells.named lane job → Keeps tells job lane new
      → after ≡ outcomes ++ o ∷ [] → (Calm tells new × (fails ≡ [])) ⊎ (IsErr o.end × (fails ≡ job.number ∷ [])) → Works tells jobs new after (alone_view (k + 1) fails)
  plain_more fails are works lk is number number_lane told names kept added noted =
      works_more tells jobs job (k + 1) k lane outcomes (alone_view k []) 0 new (alone_view (k + 1) []) (alone_view (k + 1) fails) after are works refl lk is
      record { drawn = up_to_more k; failed = refl; room = refl } (λ earlier h. below_next k earlier h)
      record { outcome = o; job_is = number; lane_is = number_lane; added = added; told = told; names = names; kept = kept; drawn = refl; room = refl; noted = noted }

-- the next job of a lane that works alone was not asked for
pub next_unasked : {L O : Type 0} (tells : Lore L O) (jobs : List Job) (job : Job) (k : ℕ) (lane : L) (outcomes : List Outcome) → AreJobs jobs → Works tells jobs lane outcomes (alone_view k []) → k < length jobs → job ≡ get_or jobs k job → tells.asked lane job ≡ []
next_unasked tells jobs job k lane outcomes are works lk is = (is_fresh tells jobs job (k + 1) k lane outcomes (alone_view k []) are works refl lk is (λ earlier h. below_next k earlier h)).1

pub one_item : {A : Type 0} (xs : List A) (y : A) → length xs ≡ 1 → set xs 0 y ≡ y ∷ []
one_item [] y e = absurd (omega arith)
one_item (x ∷ []) y e = refl
one_item (x ∷ z ∷ xs) y e = absurd (omega arith)

pub ready_alone : {L O : Type 0} (tells : Lore L O) (jobs : List Job) (lane : L) (outcomes : List Outcome) → AreJobs jobs → (d : HasDone tells jobs lane outcomes) → Ready tells jobs (lane ∷ []) outcomes outcomes d.view
ready_alone tells jobs lane outcomes are d = record {
  are = are;
  gathered = gather_more tells jobs [] lane [] outcomes spent d.view d.view (gathered_none tells jobs spent refl refl) d.works d.number refl refl;
  ordered = d.ordered;
  few = d.few;
  from = λ o h. h;
  to = λ o h. h;
  ended = d.ended;
}

-- where a lane works alone, it has no outcome after the first that is a failure
pub last_is_fault : {L O : Type 0} (tells : Lore L O) (jobs : List Job) (lane : L) (outcomes : List Outcome) → HasDone tells jobs lane outcomes → (fault : JobFault) → IsFirstFault outcomes fault → length outcomes ≤ fault.job
last_is_fault tells jobs lane outcomes d fault f =
    let place : ℕ = length (map outcome_of f.before) in
    let o = failure fault.job f.lane fault.cause in
    let here : get_or outcomes place o ≡ o = ap (λ l. get_or l place o) f.is ∙ get_or-append_seam (map outcome_of f.before) o f.rest o in
    let len = ap length f.is in
    let lt : place < length outcomes = omega (arith, length-append (map outcome_of f.before) (o ∷ f.rest)) in
    let at : fault.job ≡ 0 + place + 1 = sym (ap (λ (y : Outcome). y.job) here) ∙ at_place outcomes 0 place o d.ordered lt in
    elim (dec_le (length outcomes) fault.job) [
      | yes le ↦ le
      | no gt ↦ absurd (let fine = subst (λ (y : Outcome). IsOk y.end) here (d.fine place o (omega arith)) in true≢false (sym fine))
    ]

-- what a lane that works alone keeps, of all jobs and of those that it was asked for
pub kept_alone : {L O : Type 0} (tells : Lore L O) (jobs : List Job) (old new : L) (outcomes : List Outcome) → AreJobs jobs → length outcomes ≤ length jobs → KeepsAll tells (take (length outcomes) jobs) old new → KeepsAll tells jobs old new
kept_alone tells jobs old new outcomes are few kept = subst (λ js. KeepsAll tells js old new) (take_all (length jobs) jobs (le_refl (length jobs))) (keeps_front tells jobs are (length outcomes) (length jobs) old new few kept)
