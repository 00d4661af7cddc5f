-- What stays as it was through one job more.
use Rattle.std.proofs.Common.{◌≡◌, ◌≢◌, ◌⊎◌, ℕ, ◌+◌, ◌<◌, ◌≤◌, List, [], take, length, get_or, Contains, All, refl, sym, ap, ◌∙◌, subst, inl, inr, ⊎_elim, arith}
use Rattle.std.proofs.lemmas.List.{get_or-take, length-take}
use Rattle.std.proofs.lemmas.List.Elements.{All-contains}
use native.Mathlib.Decide.{dec_le, ℕ_discrete}
use mathlib.Core.Logic.{dite}
use Rattle.digest_reader.specs.declared.job.Job.{Job}
use Rattle.copy_workers.specs.Lanes.{Lore, Keeps}
use Rattle.copy_workers.specs.Kept.{KeepsAll}
use Rattle.copy_workers.specs.Jobs.{AreJobs}
use Rattle.copy_workers.proofs.Working.{any_default, job_at, other_digest}

-- where a job of some first jobs stands
from_take : (jobs : List Job) (n : ℕ) (j : Job) → Contains (take n jobs) j → (i : ℕ) × (i < n) × (i < length jobs) × (get_or jobs i j ≡ j)
from_take jobs n j h =
    let len = length-take n jobs in
    let at = h.1 in
    let lt : h.0 < n = omega arith in (
      h.0,
      lt,
      omega arith,
      sym (get_or-take n jobs h.0 j lt) ∙ any_default (take n jobs) h.0 j _ at ∙ h.2,
    )

to_take : (jobs : List Job) (n i : ℕ) (j : Job) → i < n → i < length jobs → get_or jobs i j ≡ j → Contains (take n jobs) j
to_take jobs n i j lt li e = (i, (let len = length-take n jobs in omega arith), any_default (take n jobs) i _ j (let len = length-take n jobs in omega arith) ∙ get_or-take n jobs i j lt ∙ e)

apart : (js : List Job) (j : Job) → ((i : Job) → Contains js i → j.digest ≢ i.digest) → All (λ i. j.digest ≢ i.digest) js
apart js j h k d lk = h (get_or js k d) (k, lk, any_default js k _ _ lk)

module _ {L O : Type 0} (tells : Lore L O) where
  pub keeps_none : (lane : L) → KeepsAll tells [] lane lane
  keeps_none lane = record {
    others = record { stays = λ o a s. s; fails = λ o a. refl; names = λ o a. refl; asks = λ o a. refl; target = refl; origin = refl };
    mounts = λ j h. refl;
  }

  -- one job more of these
  pub keeps_more : (js : List Job) (job : Job) (old mid new : L) → Contains js job → ((j : Job) → Contains js j → (j ≡ job) ⊎ (j.digest ≢ job.digest))
      → KeepsAll tells js old mid → tells.named new job ≡ tells.named mid job → Keeps tells job mid new → KeepsAll tells js old new
  keeps_more js job old mid new here split before names keeps = record {
    others = record {
      stays = λ o a. (let b = before.others.stays o a in let k = keeps.stays o (All-contains (λ j. o.digest ≢ j.digest) js job a here) in (λ s. k (b s)));
      fails = λ o a. keeps.fails o (All-contains (λ j. o.digest ≢ j.digest) js job a here) ∙ before.others.fails o a;
      names = λ o a. keeps.names o (All-contains (λ j. o.digest ≢ j.digest) js job a here) ∙ before.others.names o a;
      asks = λ o a. keeps.asks o (All-contains (λ j. o.digest ≢ j.digest) js job a here) ∙ before.others.asks o a;
      target = keeps.target ∙ before.others.target;
      origin = keeps.origin ∙ before.others.origin;
    };
    mounts = λ j h. ⊎_elim
        (λ (same : j ≡ job). subst (λ x. tells.named new x ≡ tells.named mid x) (sym same) names ∙ before.mounts j h)
        (λ (other : j.digest ≢ job.digest). keeps.names j other ∙ before.mounts j h) (split j h);
  }

  module _ (jobs : List Job) (are : AreJobs jobs) where
    -- what is kept of more jobs is kept of the first ones
    pub keeps_front : (n m : ℕ) (old new : L) → n ≤ m → KeepsAll tells (take n jobs) old new → KeepsAll tells (take m jobs) old new
    keeps_front n m old new le k = record {
      others = record {
        stays = λ o a. k.others.stays o (fewer o a);
        fails = λ o a. k.others.fails o (fewer o a);
        names = λ o a. k.others.names o (fewer o a);
        asks = λ o a. k.others.asks o (fewer o a);
        target = k.others.target;
        origin = k.others.origin;
      };
      mounts = λ j h. by_place j (from_take jobs m j h);
    }
      where
        fewer : (o : Job) → All (λ j. o.digest ≢ j.digest) (take m jobs) → All (λ j. o.digest ≢ j.digest) (take n jobs)
        fewer o a = apart (take n jobs) o (λ i h. let t = from_take jobs n i h in All-contains (λ j. o.digest ≢ j.digest) (take m jobs) i a (to_take jobs m t.0 i (let l = t.1 in omega arith) t.2 t.3))

        by_place : (j : Job) → (i : ℕ) × (i < m) × (i < length jobs) × (get_or jobs i j ≡ j) → tells.named new j ≡ tells.named old j
        by_place j t = elim (dec_le n t.0) [
          | no below ↦ k.mounts j (to_take jobs n t.0 j (omega arith) t.2 t.3)
          | yes past ↦ k.others.names j (apart (take n jobs) j (λ i h. let u = from_take jobs n i h in
              let ni = are.numbered u.0 i u.2 in
              let nj = are.numbered t.0 j t.2 in
              let si : i.number ≡ u.0 + 1 = ap (λ (x : Job). x.number) (sym u.3) ∙ ni in
              let sj : j.number ≡ t.0 + 1 = ap (λ (x : Job). x.number) (sym t.3) ∙ nj in
              let lt = u.1 in
              other_digest jobs j i are (t.0, t.2, t.3) (u.0, u.2, u.3) (λ e. absurd (omega arith))))
        ]

    split_by : (job : Job) (j : Job) → Contains jobs job → Contains jobs j → (j ≡ job) ⊎ (j.digest ≢ job.digest)
    split_by job j h hj = dite (ℕ_discrete j.number job.number)
        (λ e. inl (job_at jobs hj.0 h.0 j job are hj.1 h.1 (sym hj.2) (sym h.2) e))
        (λ ne. inr (other_digest jobs j job are hj h ne))

    pub keeps_job : (job : Job) (old mid new : L) → Contains jobs job → KeepsAll tells jobs old mid → tells.named new job ≡ tells.named mid job → Keeps tells job mid new → KeepsAll tells jobs old new
    keeps_job job old mid new here before names keeps = keeps_more jobs job old mid new here (λ j hj. split_by job j here hj) before names keeps

    pub keeps_next : (k : ℕ) (job : Job) (old mid new : L) → k < length jobs → job ≡ get_or jobs k job → KeepsAll tells (take k jobs) old mid → tells.named new job ≡ tells.named mid job → Keeps tells job mid new
        → KeepsAll tells (take (k + 1) jobs) old new
    keeps_next k job old mid new lk is before names keeps =
        keeps_more (take (k + 1) jobs) job old mid new (to_take jobs (k + 1) k job (omega arith) lk (sym is))
        (λ j h. let t = from_take jobs (k + 1) j h in split_by job j (k, lk, sym is) (t.0, t.2, t.3))
        (keeps_front k (k + 1) old mid (omega arith) before) names keeps
