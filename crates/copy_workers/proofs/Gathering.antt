-- The outcomes of one more lane.
use Rattle.std.proofs.Common.{◌≡◌, ◌⊎◌, ℕ, zero, suc, ◌+◌, ◌<◌, ◌==◌, nat_le, cond, Some, None, Result, Ok, Err, List, [], ◌∷◌, ◌++◌, length, Contains, All, IsErr, refl, sym, ap, ◌∙◌, subst, inl, inr, ⊎_elim, eq-zero-or-pos, arith}
use Rattle.std.specs.Prelude.{slice_get}
use Rattle.std.proofs.lemmas.List.Sums.{sum_by-append}
use Rattle.std.proofs.lemmas.List.Elements.{Contains-append_cases, Contains-append_left, Contains-append_right, Contains-push_cases}
use Rattle.std.proofs.lemmas.Bool.Decides.{nat_tests}
use Rattle.location_cache.specs.declared.view.View.{View}
use Rattle.location_cache.specs.Rule.{times}
use Rattle.digest_reader.specs.declared.job.Job.{Job}
use Rattle.copy_workers.specs.declared.cause.Cause.{Cause}
use Rattle.copy_workers.specs.declared.receipt.How.{How}
use Rattle.copy_workers.specs.declared.receipt.Outcome.{Outcome}
use Rattle.copy_workers.specs.Lanes.{Lore, EndsAs}
use Rattle.copy_workers.specs.Works.{ended, Works}
use Rattle.copy_workers.specs.Gathered.{Gathered}
use Rattle.copy_workers.proofs.Working.{ended-cons}

get_front : {A : Type 0} (xs ys : List A) (k : ℕ) (x : A) → slice_get xs k ≡ Some x → slice_get (xs ++ ys) k ≡ Some x
get_front [] ys k x e = absurd (cc)
get_front (y ∷ xs) ys zero x e = e
get_front (y ∷ xs) ys (suc k) x e = get_front xs ys k x e

get_last : {A : Type 0} (xs : List A) (x : A) → slice_get (xs ++ x ∷ []) (length xs) ≡ Some x
get_last [] x = refl
get_last (y ∷ xs) x = get_last xs x

get_cases : {A : Type 0} (xs : List A) (y : A) (k : ℕ) (x : A) → slice_get (xs ++ y ∷ []) k ≡ Some x → (slice_get xs k ≡ Some x) ⊎ ((k ≡ length xs) × (y ≡ x))
get_cases [] y zero x e = inr (refl, cc e)
get_cases [] y (suc k) x e = absurd (cc e)
get_cases (z ∷ xs) y zero x e = inl e
get_cases (z ∷ xs) y (suc k) x e = ⊎_elim (λ (h : slice_get xs k ≡ Some x). inl h) (λ (h : (k ≡ length xs) × (y ≡ x)). inr (ap suc h.0, h.1)) (get_cases xs y k x e)

one_is : (a b : ℕ) → 0 < cond (a == b) 1 0 → a ≡ b
one_is a b h = grind (arith, nat_tests)

later : {A : Type 0} (x y : A) (xs : List A) → Contains xs x → Contains (y ∷ xs) x
later x y xs h = (suc h.0, (let l = h.1 in omega arith), h.2)

-- what has ended stands in the list
pub find_ended : (job : ℕ) (os : List Outcome) → 0 < ended job os → (o : Outcome) × Contains os o × (o.job ≡ job)
find_ended job [] h = absurd (omega arith)
find_ended job (o ∷ os) h = elim (eq-zero-or-pos (ended job os)) [
  | inl z ↦ (o, (0, (omega arith), refl), one_is o.job job (let e = ended-cons job o os in omega arith))
  | inr p ↦ (let r = find_ended job os p in (r.0, later r.0 o os r.1, r.2))
]

within_both : (job most a b x y both : ℕ) → x ≡ cond (nat_le job most) a 0 → y ≡ cond (nat_le job most) b 0 → both ≡ a + b → x + y ≡ cond (nat_le job most) both 0
within_both job most a b x y both p q e = grind (arith, nat_tests)

times_append : (job : ℕ) (xs ys : List ℕ) → times job (xs ++ ys) ≡ times job xs + times job ys
times_append job xs ys = sum_by-append (λ x. cond (x == job) 1 0) xs ys

ended_append : (job : ℕ) (xs ys : List Outcome) → ended job (xs ++ ys) ≡ ended job xs + ended job ys
ended_append job xs ys = sum_by-append (λ (y : Outcome). cond (y.job == job) 1 0) xs ys

module _ {L O : Type 0} (tells : Lore L O) (jobs : List Job) where
  pub gathered_none : (v : View) → v.drawn ≡ [] → v.failed ≡ [] → Gathered tells jobs [] [] v
  gathered_none v drawn fails = record {
    told = λ o j ho. absurd (let l = ho.1 in omega arith);
    blame = λ l j hl. absurd (let h = hl.1 in omega arith);
    asked = λ m l j at. absurd (cc at);
    drawn = λ m. none m (length jobs) (times m v.drawn) (ap (times m) drawn);
    fails = λ m h. absurd (let e = ap (times m) fails in omega arith);
  }
    where
      none : (m most x : ℕ) → x ≡ 0 → 0 ≡ cond (nat_le m most) x 0
      none m most x e = grind (arith, nat_tests)

  module _ (lanes : List L) (lane : L) (all outcomes : List Outcome) (v u w : View) where
    pub gather_more : Gathered tells jobs lanes all v → Works tells jobs lane outcomes u → All (λ o. o.lane ≡ length lanes) outcomes → w.drawn ≡ v.drawn ++ u.drawn → w.failed ≡ v.failed ++ u.failed
        → Gathered tells jobs (lanes ++ lane ∷ []) (all ++ outcomes) w
    gather_more before works number drawn fails = record {
      told = λ o j ho hj e. ⊎_elim
          (λ (old : Contains all o). let t = before.told o j old hj e in (t.0, get_front lanes (lane ∷ []) o.lane t.0 t.1, t.2))
          (λ (new : Contains outcomes o).
          let at : o.lane ≡ length lanes = ap (λ (y : Outcome). y.lane) (sym new.2) ∙ number new.0 o new.1 in
          (lane, ap (slice_get (lanes ++ lane ∷ [])) at ∙ get_last lanes lane, works.told o j new hj e))
          (Contains-append_cases all outcomes o ho);
      blame = λ l j hl hj. ⊎_elim
          (λ (old : Contains lanes l). ⊎_elim
          (λ (none : tells.failed l j ≡ None). inl none)
          (λ (some_one : (o : Outcome) × Contains all o × (o.job ≡ j.number) × IsErr o.end). inr (some_one.0, Contains-append_left all outcomes some_one.0 some_one.1, some_one.2, some_one.3))
          (before.blame l j old hj))
          (λ (same : lane ≡ l). subst (λ (x : L). (tells.failed x j ≡ None) ⊎ ((o : Outcome) × Contains (all ++ outcomes) o × (o.job ≡ j.number) × IsErr o.end)) same (mine j hj))
          (Contains-push_cases lanes lane l hl);
      asked = λ m l j at hj. ⊎_elim
          (λ (old : slice_get lanes m ≡ Some l). ⊎_elim
          (λ (none : tells.asked l j ≡ []). inl none)
          (λ (some_one : (o : Outcome) × Contains all o × (o.job ≡ j.number) × (o.lane ≡ m)). inr (some_one.0, Contains-append_left all outcomes some_one.0 some_one.1, some_one.2, some_one.3))
          (before.asked m l j old hj))
          (λ (last : (m ≡ length lanes) × (lane ≡ l)). answered m l j last.0 last.1 hj)
          (get_cases lanes lane m l at);
      drawn = λ m. ended_append m all outcomes ∙ within_both m (length jobs) (times m v.drawn) (times m u.drawn) (ended m all) (ended m outcomes) (times m w.drawn) (before.drawn m) (works.drawn m) (ap (times m) drawn ∙ times_append m v.drawn u.drawn);
      fails = λ m h. elim (eq-zero-or-pos (times m v.failed)) [
        | inl z ↦ (let f = works.fails m (let e = ap (times m) fails ∙ times_append m v.failed u.failed in omega arith) in (f.0, Contains-append_right all outcomes f.0 f.1, f.2))
        | inr p ↦ (let f = before.fails m p in (f.0, Contains-append_left all outcomes f.0 f.1, f.2))
      ];
    }
      where
        by_end : (j : Job) (o : Outcome) (end : Result How Cause) → o.end ≡ end → Contains outcomes o → o.job ≡ j.number → EndsAs tells lane j end → (tells.failed lane j ≡ None) ⊎ ((o : Outcome) × Contains (all ++ outcomes) o × (o.job ≡ j.number) × IsErr o.end)
        by_end j o (Ok how) is here job tells = inl tells.1
        by_end j o (Err cause) is here job tells = inr (o, Contains-append_right all outcomes o here, job, subst IsErr (sym is) refl)

        answered : (m : ℕ) (l : L) (j : Job) → m ≡ length lanes → lane ≡ l → Contains jobs j → (tells.asked l j ≡ []) ⊎ ((o : Outcome) × Contains (all ++ outcomes) o × (o.job ≡ j.number) × (o.lane ≡ m))
        answered m l j last same hj = elim (eq-zero-or-pos (ended j.number outcomes)) [
          | inl z ↦ inl (ap (λ (x : L). tells.asked x j) (sym same) ∙ (works.quiet j hj z).1)
          | inr p ↦ (let f = find_ended j.number outcomes p in
              let at : f.0.lane ≡ length lanes = ap (λ (y : Outcome). y.lane) (sym f.1.2) ∙ number f.1.0 f.0 f.1.1 in
              inr (f.0, Contains-append_right all outcomes f.0 f.1, f.2, at ∙ sym last))
        ]

        mine : (j : Job) → Contains jobs j → (tells.failed lane j ≡ None) ⊎ ((o : Outcome) × Contains (all ++ outcomes) o × (o.job ≡ j.number) × IsErr o.end)
        mine j hj = elim (eq-zero-or-pos (ended j.number outcomes)) [
          | inl z ↦ inl (works.quiet j hj z).0
          | inr p ↦ (let f = find_ended j.number outcomes p in by_end j f.0 f.0.end refl f.1 f.2 (works.told f.0 j f.1 hj (sym f.2)))
        ]
