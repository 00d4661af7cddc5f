-- Workers taken from the end.
use Rattle.std.proofs.Common.{◌≡◌, ℕ, ◌+◌, ◌<◌, ◌||◌, true, List, [], ◌∷◌, ◌++◌, map, reverse, length, get_or, All, vec_len, refl, sym, ap, ◌∙◌, subst, inl, inr, ⊎_elim, length-append, arith}
use Rattle.std.proofs.lemmas.List.Sums.{sum_by_push}
use Rattle.std.proofs.lemmas.List.{get_or_append_left, reverse-append, map-append}
use Rattle.std.proofs.Math.Seq.{get_or-append_seam}
use Rattle.location_cache.specs.declared.view.View.{View}
use Rattle.location_cache.specs.Rule.{none_failed, joined}
use Rattle.location_cache.specs.Seats.{TableId}
use Rattle.digest_reader.specs.declared.job.Job.{Job}
use Rattle.copy_workers.specs.Lanes.{Lore}
use Rattle.copy_workers.specs.declared.receipt.Outcome.{Outcome}
use Rattle.copy_workers.specs.declared.worker.Worker.{Worker}
use Rattle.copy_workers.specs.Works.{Stopped}
use Rattle.copy_workers.specs.Teams.{IsFinished, AreNumbered, rooms, outcomes_of, lanes_of}
use Rattle.copy_workers.specs.Gathered.{Gathered}
use Rattle.copy_workers.proofs.Gathering.{gather_more}

pub no_items : {A : Type 0} (xs : List A) → length xs ≡ 0 → xs ≡ []
no_items [] e = refl
no_items (x ∷ xs) e = absurd (omega arith)

pub joined_stopped : (v u : View) → Stopped v → Stopped (joined v u)
joined_stopped v u s = ⊎_elim (λ (d : v.done ≡ true). inl (ap (λ b. b || u.done) d)) (λ (l : v.seen < none_failed). inr (omega arith)) s

pub all_rest : {A : Type 0} (P : A → Type 0) (all xs : List A) (x : A) → all ≡ xs ++ x ∷ [] → All P all → All P xs
all_rest P all xs x e h k d lk = subst P (ap (λ l. get_or l k d) e ∙ get_or_append_left xs (x ∷ []) d k lk) (h k d (let l = ap length e in omega (arith, length-append xs (x ∷ []))))

pub all_last : {A : Type 0} (P : A → Type 0) (all xs : List A) (x : A) → all ≡ xs ++ x ∷ [] → All P all → P x
all_last P all xs x e h = subst P (ap (λ l. get_or l (length xs) x) e ∙ get_or-append_seam xs x [] x) (h (length xs) x (let l = ap length e in omega (arith, length-append xs (x ∷ []))))

module _ {L J : Type 0} (all ws : List (Worker L J)) (w : Worker L J) (e : all ≡ ws ++ w ∷ []) where
  pub rooms_last : rooms all ≡ rooms ws + w.seat.view.room
  rooms_last = ap rooms e ∙ sum_by_push (λ (x : Worker L J). x.seat.view.room) ws w

  pub outcomes_last : outcomes_of all ≡ outcomes_of ws + vec_len w.outcomes
  outcomes_last = ap outcomes_of e ∙ sum_by_push (λ (x : Worker L J). vec_len x.outcomes) ws w

  pub lanes_last : lanes_of all ≡ w.lane ∷ lanes_of ws
  lanes_last = ap lanes_of e ∙ ap reverse (map-append (λ (x : Worker L J). x.lane) ws (w ∷ [])) ∙ reverse-append (map (λ (x : Worker L J). x.lane) ws) (w.lane ∷ [])

  pub numbered_rest : (total : ℕ) → AreNumbered total all → AreNumbered total ws
  numbered_rest total h k d lk =
      let same = ap (λ l. get_or l k d) e ∙ get_or_append_left ws (w ∷ []) d k lk in
      subst (λ (x : Worker L J). x.number + k + 1 ≡ total) same (h k d (let l = ap length e in omega (arith, length-append ws (w ∷ []))))

  pub numbered_last : (total : ℕ) → AreNumbered total all → w.number + length ws + 1 ≡ total
  numbered_last total h =
      let same = ap (λ l. get_or l (length ws) w) e ∙ get_or-append_seam ws w [] w in
      subst (λ (x : Worker L J). x.number + length ws + 1 ≡ total) same (h (length ws) w (let l = ap length e in omega (arith, length-append ws (w ∷ []))))

module _ {L J O : Type 0} (tells : Lore L O) (jobs : List Job) (desk : TableId) (w : Worker L J) (finished : IsFinished tells desk jobs w) where
  pub one_gathered : (lanes after : List L) (all more : List Outcome) (v u : View) → Gathered tells jobs lanes all v → w.number ≡ length lanes → after ≡ lanes ++ w.lane ∷ [] → more ≡ all ++ w.outcomes.items → u.drawn ≡ v.drawn ++ w.seat.view.drawn
      → u.failed ≡ v.failed ++ w.seat.view.failed → Gathered tells jobs after more u
  one_gathered lanes after all more v u before number lane outcomes drawn fails =
      subst (λ l. Gathered tells jobs l more u) (sym lane) (subst (λ l. Gathered tells jobs (lanes ++ w.lane ∷ []) l u) (sym outcomes)
      (gather_more tells jobs lanes w.lane all w.outcomes.items v w.seat.view u before finished.works (λ k d lk. finished.lane k d lk ∙ number) drawn fails))
