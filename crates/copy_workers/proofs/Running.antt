-- Workers that have worked.
use Rattle.std.proofs.Common.{◌≡◌, ℕ, suc, ◌-◌, ◌*◌, ◌<◌, ◌≤◌, List, [], ◌∷◌, map, length, get_or, All, vec_len, sum_by, refl, sym, ap, ◌∙◌, subst, suc-mul, mul-le-mul_right, le_trans, zero-le, arith}
use Rattle.std.proofs.lemmas.List.Sums.{sum_by-cons}
use Rattle.std.proofs.lemmas.List.{get_or-reverse, get_or-map, length-map, length-reverse}
use Rattle.location_cache.specs.Seats.{TableId}
use Rattle.digest_reader.specs.declared.job.Job.{Job}
use Rattle.copy_workers.specs.Lanes.{Lore}
use Rattle.copy_workers.specs.declared.worker.Worker.{Worker}
use Rattle.copy_workers.specs.Kept.{KeepsAll, EachKeeps}
use Rattle.copy_workers.proofs.Working.{pick}
use Rattle.copy_workers.specs.Teams.{EachWorked, IsFinished, AreNumbered, rooms, outcomes_of, lanes_of}

sum_same : {A : Type 0} (f : A → ℕ) (xs ys : List A) → length ys ≡ length xs → ((k : ℕ) (d : A) → k < length xs → f (get_or ys k d) ≡ f (get_or xs k d)) → sum_by f ys ≡ sum_by f xs
sum_same f [] [] e h = refl
sum_same f [] (y ∷ ys) e h = absurd (omega arith)
sum_same f (x ∷ xs) [] e h = absurd (omega arith)
sum_same f (x ∷ xs) (y ∷ ys) e h =
    let first : f y ≡ f x = h 0 x (omega arith) in
    let rest = sum_same f xs ys (omega arith) (λ k d lk. h (suc k) d (omega arith)) in
    omega (arith, sum_by-cons f x xs, sum_by-cons f y ys)

sum_most : {A : Type 0} (f : A → ℕ) (n : ℕ) (xs : List A) → All (λ x. f x ≤ n) xs → sum_by f xs ≤ length xs * n
sum_most f n [] h = zero-le
sum_most f n (x ∷ xs) h =
    let first : f x ≤ n = h 0 x (omega arith) in
    let rest = sum_most f n xs (λ k d lk. h (suc k) d (omega arith)) in
    omega (arith, sum_by-cons f x xs, suc-mul (length xs) n)

module _ {L J O : Type 0} (tells : Lore L O) (desk : TableId) (jobs : List Job) (old new : List (Worker L J)) (len : length new ≡ length old) (each : EachWorked tells desk jobs old new) where
  pub finished : All (IsFinished tells desk jobs) new
  finished k d lk = let w = each k d (omega arith) in record { own = w.own; works = w.works; stopped = w.stopped; lane = λ i o li. w.lane i o li ∙ sym w.number }

  pub numbered : (total : ℕ) → AreNumbered total old → AreNumbered total new
  numbered total h k d lk = let w = each k d (omega arith) in let n = w.number in let o = h k d (omega arith) in omega arith

  pub same_rooms : rooms new ≡ rooms old
  same_rooms = sum_same (λ (w : Worker L J). w.seat.view.room) old new len (λ k d lk. (each k d lk).room)

  pub few_outcomes : length new ≤ 16 → outcomes_of new ≤ 16 * length jobs
  few_outcomes most = let s = sum_most (λ (w : Worker L J). vec_len w.outcomes) (length jobs) new (λ k d lk. (each k d (omega arith)).few) in
      let m : length new * length jobs ≤ 16 * length jobs = mul-le-mul_right (length jobs) most in le_trans s m

  lane_at : (ws : List (Worker L J)) (k : ℕ) (l : L) (d : Worker L J) → k < length ws → get_or (lanes_of ws) k l ≡ (get_or ws (length ws - 1 - k) d).lane
  lane_at ws k l d lk =
      let m = length-map ws (λ (w : Worker L J). w.lane) in
      get_or-reverse (map (λ (w : Worker L J). w.lane) ws) k l (omega arith) ∙ ap (λ n. get_or (map (λ (w : Worker L J). w.lane) ws) (n - 1 - k) l) m
      ∙ get_or-map (λ (w : Worker L J). w.lane) ws (length ws - 1 - k) d l (omega arith)

  keeps_at : (k : ℕ) (l : L) → k < length old → (d : Worker L J) → KeepsAll tells jobs (get_or (lanes_of old) k l) (get_or (lanes_of new) k l)
  keeps_at k l lk d =
      let i : ℕ = length old - 1 - k in
      let w = each i d (omega arith) in
      subst (λ (x : L). KeepsAll tells jobs (get_or (lanes_of old) k l) x) (sym (lane_at new k l d (omega arith) ∙ ap (λ n. (get_or new (n - 1 - k) d).lane) len))
      (subst (λ (x : L). KeepsAll tells jobs x (get_or new i d).lane) (sym (lane_at old k l d lk)) w.kept)

  pub keeps_lanes : EachKeeps tells jobs (lanes_of old) (lanes_of new)
  keeps_lanes k l lk =
      let m = length-map old (λ (w : Worker L J). w.lane) in
      let r = length-reverse (map (λ (w : Worker L J). w.lane) old) in
      keeps_at k l (omega arith) (pick old k (omega arith)).0
