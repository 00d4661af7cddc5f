-- From receipts to "each job was done on some lane", over lanes that were lent and given back.
use Rattle.std.proofs.Common.{◌≡◌, ◌≢◌, ◌⊎◌, ◌∙◌, ◌<◌, ◌≤◌, ◌+◌, List, [], ◌∷◌, ◌++◌, ℕ, zero, suc, length, map, take, All, Contains, Bool, true, false, cond, ◌==◌, Option, Some, None, Result, Ok, Err, IfOk, OnOk, get_or, slice_get, inl, inr, refl, sym, ap, subst, length-append, arith}
use Rattle.std.specs.Str.{bytes_eq}
use Rattle.std.proofs.lemmas.Slice.Eq.{bytes_eq-Decides}
use native.Mathlib.Decide.{dec_le, ℕ_discrete}
use mathlib.Core.Logic.{dite}
use Rattle.std.proofs.lemmas.Option.{get_or_from_slice_get, slice_get-get_or, slice_get_within}
use Rattle.skopeo_outside.specs.LaneTold.{LaneTold}
use Rattle.skopeo_outside.specs.Seen.{OnEach, OnSome, KeepsFrom}
use Rattle.digest_reader.specs.declared.job.Job.{Job}
use Rattle.copy_workers.specs.declared.receipt.JobFault.{JobFault}
use Rattle.copy_workers.specs.declared.receipt.How.TheVariants as how
use Rattle.copy_workers.specs.declared.cause.Cause.{Cause}
use Rattle.copy_workers.specs.declared.cause.Cause.TheVariants as why
use Rattle.copy_workers.specs.Receipts.{Issued}
use Rattle.copy_workers.specs.Jobs.{AreJobs}
use Rattle.copy_workers.specs.Asked.{answers_to}
use Rattle.copy_workers.specs.Kept.{KeepsAll}
use Rattle.copy_workers.specs.Secured.{AreLanes, IsLeastFault, IsJobFault}
use Rattle.copy_workers.specs.Secured as workers
use Rattle.copy_workers.specs.Lanes.{EndsAs}
use Rattle.copy_workers.specs.declared.receipt.How.{How}
use Rattle.transports.specs.declared.source.Source.{Source}
use Rattle.transports.specs.declared.dest.Dest.{Dest}
use Rattle.transports.specs.declared.refusal.Refusal.{Refusal}
use Rattle.transports.specs.declared.refusal.Refusal.TheVariants as refusal
use Rattle.transports.specs.Refusals.{by_cause}
use Rattle.transports.specs.StepEnds.{IsDone, FailsBy}
use Rattle.transports.specs.Fair.{Works, AllWork}
use Rattle.transports.specs.Named.{AddsOnly, BringsOnly, IsOfJobs}
use Rattle.transports.proofs.SameLemmas.{works_same}
use Rattle.transports.proofs.WorkLemmas.{adds_same, adds_wider}
use Rattle.transports.proofs.BringLemmas.{brings_same, brings_wider}
use Rattle.copy_jobs.specs.Lane.{LaneState, IsSound, IsFresh, fault_of, WasAsked, lane_lore}
use Rattle.copy_jobs.specs.Lent.{AreFresh, AreLent, HasRun}
use Rattle.copy_jobs.specs.Secured.{AreDone, WasDrawn, WereDrawn, IsLeast, JobsEnd, AreReceipts}
use Rattle.copy_jobs.proofs.StateLemmas.{fault_kept, this_fault}
use Rattle.copy_jobs.proofs.LentLemmas.{fresh_count, at_front, at_map}

no_receipt : Issued
no_receipt = record { job = 0; lane = 0; how = how.Carried }

some_same : {A : Type 0} (t u : A) → Some t ≡ Some u → t ≡ u
some_same t u e = cc

-- the lane of which a lent one was made
fresh_at : (source : Source) (dest : Dest) (ls : List LaneTold) (ss : List LaneState) (k : ℕ) (s : LaneState) → AreFresh source dest ls ss → slice_get ss k ≡ Some s → (a : LaneTold) × (slice_get ls k ≡ Some a) × IsFresh source dest a s
fresh_at source dest [] [] k s fresh e = let no : None ≡ Some s = e in cc
fresh_at source dest [] (t ∷ ss) k s fresh e = absurd fresh
fresh_at source dest (b ∷ ls) [] k s fresh e = absurd fresh
fresh_at source dest (b ∷ ls) (t ∷ ss) zero s fresh e = (b, refl, subst (IsFresh source dest b) (some_same t s e) fresh.0)
fresh_at source dest (b ∷ ls) (t ∷ ss) (suc k) s fresh e = fresh_at source dest ls ss k s fresh.1 e

-- lanes as they were made are calm and unasked
pub fresh_lanes : (source : Source) (dest : Dest) (jobs : List Job) (count : ℕ) (old rest : List LaneTold) (list : List LaneState) → AreLent source dest count old rest list → AreLanes lane_lore jobs list
fresh_lanes source dest jobs count old rest list so = record {
  calm = λ k l lt. calm k (get_or list k l) (made k l lt);
  unnamed = λ k l lt j d le. refl;
  unasked = λ k l lt j d le. unasked k (get_or list k l) (get_or jobs j d) (made k l lt);
  target = λ k m l lt less. refl;
}
  where
    made : (k : ℕ) (l : LaneState) → k < length list → (a : LaneTold) × (slice_get so.first k ≡ Some a) × IsFresh source dest a (get_or list k l)
    made k l lt = fresh_at source dest so.first list k (get_or list k l) so.fresh (slice_get-get_or list k l lt)

    calm : (k : ℕ) (s : LaneState) → ((a : LaneTold) × (slice_get so.first k ≡ Some a) × IsFresh source dest a s) → (job : Job) → fault_of s.failure job ≡ None
    calm k s m job = ap (λ (l : LaneState). fault_of l.failure job) m.2.is

    unasked : (k : ℕ) (s : LaneState) (j : Job) → ((a : LaneTold) × (slice_get so.first k ≡ Some a) × IsFresh source dest a s) → lane_lore.asked s j ≡ []
    unasked k s j m = m.2.unasked.none j.digest

-- a digest is that of one of the jobs, or of none
digest_among : (digest : List ℕ) (jobs : List Job) → IsOfJobs jobs digest ⊎ All (λ j. digest ≢ j.digest) jobs
digest_among digest [] = inr (λ k d lt. absurd (omega arith))
digest_among digest (job ∷ jobs) = by (bytes_eq job.digest digest) refl (digest_among digest jobs)
  where
    later : IsOfJobs jobs digest → IsOfJobs (job ∷ jobs) digest
    later i = (suc i.0, i.1, i.2, i.3)

    by : (b : Bool) → bytes_eq job.digest digest ≡ b → IsOfJobs jobs digest ⊎ All (λ j. digest ≢ j.digest) jobs → IsOfJobs (job ∷ jobs) digest ⊎ All (λ j. digest ≢ j.digest) (job ∷ jobs)
    by true e rest = inl (0, job, refl, (bytes_eq-Decides job.digest digest).0 e)
    by false e (inl i) = inl (later i)
    by false e (inr none) = inr all
      where
        all : All (λ j. digest ≢ j.digest) (job ∷ jobs)
        all zero d lt is = let no : true ≡ false = sym ((bytes_eq-Decides job.digest digest).1 (sym is)) ∙ e in cc
        all (suc k) d lt is = none k d (omega arith) is

-- one lane at its place, before and after
record IsOne (source : Source) (dest : Dest) (old new : List LaneTold) (k : ℕ) (on : LaneState) : Type 0 where
  pub before : LaneTold
  pub was : slice_get old k ≡ Some before
  pub now : slice_get new k ≡ Some on.lane
  pub origin : on.origin ≡ before
  pub source_is : on.source ≡ source
  pub dest_is : on.dest ≡ dest

length_map : (ss : List LaneState) → length (map (λ (s : LaneState). s.lane) ss) ≡ length ss
length_map [] = refl
length_map (s ∷ ss) = ap suc (length_map ss)

-- what stands behind as many others
behind : {A : Type 0} (xs ys zs : List A) (k : ℕ) → length xs ≡ length ys → length xs ≤ k → slice_get (xs ++ zs) k ≡ slice_get (ys ++ zs) k
behind [] [] zs k same le = refl
behind [] (y ∷ ys) zs k same le = absurd (omega (arith, same))
behind (x ∷ xs) [] zs k same le = absurd (omega (arith, same))
behind (x ∷ xs) (y ∷ ys) zs zero same le = absurd (omega (arith, le))
behind (x ∷ xs) (y ∷ ys) zs (suc k) same le = behind xs ys zs k (omega (arith, same)) (omega (arith, le))

-- a place among some lanes, or behind them
at_either : {A : Type 0} (xs ys : List A) (k : ℕ) (a : A) → slice_get (xs ++ ys) k ≡ Some a → (slice_get xs k ≡ Some a) ⊎ (length xs ≤ k)
at_either [] ys k a e = inr (omega arith)
at_either (x ∷ xs) ys zero a e = inl e
at_either (x ∷ xs) ys (suc k) a e = by (at_either xs ys k a e)
  where
    by : (slice_get xs k ≡ Some a) ⊎ (length xs ≤ k) → (slice_get xs k ≡ Some a) ⊎ (length (x ∷ xs) ≤ suc k)
    by (inl here) = inl here
    by (inr le) = inr (omega arith)

of_map : (ss : List LaneState) (k : ℕ) (b : LaneTold) → slice_get (map (λ (s : LaneState). s.lane) ss) k ≡ Some b → (s : LaneState) × (slice_get ss k ≡ Some s) × (s.lane ≡ b)
of_map [] k b e = let no : None ≡ Some b = e in cc
of_map (s ∷ ss) zero b e = (s, refl, some_same s.lane b e)
of_map (s ∷ ss) (suc k) b e = of_map ss k b e

map_fresh : (source : Source) (dest : Dest) (ls : List LaneTold) (ss : List LaneState) → AreFresh source dest ls ss → map (λ (s : LaneState). s.lane) ss ≡ ls
map_fresh source dest [] [] fresh = refl
map_fresh source dest [] (t ∷ ss) fresh = absurd fresh
map_fresh source dest (b ∷ ls) [] fresh = absurd fresh
map_fresh source dest (b ∷ ls) (t ∷ ss) fresh = ap (λ x. x ∷ map (λ (s : LaneState). s.lane) ss) (ap (λ (l : LaneState). l.lane) fresh.0.is) ∙ ap (λ x. b ∷ x) (map_fresh source dest ls ss fresh.1)

module _ (source : Source) (dest : Dest) (jobs : List Job) (count : ℕ) (old new : List LaneTold) (outcome : Result (List Issued) JobFault) (r : HasRun source dest jobs count old new outcome) where
  -- the lane of which one was made that was lent, and what it kept since
  made_at : (k : ℕ) (on : LaneState) → slice_get r.ends k ≡ Some on → (a : LaneTold) × (slice_get r.lent.first k ≡ Some a) × IsFresh source dest a (get_or r.starts k on)
  made_at k on e =
      let lt = slice_get_within r.ends k on e in
      let n = r.same in
      fresh_at source dest r.lent.first r.starts k (get_or r.starts k on) r.lent.fresh (slice_get-get_or r.starts k on (omega arith))

  kept_at : (k : ℕ) (on : LaneState) → slice_get r.ends k ≡ Some on → KeepsAll lane_lore jobs (get_or r.starts k on) on
  kept_at k on e =
      let lt = slice_get_within r.ends k on e in
      let n = r.same in
      subst (KeepsAll lane_lore jobs (get_or r.starts k on)) (get_or_from_slice_get r.ends k on on e) (r.kept k on (omega arith))

  one_at : (k : ℕ) (on : LaneState) → slice_get r.ends k ≡ Some on → IsOne source dest old new k on
  one_at k on e =
      let made = made_at k on e in
      let was : (lane_lore).origin (get_or r.starts k on) ≡ (made.0, source, dest) = ap (λ (l : LaneState). (l.origin, l.source, l.dest)) made.2.is in
      let same = (kept_at k on e).others.origin ∙ was in
      record {
        before = made.0;
        was = subst (λ l. slice_get l k ≡ Some made.0) (sym r.lent.was) (at_front r.lent.first r.rest k made.0 made.1);
        now = subst (λ l. slice_get l k ≡ Some on.lane) (sym r.back) (at_front (map (λ (s : LaneState). s.lane) r.ends) r.rest k on.lane (at_map (λ (s : LaneState). s.lane) r.ends k on e));
        origin = ap (λ p. p.0) same;
        source_is = ap (λ p. p.1) same;
        dest_is = ap (λ p. p.2) same;
      }

  sound_at : (k : ℕ) (on : LaneState) → slice_get r.ends k ≡ Some on → IsSound on
  sound_at k on e = subst IsSound (get_or_from_slice_get r.ends k on on e) (r.sound k on (slice_get_within r.ends k on e))

  done_at : (k : ℕ) (on : LaneState) (j : Job) → slice_get r.ends k ≡ Some on → IsDone on.source on.dest j on.origin on.lane → OnSome (λ place a b. IsDone source dest j a b) old new
  done_at k on j e done =
      let o = one_at k on e in
      record {
        place = k;
        before = o.before;
        after = on.lane;
        was = o.was;
        now = o.now;
        holds = subst (λ s. IsDone s dest j o.before on.lane) o.source_is (subst (λ d. IsDone on.source d j o.before on.lane) o.dest_is (subst (λ b. IsDone on.source on.dest j b on.lane) o.origin done));
      }

  -- a lane among all has a place
  placed : (on : LaneState) → Contains r.ends on → (k : ℕ) × (slice_get r.ends k ≡ Some on)
  placed on c = (c.0, slice_get-get_or r.ends c.0 on c.1 ∙ ap Some c.2)

  -- as many lanes come back as were lent
  back_count : length (map (λ (s : LaneState). s.lane) r.ends) ≡ length r.lent.first
  back_count = length_map r.ends ∙ r.same ∙ sym (fresh_count source dest r.lent.first r.starts r.lent.fresh)

  pub run_rest : KeepsFrom count old new
  run_rest = record {
    same = ap length r.back ∙ length-append (map (λ (s : LaneState). s.lane) r.ends) r.rest ∙ ap (λ n. n + length r.rest) back_count ∙ sym (length-append r.lent.first r.rest) ∙ sym (ap length r.lent.was);
    rest = λ place le. (let n = back_count in let m = r.lent.count_is in
        ap (λ l. slice_get l place) r.back ∙ behind (map (λ (s : LaneState). s.lane) r.ends) r.lent.first r.rest place n (omega arith) ∙ sym (ap (λ l. slice_get l place) r.lent.was));
  }

  -- what holds of each lent lane, and of one that is as it was, holds of all
  each_lane : (R : ℕ → LaneTold → LaneTold → Type 0) → ((k : ℕ) (on : LaneState) → slice_get r.ends k ≡ Some on → (o : IsOne source dest old new k on) → R k o.before on.lane) → ((k : ℕ) (a : LaneTold) → R k a a) → OnEach R old new
  each_lane R lent same = record { count = run_rest.same; each = λ k a b ea eb. by k a b ea eb (at_either (map (λ (s : LaneState). s.lane) r.ends) r.rest k b (subst (λ l. slice_get l k ≡ Some b) r.back eb)) }
    where
      by : (k : ℕ) (a b : LaneTold) → slice_get old k ≡ Some a → slice_get new k ≡ Some b → (slice_get (map (λ (s : LaneState). s.lane) r.ends) k ≡ Some b) ⊎ (length (map (λ (s : LaneState). s.lane) r.ends) ≤ k) → R k a b
      by k a b ea eb (inl here) =
          let m = of_map r.ends k b here in
          let o = one_at k m.0 m.1 in
          let was : o.before ≡ a = some_same o.before a (sym o.was ∙ ea) in
          subst (λ x. R k x b) was (subst (λ x. R k o.before x) m.2 (lent k m.0 m.1 o))
      by k a b ea eb (inr le) =
          let n = back_count in
          let m = r.lent.count_is in
          let is : a ≡ b = some_same a b (sym ea ∙ sym (run_rest.rest k (omega arith)) ∙ eb) in
          subst (R k a) is (same k a)

  pub run_works : AllWork dest old new
  unfolding AllWork
  run_works = each_lane (λ place a b. Works dest a b)
      (λ k on e o. subst (λ x. Works dest x on.lane) o.origin (subst (λ d. Works d on.origin on.lane) o.dest_is (sound_at k on e).works))
      (λ k a. works_same dest a)

  -- of jobs of other digests a lane tells at the end what it told when it was made: nothing
  other_calm : (k : ℕ) (on : LaneState) → slice_get r.ends k ≡ Some on → (j : Job) → All (λ i. j.digest ≢ i.digest) jobs → fault_of on.failure j ≡ None
  other_calm k on e j none = (kept_at k on e).others.fails j none ∙ ap (λ (l : LaneState). fault_of l.failure j) (made_at k on e).2.is

  other_unasked : (k : ℕ) (on : LaneState) → slice_get r.ends k ≡ Some on → (j : Job) → All (λ i. j.digest ≢ i.digest) jobs → answers_to on.asked j.digest ≡ []
  other_unasked k on e j none = (kept_at k on e).others.asks j none ∙ (made_at k on e).2.unasked.none j.digest

  -- a lane was asked for none but the jobs
  asked_of : (k : ℕ) (on : LaneState) → slice_get r.ends k ≡ Some on → (d : List ℕ) → WasAsked on.asked d → IsOfJobs jobs d
  asked_of k on e d was = by (digest_among d jobs)
    where
      by : IsOfJobs jobs d ⊎ All (λ j. d ≢ j.digest) jobs → IsOfJobs jobs d
      by (inl i) = i
      by (inr none) = absurd (was (other_unasked k on e (record { number = 0; digest = d; size = 0 }) none))

-- a lane that tells no failure of a job, and none of any other, has none
no_failure : (jobs : List Job) (f : Option (Job × Cause)) → All (λ j. fault_of f j ≡ None) jobs → ((j : Job) → All (λ i. j.digest ≢ i.digest) jobs → fault_of f j ≡ None) → f ≡ None
no_failure jobs None quiet others = refl
no_failure jobs (Some f) quiet others = by (digest_among f.0.digest jobs)
  where
    said : (j : Job) → f.0.digest ≡ j.digest → fault_of (Some f) j ≢ None
    said j is none = of (bytes_eq f.0.digest j.digest) refl
      where
        of : (b : Bool) → bytes_eq f.0.digest j.digest ≡ b → ⊥
        of true e = let no : Some (cond (f.0.size == j.size) f.1 why.Memory) ≡ None = sym (ap (λ b. cond b (Some (cond (f.0.size == j.size) f.1 why.Memory)) None) e) ∙ none in cc
        of false e = let no : true ≡ false = sym ((bytes_eq-Decides f.0.digest j.digest).1 is) ∙ e in cc

    by : IsOfJobs jobs f.0.digest ⊎ All (λ j. f.0.digest ≢ j.digest) jobs → Some f ≡ None
    by (inl i) =
        let lt = slice_get_within jobs i.0 i.1 i.2 in
        let is : get_or jobs i.0 i.1 ≡ i.1 = get_or_from_slice_get jobs i.0 i.1 i.1 i.2 in
        absurd (said i.1 (sym i.3) (ap (λ (j : Job). fault_of (Some f) j) (sym is) ∙ quiet i.0 i.1 lt))
    by (inr none) = let no : Some f.1 ≡ None = sym (this_fault f.0 f.1) ∙ others f.0 none in cc

run_done : (source : Source) (dest : Dest) (jobs : List Job) (count : ℕ) (old new : List LaneTold) (receipts : List Issued) → HasRun source dest jobs count old new (Ok receipts) → AreDone source dest jobs (length jobs) old new
run_done source dest jobs count old new receipts r k j lower at =
    let lt = slice_get_within jobs k j at in
    let by = r.secured.each k no_receipt j lt in
    let is : get_or jobs k j ≡ j = get_or_from_slice_get jobs k j j at in
    subst (λ x. OnSome (λ place a b. IsDone source dest x a b) old new) is (done_at source dest jobs count old new (Ok receipts) r (get_or receipts k no_receipt).lane by.on (get_or jobs k j) by.lane by.told)

run_adds : (source : Source) (dest : Dest) (jobs : List Job) (count : ℕ) (old new : List LaneTold) (receipts : List Issued) → HasRun source dest jobs count old new (Ok receipts) → OnEach (λ place a b. AddsOnly dest (IsOfJobs jobs) a b) old new
run_adds source dest jobs count old new receipts r =
    each_lane source dest jobs count old new (Ok receipts) r (λ place a b. AddsOnly dest (IsOfJobs jobs) a b)
    (λ k on e o. subst (λ x. AddsOnly dest (IsOfJobs jobs) x on.lane) o.origin (subst (λ d. AddsOnly d (IsOfJobs jobs) on.origin on.lane) o.dest_is
    (adds_wider on.dest (WasAsked on.asked) (IsOfJobs jobs) (asked_of source dest jobs count old new (Ok receipts) r k on e) on.origin on.lane
    ((sound_at source dest jobs count old new (Ok receipts) r k on e).adds (no_failure jobs on.failure (quiet k on e) (other_calm source dest jobs count old new (Ok receipts) r k on e))))))
    (λ k a. adds_same dest (IsOfJobs jobs) a)
  where
    quiet : (k : ℕ) (on : LaneState) → slice_get r.ends k ≡ Some on → All (λ j. fault_of on.failure j ≡ None) jobs
    quiet k on e = subst (λ (l : LaneState). All (λ j. fault_of l.failure j ≡ None) jobs) (get_or_from_slice_get r.ends k on on e) (r.secured.quiet k on (slice_get_within r.ends k on e))

-- a job among the first ones
among_first : (jobs : List Job) (count k : ℕ) (job : Job) → k < count → slice_get jobs k ≡ Some job → slice_get (take count jobs) k ≡ Some job
among_first [] count k job lt at = let no : None ≡ Some job = at in cc
among_first (j ∷ jobs) zero k job lt at = absurd (omega (arith, lt))
among_first (j ∷ jobs) (suc count) zero job lt at = at
among_first (j ∷ jobs) (suc count) (suc k) job lt at = among_first jobs count k job (omega (arith, lt)) at

module _ (source : Source) (dest : Dest) (jobs : List Job) (count : ℕ) (old new : List LaneTold) (outcome : Result (List Issued) JobFault) (r : HasRun source dest jobs count old new outcome) where
  -- what a lane brought, where it was asked for none but such digests
  lane_brings : (P : List ℕ → Type 0) (k : ℕ) (on : LaneState) → slice_get r.ends k ≡ Some on → (o : IsOne source dest old new k on) → ((d : List ℕ) → WasAsked on.asked d → P d) → BringsOnly dest P o.before on.lane
  lane_brings P k on e o f =
      subst (λ x. BringsOnly dest P x on.lane) o.origin (subst (λ d. BringsOnly d P on.origin on.lane) o.dest_is
      (brings_wider on.dest (WasAsked on.asked) P f on.origin on.lane (sound_at source dest jobs count old new outcome r k on e).brings))

  -- how a job ended on its lane
  drawn_end : (k : ℕ) (on : LaneState) (j : Job) (end : Result How Cause) → slice_get r.ends k ≡ Some on → EndsAs lane_lore on j end → (o : IsOne source dest old new k on)
      → IsDone source dest j o.before on.lane ⊎ ((cause : Cause) × FailsBy source j cause o.before on.lane)
  drawn_end k on j (Ok how) e told o = inl (subst (λ s. IsDone s dest j o.before on.lane) o.source_is (subst (λ d. IsDone on.source d j o.before on.lane) o.dest_is (subst (λ b. IsDone on.source on.dest j b on.lane) o.origin told.0)))
  drawn_end k on j (Err cause) e told o = inr (cause, subst (λ s. FailsBy s j cause o.before on.lane) o.source_is (subst (λ b. FailsBy on.source j cause b on.lane) o.origin (fault_kept on j cause (sound_at source dest jobs count old new outcome r k on e) told.0)))

  was_drawn : (j : Job) → workers.WasDrawn lane_lore jobs r.ends j → WasDrawn source dest j old new
  was_drawn j w =
      let o = one_at source dest jobs count old new outcome r w.place w.on w.lane in
      record {
        place = w.place;
        before = o.before;
        after = w.on.lane;
        was = o.was;
        now = o.now;
        ends = drawn_end w.place w.on j w.outcome w.lane w.told o;
        once = each_lane source dest jobs count old new outcome r (λ m a b. (m ≡ w.place) ⊎ BringsOnly dest (λ d. d ≢ j.digest) a b) other (λ m a. inr (brings_same dest (λ d. d ≢ j.digest) a));
      }
    where
      other : (m : ℕ) (on : LaneState) → slice_get r.ends m ≡ Some on → (o : IsOne source dest old new m on) → (m ≡ w.place) ⊎ BringsOnly dest (λ d. d ≢ j.digest) o.before on.lane
      other m on e o = dite (ℕ_discrete m w.place)
          (λ is. inl is)
          (λ apart. inr (lane_brings (λ d. d ≢ j.digest) m on e o (λ d was is. was (subst (λ x. answers_to on.asked x ≡ []) (sym is) (w.alone m on e apart)))))

  were_drawn : (drawn : ℕ) → workers.WereDrawn lane_lore jobs r.ends drawn → WereDrawn source dest jobs drawn old new
  were_drawn drawn w = record {
    each = λ k j lt at. was_drawn j (w.finished k j lt at);
    others = each_lane source dest jobs count old new outcome r (λ place a b. BringsOnly dest (IsOfJobs (take drawn jobs)) a b) (λ k on e o. lane_brings (IsOfJobs (take drawn jobs)) k on e o (first k on e)) (λ k a. brings_same dest (IsOfJobs (take drawn jobs)) a);
  }
    where
      first : (k : ℕ) (on : LaneState) → slice_get r.ends k ≡ Some on → (d : List ℕ) → WasAsked on.asked d → IsOfJobs (take drawn jobs) d
      first k on e d was = by (asked_of source dest jobs count old new outcome r k on e d was)
        where
          by : IsOfJobs jobs d → IsOfJobs (take drawn jobs) d
          by i = elim (dec_le drawn i.0) [
            | yes past ↦ absurd (was (subst (λ x. answers_to on.asked x ≡ []) i.3 (subst (λ (l : LaneState). answers_to l.asked i.1.digest ≡ []) (get_or_from_slice_get r.ends k on on e) (w.none i.0 i.1 past i.2 k on (slice_get_within r.ends k on e)))))
            | no below ↦ (i.0, i.1, among_first jobs drawn i.0 i.1 (omega arith) i.2, i.3)
          ]

run_least : (source : Source) (dest : Dest) (jobs : List Job) (count : ℕ) (old new : List LaneTold) (fault : JobFault) → AreJobs jobs → HasRun source dest jobs count old new (Err fault) → IsLeast source dest jobs old new (by_cause fault.job fault.cause) ⊎ ((by_cause fault.job fault.cause ≡ refusal.Memory) × (new ≡ old))
run_least source dest jobs count old new fault are r = by r.fault
  where
    least : IsLeastFault lane_lore jobs r.ends fault → IsLeast source dest jobs old new (by_cause fault.job fault.cause)
    least f =
        let at = placed source dest jobs count old new (Err fault) r f.on f.lane in
        let o = one_at source dest jobs count old new (Err fault) r at.0 f.on at.1 in
        let lt = slice_get_within jobs f.place f.job f.at in
        let is : get_or jobs f.place f.job ≡ f.job = get_or_from_slice_get jobs f.place f.job f.job f.at in
        let n : (get_or jobs f.place f.job).number ≡ f.place + 1 = are.numbered f.place f.job lt in
        let sound = sound_at source dest jobs count old new (Err fault) r at.0 f.on at.1 in
        record {
          place = f.place;
          job = f.job;
          at = f.at;
          cause = fault.cause;
          is = ap (λ k. by_cause k fault.cause) (f.is ∙ sym n ∙ ap (λ (j : Job). j.number) is);
          failed = record {
            place = at.0;
            before = o.before;
            after = f.on.lane;
            was = o.was;
            now = o.now;
            holds = subst (λ s. FailsBy s f.job fault.cause o.before f.on.lane) o.source_is (subst (λ b. FailsBy f.on.source f.job fault.cause b f.on.lane) o.origin (fault_kept f.on f.job fault.cause sound f.cause));
          };
          drawn = f.drawn;
          among = f.among;
          first = were_drawn source dest jobs count old new (Err fault) r f.drawn f.first;
          lower = λ k j lower e. (let done = f.lower k j lower e in let p = placed source dest jobs count old new (Err fault) r done.on done.lane in
              done_at source dest jobs count old new (Err fault) r p.0 done.on j p.1 done.told);
        }

    untouched : r.ends ≡ r.starts → new ≡ old
    untouched e = r.back ∙ ap (λ ss. map (λ (s : LaneState). s.lane) ss ++ r.rest) e ∙ ap (λ l. l ++ r.rest) (map_fresh source dest r.lent.first r.starts r.lent.fresh) ∙ sym r.lent.was

    by : IsJobFault lane_lore jobs r.starts r.ends fault → IsLeast source dest jobs old new (by_cause fault.job fault.cause) ⊎ ((by_cause fault.job fault.cause ≡ refusal.Memory) × (new ≡ old))
    by (inl f) = inl (least f)
    by (inr memory) = inr (ap (λ c. by_cause fault.job c) memory.1, untouched memory.2)

-- ---- the same of any outcome, by the refusal that its fault is

abbrev pub answered : Result (List Issued) JobFault → Result (List Issued) Refusal
answered (Ok receipts) = Ok receipts
answered (Err fault) = Err (by_cause fault.job fault.cause)

pub ends_of : (source : Source) (dest : Dest) (jobs : List Job) (count : ℕ) (old new : List LaneTold) (outcome : Result (List Issued) JobFault) → AreJobs jobs → HasRun source dest jobs count old new outcome → JobsEnd source dest jobs old new (answered outcome)
ends_of source dest jobs count old new (Ok receipts) are r = run_done source dest jobs count old new receipts r
ends_of source dest jobs count old new (Err fault) are r = run_least source dest jobs count old new fault are r

pub adds_of : (source : Source) (dest : Dest) (jobs : List Job) (count : ℕ) (old new : List LaneTold) (outcome : Result (List Issued) JobFault) → HasRun source dest jobs count old new outcome → OnOk (answered outcome) (OnEach (λ place a b. AddsOnly dest (IsOfJobs jobs) a b) old new)
adds_of source dest jobs count old new (Ok receipts) r = run_adds source dest jobs count old new receipts r
adds_of source dest jobs count old new (Err fault) r = tt

pub receipts_of : (source : Source) (dest : Dest) (jobs : List Job) (count : ℕ) (old new : List LaneTold) (outcome : Result (List Issued) JobFault) → HasRun source dest jobs count old new outcome → IfOk (answered outcome) (AreReceipts jobs)
receipts_of source dest jobs count old new (Ok receipts) r = record { count = r.secured.count; job = at }
  where
    at : (k : ℕ) (i : Issued) (j : Job) → slice_get receipts k ≡ Some i → slice_get jobs k ≡ Some j → i.job ≡ j.number
    at k i j ei ej =
        ap (λ (x : Issued). x.job) (sym (get_or_from_slice_get receipts k i i ei))
        ∙ (r.secured.each k i j (slice_get_within jobs k j ej)).job
        ∙ ap (λ (x : Job). x.number) (get_or_from_slice_get jobs k j j ej)
receipts_of source dest jobs count old new (Err fault) r = tt
