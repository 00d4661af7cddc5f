-- A lane of the engine, before and after it is asked for a job.
use Rattle.std.proofs.Common.{◌≡◌, ◌≢◌, ◌⊎◌, List, [], ◌∷◌, ◌++◌, ℕ, Bool, true, false, cond, ◌==◌, Option, Some, None, Ok, Err, inl, inr, refl, sym, ap, subst, ◌∙◌}
use Rattle.std.specs.Str.{bytes_eq}
use Rattle.std.proofs.lemmas.Bool.{eq-eqb, eqb-true}
use Rattle.std.proofs.lemmas.Slice.Eq.{bytes_eq-Decides}
use Rattle.skopeo_outside.specs.LaneTold.{LaneTold, IsLater}
use Rattle.digest_reader.specs.declared.job.Job.{Job}
use Rattle.copy_workers.specs.declared.asked.LaneAnswer.{LaneAnswer}
use Rattle.copy_workers.specs.Asked.{Answered, Adds, answers_to}
use Rattle.copy_workers.specs.declared.cause.Cause.{Cause}
use Rattle.copy_workers.specs.declared.cause.Cause.TheVariants as why
use Rattle.copy_workers.specs.Lanes.{Keeps}
use Rattle.transports.specs.declared.source.Source.{Source}
use Rattle.transports.specs.declared.dest.Dest.{Dest}
use Rattle.transports.specs.Courses.{blames_earlier}
use Rattle.transports.specs.StepEnds.{IsDone, FailsBy}
use Rattle.transports.specs.Has.{HasBlob, KeepsBlobs, IsReported}
use Rattle.transports.specs.Given.{BlobEnds}
use Rattle.transports.specs.Fair.{Works}
use Rattle.transports.specs.Named.{AddsOnly, BringsOnly}
use Rattle.transports.proofs.GivenLemmas.{blob_later, blob_earlier, only_spares}
use Rattle.transports.proofs.PieceLaws.{fails_alike}
use Rattle.transports.proofs.HasLemmas.{has_earlier, reported_earlier, reported_later}
use Rattle.transports.proofs.WorkLemmas.{works_then, works_later, works_only, adds_then, adds_wider}
use Rattle.transports.proofs.BringLemmas.{brings_then, brings_wider, adds_brings}
use Rattle.copy_jobs.specs.Lane.{LaneState, fault_of, WasAsked, IsSound, lane_lore}

pub this_fault : (job : Job) (cause : Cause) → fault_of (Some (job, cause)) job ≡ Some cause
this_fault job cause =
    ap (λ b. cond b (Some (cond (job.size == job.size) cause why.Memory)) None) ((bytes_eq-Decides job.digest job.digest).1 refl)
    ∙ ap (λ b. Some (cond b cause why.Memory)) (eq-eqb job.size job.size refl)

pub other_fault : (job other : Job) (cause : Cause) → other.digest ≢ job.digest → fault_of (Some (job, cause)) other ≡ None
other_fault job other cause apart = by (bytes_eq job.digest other.digest) refl
  where
    by : (b : Bool) → bytes_eq job.digest other.digest ≡ b → fault_of (Some (job, cause)) other ≡ None
    by true e = absurd (apart (sym ((bytes_eq-Decides job.digest other.digest).0 e)))
    by false e = ap (λ b. cond b (Some (cond (job.size == other.size) cause why.Memory)) None) e

pub calm_none : (f : Option (Job × Cause)) → ((job : Job) → fault_of f job ≡ None) → f ≡ None
calm_none None calm = refl
calm_none (Some f) calm = let no : Some f.1 ≡ None = sym (this_fault f.0 f.1) ∙ calm f.0 in cc

-- the failure that is kept
pub kept_failure : (job noted : Job) (cause told : Cause) → noted ≡ job → told ≡ cause → ◌≡◌ {A = Option (Job × Cause)} (Some (job, cause)) (Some (noted, told))
kept_failure job noted cause told j c =
    let pair : Job → Cause → Option (Job × Cause) = λ x e. Some (x, e) in
    ap (λ x. pair x cause) (sym j) ∙ ap (λ e. pair noted e) (sym c)

-- ---- a lane that was asked

not_empty : {A : Type 0} (xs : List A) (x : A) → xs ++ x ∷ [] ≢ []
not_empty [] x e = let no : x ∷ [] ≡ [] = e in cc
not_empty (y ∷ xs) x e = let no : y ∷ (xs ++ x ∷ []) ≡ [] = e in cc

-- it was asked for the digest
pub asked_this : (digest : List ℕ) (answer : LaneAnswer) (old new : Answered) → Adds digest answer old new → WasAsked new digest
asked_this digest answer old new adds e = not_empty (answers_to old digest) answer (sym adds.this ∙ e)

-- and for each other for which it was asked before
pub asked_still : (digest : List ℕ) (answer : LaneAnswer) (old new : Answered) → Adds digest answer old new → (d : List ℕ) → WasAsked old d → WasAsked new d
asked_still digest answer old new adds d was none = by (bytes_eq d digest) refl
  where
    by : (b : Bool) → bytes_eq d digest ≡ b → ⊥
    by true e = not_empty (answers_to old digest) answer (sym adds.this ∙ subst (λ x. answers_to new x ≡ []) ((bytes_eq-Decides d digest).0 e) none)
    by false e = was (sym (adds.others d (λ same. (let no : true ≡ false = sym ((bytes_eq-Decides d digest).1 same) ∙ e in cc))) ∙ none)

-- the lane after a call for a job, with its failure then
abbrev pub after : LaneState → LaneTold → Answered → Option (Job × Cause) → LaneState
after l lane asked failure = record { lane = lane; origin = l.origin; source = l.source; dest = l.dest; failure = failure; asked = asked }

-- blobs of a digest were added, and parts of them, by a lane that was asked for it
brings_asked : (l : LaneState) (lane : LaneTold) (asked : Answered) (job : Job) (answer : LaneAnswer) → IsSound l → Works l.dest l.lane lane → BringsOnly l.dest (λ d. d ≡ job.digest) l.lane lane → Adds job.digest answer l.asked asked → BringsOnly l.dest (WasAsked asked) l.origin lane
brings_asked l lane asked job answer so works brings more =
    brings_then l.dest (WasAsked l.asked) (λ d. d ≡ job.digest) (WasAsked asked) (asked_still job.digest answer l.asked asked more) (λ d is. subst (WasAsked asked) (sym is) (asked_this job.digest answer l.asked asked more))
    l.origin l.lane lane (works_later l.dest l.origin l.lane so.works).number so.brings brings

-- a job was done
pub sound_carried : (l : LaneState) (lane : LaneTold) (asked : Answered) (job : Job) (answer : LaneAnswer) → IsSound l → l.failure ≡ None → Works l.dest l.lane lane
    → AddsOnly l.dest (λ d. d ≡ job.digest) l.lane lane → Adds job.digest answer l.asked asked → IsSound (after l lane asked l.failure)
sound_carried l lane asked job answer so calm works adds more = record {
  apart = so.apart;
  works = works_then l.dest l.origin l.lane lane so.works works;
  cause = λ other cause e. (let no : None ≡ Some (other, cause) = sym calm ∙ e in cc);
  brings = brings_asked l lane asked job answer so works (adds_brings l.dest (λ d. d ≡ job.digest) l.lane lane adds) more;
  adds = λ e. adds_then l.dest (WasAsked l.asked) (λ d. d ≡ job.digest) (WasAsked asked) (asked_still job.digest answer l.asked asked more) (λ d is. subst (WasAsked asked) (sym is) (asked_this job.digest answer l.asked asked more)) l.origin l.lane lane (so.adds calm) adds;
}

-- nothing was done
pub sound_asked : (l : LaneState) (asked : Answered) (job : Job) (answer : LaneAnswer) → IsSound l → Adds job.digest answer l.asked asked → IsSound (after l l.lane asked l.failure)
sound_asked l asked job answer so more = record {
  apart = so.apart;
  works = so.works;
  cause = so.cause;
  brings = brings_wider l.dest (WasAsked l.asked) (WasAsked asked) (asked_still job.digest answer l.asked asked more) l.origin l.lane so.brings;
  adds = λ calm. adds_wider l.dest (WasAsked l.asked) (WasAsked asked) (asked_still job.digest answer l.asked asked more) l.origin l.lane (so.adds calm);
}

pair_of : (a b : Job) (x y : Cause) → ◌≡◌ {A = Option (Job × Cause)} (Some (a, x)) (Some (b, y)) → (b ≡ a) × (y ≡ x)
pair_of a b x y e = (ap job_of (sym e), ap cause_of (sym e))
  where
    job_of : Option (Job × Cause) → Job
    job_of None = a
    job_of (Some p) = p.0

    cause_of : Option (Job × Cause) → Cause
    cause_of None = x
    cause_of (Some p) = p.1

-- why a job failed, since an earlier state
pub fails_earlier : (source : Source) (dest : Dest) (job : Job) (e : Cause) (a b c : LaneTold) → IsLater a b → ((r : Cause) → BlobEnds source job b c (Err r) → BlobEnds source job a c (Err r)) → FailsBy source job e b c → FailsBy source job e a c
fails_earlier source dest job e a b c later blob (inl f) = inl (record { free = f.free; blames = blames_earlier e a b c later f.blames })
fails_earlier source dest job e a b c later blob (inr f) = inr (blob e f)

-- a job failed
pub sound_failed : (l : LaneState) (lane : LaneTold) (asked : Answered) (job : Job) (e : Cause) (answer : LaneAnswer) → IsSound l → Works l.dest l.lane lane → FailsBy l.source job e l.lane lane → BringsOnly l.dest (λ d. d ≡ job.digest) l.lane lane → Adds job.digest answer l.asked asked → IsSound (after l lane asked (Some (job, e)))
sound_failed l lane asked job e answer so works fails brings more = record {
  apart = so.apart;
  works = works_then l.dest l.origin l.lane lane so.works works;
  cause = λ other cause is. (let p = pair_of job other e cause is in subst (λ x. FailsBy l.source other x l.origin lane) (sym p.1) (subst (λ j. FailsBy l.source j e l.origin lane) (sym p.0) since));
  brings = brings_asked l lane asked job answer so works brings more;
  adds = λ calm. (let no : ◌≡◌ {A = Option (Job × Cause)} (Some (job, e)) None = calm in cc);
}
  where
    since : FailsBy l.source job e l.origin lane
    since = fails_earlier l.source l.dest job e l.origin l.lane lane (works_later l.dest l.origin l.lane so.works)
        (λ r. blob_earlier l.source job l.origin l.lane lane (Err r) (only_spares l.source l.dest l.origin l.lane so.apart (works_later l.dest l.origin l.lane so.works) (works_only l.dest l.origin l.lane so.works))) fails

-- a job that was done now was done since the lane was made
pub done_since : (l : LaneState) (lane : LaneTold) (job : Job) → IsSound l → IsDone l.source l.dest job l.lane lane → IsDone l.source l.dest job l.origin lane
done_since l lane job so done = record { has = has_earlier l.dest job l.origin l.lane lane (works_later l.dest l.origin l.lane so.works) done.has; how = by done.how }
  where
    by : IsReported l.dest job l.lane lane ⊎ ((bytes : List ℕ) × BlobEnds l.source job l.lane lane (Ok bytes)) → IsReported l.dest job l.origin lane ⊎ ((bytes : List ℕ) × BlobEnds l.source job l.origin lane (Ok bytes))
    by (inl r) = inl (reported_earlier l.dest job l.origin l.lane lane (works_later l.dest l.origin l.lane so.works) r)
    by (inr g) = inr (g.0, blob_earlier l.source job l.origin l.lane lane (Ok g.0) (only_spares l.source l.dest l.origin l.lane so.apart (works_later l.dest l.origin l.lane so.works) (works_only l.dest l.origin l.lane so.works)) g.1)

-- and it stays done where its blob is kept
pub done_kept : (source : Source) (dest : Dest) (job : Job) (a b c : LaneTold) → IsDone source dest job a b → IsLater b c → HasBlob dest job a c → IsDone source dest job a c
done_kept source dest job a b c done later has = record { has = has; how = by done.how }
  where
    by : IsReported dest job a b ⊎ ((bytes : List ℕ) × BlobEnds source job a b (Ok bytes)) → IsReported dest job a c ⊎ ((bytes : List ℕ) × BlobEnds source job a c (Ok bytes))
    by (inl r) = inl (reported_later dest job a b c r)
    by (inr g) = inr (g.0, blob_later source job a b c (Ok g.0) g.1 later)

pub keeps_carried : (l : LaneState) (lane : LaneTold) (asked : Answered) (job : Job) (answer : LaneAnswer) → IsLater l.lane lane → KeepsBlobs l.dest job l.lane lane → Adds job.digest answer l.asked asked → Keeps lane_lore job l (after l lane asked l.failure)
keeps_carried l lane asked job answer later keeps adds = record {
  stays = λ other apart done. done_kept l.source l.dest other l.origin l.lane lane done later (keeps other l.origin apart done.has);
  fails = λ other apart. refl;
  names = λ other apart. refl;
  asks = λ other apart. adds.others other.digest apart;
  target = refl;
  origin = refl;
}

pub keeps_failed : (l : LaneState) (lane : LaneTold) (asked : Answered) (job : Job) (e : Cause) (answer : LaneAnswer) → l.failure ≡ None → IsLater l.lane lane → KeepsBlobs l.dest job l.lane lane → Adds job.digest answer l.asked asked → Keeps lane_lore job l (after l lane asked (Some (job, e)))
keeps_failed l lane asked job e answer calm later keeps adds = record {
  stays = λ other apart done. done_kept l.source l.dest other l.origin l.lane lane done later (keeps other l.origin apart done.has);
  fails = λ other apart. other_fault job other e apart ∙ sym (ap (λ f. fault_of f other) calm);
  names = λ other apart. refl;
  asks = λ other apart. adds.others other.digest apart;
  target = refl;
  origin = refl;
}

-- the cause that a lane tells of a job of the same digest and size is that of its failure, or want of memory
some_same : (a b : Cause) → Some a ≡ Some b → a ≡ b
some_same a b e = cc

pub fault_kept : (l : LaneState) (job : Job) (cause : Cause) → IsSound l → fault_of l.failure job ≡ Some cause → FailsBy l.source job cause l.origin l.lane
fault_kept l job cause so told = by l.failure refl told
  where
    of : (f : Job × Cause) → l.failure ≡ Some f → (b s : Bool) → bytes_eq f.0.digest job.digest ≡ b → (f.0.size == job.size) ≡ s → cond b (Some (cond s f.1 why.Memory)) None ≡ Some cause → FailsBy l.source job cause l.origin l.lane
    of f e true true digest size is = subst (λ x. FailsBy l.source job x l.origin l.lane) (some_same f.1 cause is)
        (fails_alike l.source f.0 job f.1 l.origin l.lane ((bytes_eq-Decides f.0.digest job.digest).0 digest) (eqb-true f.0.size job.size size) (so.cause f.0 f.1 e))
    of f e true false digest size is = subst (λ x. FailsBy l.source job x l.origin l.lane) (some_same why.Memory cause is) (inl (record { free = refl; blames = tt }))
    of f e false s digest size is = let no : None ≡ Some cause = is in cc

    by : (f : Option (Job × Cause)) → l.failure ≡ f → fault_of f job ≡ Some cause → FailsBy l.source job cause l.origin l.lane
    by None e is = let no : None ≡ Some cause = is in cc
    by (Some f) e is = of f e (bytes_eq f.0.digest job.digest) (f.0.size == job.size) refl refl is
