-- A blob that is begun, passed on, compared, and named or given up.
use Rattle.std.proofs.Common.{◌≡◌, ◌⊎◌, ◌∙◌, ◌≤◌, ◌==◌, ℕ, List, [], Bool, true, false, cond, Result, Ok, Err, OnOk, OnErr, IfErr, length, take, inl, inr, refl, sym, ap, subst, eqb-true, arith}
use Rattle.std.specs.Str.{bytes_eq}
use Rattle.std.proofs.lemmas.List.{take_all}
use Rattle.std.proofs.lemmas.Slice.Eq.{bytes_eq-Decides}
use Rattle.skopeo_outside.specs.Outside.{Rose}
use Rattle.skopeo_outside.specs.LaneTold.{LaneTold, IsLater}
use Rattle.skopeo_outside.specs.LaneLaws.{later_then}
use Rattle.digest_reader.specs.declared.job.Job.{Job}
use Rattle.digest_reader.specs.declared.digester.Digester.{Digester}
use Rattle.digest_reader.specs.Digests.{digest}
use Rattle.digest_reader.specs.Fed.{HasFed}
use Rattle.layouts.proofs.NameLemmas.{both}
use Rattle.copy_workers.specs.declared.cause.Cause.{Cause}
use Rattle.copy_workers.specs.declared.cause.Cause.TheVariants as why
use Rattle.transports.specs.declared.source.Source.{Source}
use Rattle.transports.specs.declared.dest.Dest.{Dest}
use Rattle.transports.specs.declared.blob.Blob.{Blob}
use Rattle.transports.specs.declared.blob.Upload.{Upload}
use Rattle.transports.specs.Blobs.{IsWhole, limit_of, is_whole, mismatch_of, judged}
use Rattle.transports.specs.Given.{BlobEnds, GaveAll}
use Rattle.transports.specs.Has.{HasBlob, KeepsBlobs, IsUntouched}
use Rattle.transports.specs.StepEnds.{IsDone, FailsBy, FailsFreely}
use Rattle.transports.specs.Fair.{Works}
use Rattle.transports.specs.Named.{AddsOnly}
use Rattle.transports.specs.Uploads.{Holds, HoldsWhole, OnlyPart, LeavesNoPart, IsLeft, is_mismatch}
use Rattle.transports.proofs.GivenLemmas.{blob_later, front_later, given_later}
use Rattle.transports.proofs.HasLemmas.{keeps_then}
use Rattle.transports.proofs.WorkLemmas.{works_then, works_later}
use Rattle.transports.proofs.PieceLaws.{free_unjudged, front_take, given_judged, part_then, part_untouched, part_works, part_keeps, took_still, holds_since, same_part, gone_since, gone_part, left_so, left_front}
use Rattle.copy_jobs.specs.Lane.{GivesUpPart}
use Rattle.copy_jobs.specs.declared.pass.Passing.{Passing}
use Rattle.copy_jobs.specs.Passed.{IsRoute, IsOpened, IsPassing, IsStopped, IsPassed, compared, GivesUp, IsCarried, IsGivenUp, Carries}
use Rattle.copy_jobs.proofs.PassLemmas.{spared_then, fails_since}

-- ---- what a comparison says

pub compared_whole : (job : Job) (bytes : List ℕ) → ◌≡◌ {A = Result (Unit {0}) Cause} (Ok tt) (compared job bytes) → IsWhole job bytes × (judged job bytes ≡ Ok bytes)
compared_whole job bytes is = by (is_whole job bytes) refl is
  where
    by : (b : Bool) → is_whole job bytes ≡ b → ◌≡◌ {A = Result (Unit {0}) Cause} (Ok tt) (cond b (Ok tt) (Err (why.BlobMismatch (mismatch_of job bytes)))) → IsWhole job bytes × (judged job bytes ≡ Ok bytes)
    by true e is =
        let parts = both (length bytes == job.size) (bytes_eq (digest bytes) job.digest) e in (
          record { size = eqb-true (length bytes) job.size parts.0; digest = (bytes_eq-Decides (digest bytes) job.digest).0 parts.1 },
          ap (λ b. cond b (Ok bytes) (Err (why.BlobMismatch (mismatch_of job bytes)))) e,
        )
    by false e is = let no : ◌≡◌ {A = Result (Unit {0}) Cause} (Ok tt) (Err (why.BlobMismatch (mismatch_of job bytes))) = is in cc

pub compared_other : (job : Job) (bytes : List ℕ) (cause : Cause) → ◌≡◌ {A = Result (Unit {0}) Cause} (Err cause) (compared job bytes) → judged job bytes ≡ Err cause
compared_other job bytes cause is = by (is_whole job bytes) refl is
  where
    same : (a b : Cause) → ◌≡◌ {A = Result (Unit {0}) Cause} (Err a) (Err b) → b ≡ a
    same a b e = cc

    by : (b : Bool) → is_whole job bytes ≡ b → ◌≡◌ {A = Result (Unit {0}) Cause} (Err cause) (cond b (Ok tt) (Err (why.BlobMismatch (mismatch_of job bytes)))) → judged job bytes ≡ Err cause
    by true e is = let no : ◌≡◌ {A = Result (Unit {0}) Cause} (Err cause) (Ok tt) = is in cc
    by false e is = ap (λ b. cond b (Ok bytes) (Err (why.BlobMismatch (mismatch_of job bytes)))) e ∙ ap Err (same cause (why.BlobMismatch (mismatch_of job bytes)) is)

-- a cause that may come at any step tells of no other bytes
pub never : {A : Type 0} (e : Cause) → is_mismatch e ≡ false → is_mismatch e ≡ true → A
never e unjudged mismatch = let no : true ≡ false = sym mismatch ∙ unjudged in cc

module _ (source : Source) (dest : Dest) (job : Job) (entry : LaneTold) (route : IsRoute source dest job entry) where
  pub stopped_up : (e : Cause) (now : LaneTold) → IsStopped source dest job e entry now → IsGivenUp source dest job e entry now
  stopped_up e now s = record { failed = s.failed; left = s.left; dropped = never e s.unjudged; only = s.only; later = s.later }

  -- ---- before the first piece

  -- it was not opened
  pub open_stopped : (e : Cause) (now : LaneTold) → FailsBy source job e entry now → is_mismatch e ≡ false → IsUntouched entry now → IsLater entry now → IsGivenUp source dest job e entry now
  open_stopped e now failed unjudged same later = record {
    failed = failed;
    left = left_so source dest job entry now (part_untouched dest job entry now later.number same) (same_part dest job entry now same.files);
    dropped = never e unjudged;
    only = part_untouched dest job entry now later.number same;
    later = later;
  }

  module _ (blob : Blob) (a : LaneTold) (o : IsOpened source job blob entry a) (b : LaneTold) (part : OnlyPart dest job a b) (later : IsLater a b) where
    begun_only : OnlyPart dest job entry b
    begun_only = part_then dest job entry a b (part_untouched dest job entry a o.later.number o.same) part

    -- it was not begun
    pub begin_stopped : (e : Cause) → FailsFreely e a b → b.files.tree ≡ a.files.tree → IsGivenUp source dest job e entry b
    begin_stopped e free same = record {
      failed = fails_since source dest job entry route a b e (part_untouched dest job entry a o.later.number o.same) o.later (inl free);
      left = left_so source dest job entry b begun_only (same_part dest job entry b (same ∙ o.same.files));
      dropped = never e (free_unjudged e free.free);
      only = begun_only;
      later = later_then entry a b o.later later;
    }

    -- it was, and nothing has passed
    pub none_passed : b.from ≡ a.from → (upload : Upload) (digester : Digester) → Holds dest job upload a b [] → HasFed digester [] → IsPassing source dest job (record { blob = blob; upload = upload; digester = digester }) entry b 0
    none_passed from upload digester holds fed = record {
      given = [];
      count = refl;
      has = given_later source job blob entry a b [] o.has from later (spared_then source dest job entry route a b o.later later part);
      fed = fed;
      holds = subst (Holds dest job upload entry b) (sym (take_all job.size [] (omega arith))) (holds_since dest job upload entry a b [] o.same o.later.number holds);
      only = begun_only;
      later = later_then entry a b o.later later;
    }

  -- ---- behind the last piece

  module _ (p : Passing) (a : LaneTold) (r : IsPassed source dest job p entry a) where
    -- what was given is judged
    blob_judged : BlobEnds source job entry a (judged job r.passing.given)
    blob_judged = given_judged source job entry a r.passing.given r.passing.has.front (let n = r.passing.count in let f = r.few in omega arith) (by r.all)
      where
        by : GaveAll source job entry a r.passing.given ⊎ (limit_of job ≤ r.at) → GaveAll source job entry a r.passing.given ⊎ (limit_of job ≤ length r.passing.given)
        by (inl all) = inl all
        by (inr most) = inr (let n = r.passing.count in omega arith)

    module _ (whole : IsWhole job r.passing.given) where
      holds_whole : Holds dest job p.upload entry a r.passing.given
      holds_whole = subst (Holds dest job p.upload entry a) (take_all job.size r.passing.given (let n = whole.size in omega arith)) r.passing.holds

      pub may_keep : HoldsWhole dest job p.upload a
      may_keep = record { entry = entry; bytes = r.passing.given; holds = holds_whole; whole = whole }

      -- it was named
      pub blob_kept : (b : LaneTold) → judged job r.passing.given ≡ Ok r.passing.given → (Holds dest job p.upload entry a r.passing.given → HasBlob dest job entry b)
          → (Holds dest job p.upload entry a r.passing.given → AddsOnly dest (λ d. d ≡ job.digest) entry b) → KeepsBlobs dest job a b → Works dest a b → IsCarried source dest job entry b
      blob_kept b well has adds keeps works = record {
        done = record { has = has holds_whole; how = inr (r.passing.given, blob_later source job entry a b (Ok r.passing.given) (subst (BlobEnds source job entry a) well blob_judged) (works_later dest a b works)) };
        adds = adds holds_whole;
        others = keeps_then dest job entry a b (part_keeps dest job entry a route.small r.passing.only) keeps;
        works = works_then dest entry a b (part_works dest job entry a route.digest route.small r.passing.later r.passing.only) works;
      }

      -- it was not
      pub keep_stopped : (b : LaneTold) (e : Cause) → FailsFreely e a b → b.files.tree ≡ a.files.tree → OnlyPart dest job a b → Works dest a b → IsGivenUp source dest job e entry b
      keep_stopped b e free same part works = record {
        failed = fails_since source dest job entry route a b e r.passing.only r.passing.later (inl free);
        left = left_front source dest job entry b r.passing.given (part_then dest job entry a b r.passing.only part)
            (took_still dest job entry a b r.passing.given holds_whole.took same)
            (front_later source job entry a b r.passing.given r.passing.has.front (spared_then source dest job entry route a b r.passing.later (works_later dest a b works) part));
        dropped = never e (free_unjudged e free.free);
        only = part_then dest job entry a b r.passing.only part;
        later = later_then entry a b r.passing.later (works_later dest a b works);
      }

      -- either of these
      pub blob_ended : (b : LaneTold) (answer : Result (Unit {0}) Cause) → judged job r.passing.given ≡ Ok r.passing.given
          → ((first : LaneTold) (bytes : List ℕ) → Holds dest job p.upload first a bytes → OnOk answer (HasBlob dest job first b)) → IfErr answer (λ e. FailsFreely e a b)
          → ((first : LaneTold) (bytes : List ℕ) → Holds dest job p.upload first a bytes → OnOk answer (AddsOnly dest (λ d. d ≡ job.digest) first b))
          → KeepsBlobs dest job a b → Works dest a b → OnErr answer (b.files.tree ≡ a.files.tree) → OnErr answer (OnlyPart dest job a b) → Carries source dest job entry b answer
      blob_ended b (Ok done) well has failed adds keeps works same part = blob_kept b well (has entry r.passing.given) (adds entry r.passing.given) keeps works
      blob_ended b (Err e) well has failed adds keeps works same part = keep_stopped b e failed same part works

    -- other bytes were found
    pub blob_given_up : (cause told : Cause) (b : LaneTold) → judged job r.passing.given ≡ Err cause → GivesUp dest job cause a b told → IsGivenUp source dest job told entry b
    blob_given_up cause told b ill g = record {
      failed = because g.why;
      left = left g.gone;
      dropped = λ mismatch. dropped (g.dropped mismatch);
      only = only;
      later = later_then entry a b r.passing.later g.later;
    }
      where
        only : OnlyPart dest job entry b
        only = part_then dest job entry a b r.passing.only g.part

        because : (told ≡ cause) ⊎ FailsFreely told a b → FailsBy source job told entry b
        because (inl is) = inr (blob_later source job entry a b (Err told) (subst (BlobEnds source job entry a) (ill ∙ ap Err (sym is)) blob_judged) g.later)
        because (inr free) = fails_since source dest job entry route a b told r.passing.only r.passing.later (inl free)

        left : LeavesNoPart dest job a b ⊎ (b.files.tree ≡ a.files.tree) → IsLeft source dest job entry b
        left (inl none) = left_so source dest job entry b only (gone_part dest job entry b (gone_since dest job entry a b r.passing.later none))
        left (inr same) = left_front source dest job entry b (take job.size r.passing.given) only
            (took_still dest job entry a b (take job.size r.passing.given) r.passing.holds.took same)
            (front_later source job entry a b (take job.size r.passing.given) (front_take source job entry a r.passing.given job.size r.passing.has.front) (spared_then source dest job entry route a b r.passing.later g.later g.part))

        dropped : LeavesNoPart dest job a b ⊎ Rose a.files.faults b.files.faults → GivesUpPart dest job entry b
        dropped (inl none) = inl (gone_since dest job entry a b r.passing.later none)
        dropped (inr rose) = inr (inl (let more = r.passing.later.files.faults in omega arith))

  -- ---- all of it

  pub carried_others : (b : LaneTold) (r : Result (Unit {0}) Cause) → Carries source dest job entry b r → KeepsBlobs dest job entry b
  carried_others b (Ok done) c = c.others
  carried_others b (Err e) c = part_keeps dest job entry b route.small c.only

  pub carried_works : (b : LaneTold) (r : Result (Unit {0}) Cause) → Carries source dest job entry b r → Works dest entry b
  carried_works b (Ok done) c = c.works
  carried_works b (Err e) c = part_works dest job entry b route.digest route.small c.later c.only

  pub carried_done : (b : LaneTold) (r : Result (Unit {0}) Cause) → Carries source dest job entry b r → OnOk r (IsDone source dest job entry b)
  carried_done b (Ok done) c = c.done
  carried_done b (Err e) c = tt

  pub carried_adds : (b : LaneTold) (r : Result (Unit {0}) Cause) → Carries source dest job entry b r → OnOk r (AddsOnly dest (λ d. d ≡ job.digest) entry b)
  carried_adds b (Ok done) c = c.adds
  carried_adds b (Err e) c = tt

  pub carried_failed : (b : LaneTold) (r : Result (Unit {0}) Cause) → Carries source dest job entry b r → IfErr r (λ e. FailsBy source job e entry b)
  carried_failed b (Ok done) c = tt
  carried_failed b (Err e) c = c.failed

  pub carried_left : (b : LaneTold) (r : Result (Unit {0}) Cause) → Carries source dest job entry b r → OnErr r (IsLeft source dest job entry b)
  carried_left b (Ok done) c = tt
  carried_left b (Err e) c = c.left

  pub carried_dropped : (b : LaneTold) (r : Result (Unit {0}) Cause) → Carries source dest job entry b r → IfErr r (λ e. is_mismatch e ≡ true → GivesUpPart dest job entry b)
  carried_dropped b (Ok done) c = tt
  carried_dropped b (Err e) c = c.dropped

-- ---- answers that stopped

pub carries_none : (source : Source) (dest : Dest) (job : Job) (old new : LaneTold) (r : Result (Unit {0}) Cause) (e : Cause) → r ≡ Err e → IsGivenUp source dest job e old new → Carries source dest job old new r
carries_none source dest job old new r e is up = subst (Carries source dest job old new) (sym is) up
