-- A blob that is carried piece by piece.
use Rattle.std.proofs.Common.{◌≡◌, ◌∙◌, ◌+◌, ◌-◌, ◌<◌, ◌≤◌, ◌^◌, ◌++◌, ℕ, min, List, [], ◌∷◌, Result, Err, length, take, inl, refl, sym, ap, subst, length-append, arith}
use Rattle.std.proofs.lemmas.List.{take_all, length-take}
use Rattle.std.proofs.Math.Seq.{take-append-add}
use Rattle.skopeo_outside.specs.LaneTold.{LaneTold, IsLater}
use Rattle.skopeo_outside.specs.LaneLaws.{later_then}
use Rattle.digest_reader.specs.declared.job.Job.{Job}
use Rattle.digest_reader.specs.declared.digester.Digester.{Digester}
use Rattle.digest_reader.specs.Fed.{HasFed}
use Rattle.copy_workers.specs.declared.cause.Cause.{Cause}
use Rattle.transports.specs.declared.source.Source.{Source}
use Rattle.transports.specs.declared.dest.Dest.{Dest}
use Rattle.transports.specs.declared.blob.Blob.{Blob}
use Rattle.transports.specs.declared.blob.Upload.{Upload}
use Rattle.transports.specs.Blobs.{limit_of}
use Rattle.transports.specs.Given.{Spares, GaveFront, GaveAll}
use Rattle.transports.specs.Next.{GivesMore, GivesNoMore}
use Rattle.transports.specs.Has.{IsUntouched}
use Rattle.transports.specs.StepEnds.{FailsBy, FailsFreely}
use Rattle.transports.specs.Uploads.{Holds, TookFront, TookSome, OnlyPart}
use Rattle.transports.proofs.GivenLemmas.{only_spares, blob_earlier, front_later, given_later}
use Rattle.transports.proofs.PieceLaws.{take_take, free_unjudged, front_take, all_later, part_then, part_untouched, part_at_dest, took_still, left_front}
use Rattle.transports.proofs.UploadLemmas.{holds_later}
use Rattle.copy_jobs.specs.declared.pass.Passing.{Passing}
use Rattle.copy_jobs.specs.Passed.{IsRoute, IsPassing, IsStopped, IsPassedOn, PassesPiece, IsPassed}
use Rattle.copy_jobs.proofs.StateLemmas.{fails_earlier}

append_nil : {A : Type 0} (t : List A) → t ++ [] ≡ t
append_nil [] = refl
append_nil (x ∷ t) = ap (λ s. x ∷ s) (append_nil t)

-- ---- first bytes of what was given

-- what fits behind the bytes that were added, up to so many in all
fitting : (given into : List ℕ) (size count fits : ℕ) → length given ≤ size → fits ≡ min (size - length given) count → given ++ take fits into ≡ take size (given ++ take count into)
fitting given into size count fits few is =
    ap (λ n. given ++ take n into) is
    ∙ sym (ap (λ l. given ++ l) (take_take (size - length given) count into))
    ∙ sym (take-append-add given (take count into) (size - length given))
    ∙ (let n : length given + (size - length given) ≡ size = omega (arith, few) in ap (λ n. take n (given ++ take count into)) n)

-- some of what fits
cut_short : (given into : List ℕ) (some count fits : ℕ) → fits ≤ count → given ++ take some (take fits into) ≡ take (length given + min some fits) (given ++ take count into)
cut_short given into some count fits few =
    ap (λ l. given ++ l) (take_take some fits into)
    ∙ (let n : min some fits ≡ min (min some fits) count = omega (arith, few) in ap (λ n. given ++ take n into) n)
    ∙ sym (ap (λ l. given ++ l) (take_take (min some fits) count into))
    ∙ sym (take-append-add given (take count into) (min some fits))

module _ (source : Source) (dest : Dest) (job : Job) (entry : LaneTold) (route : IsRoute source dest job entry) where
  -- what is done to the part spares the source
  pub spared : (now : LaneTold) → IsLater entry now → OnlyPart dest job entry now → Spares source entry now
  spared now later only = only_spares source dest entry now route.apart later (part_at_dest dest job entry now route.small only)

  pub small_now : (now : LaneTold) → IsLater entry now → now.number < 2 ^ 64
  small_now now later = subst (λ n. n < 2 ^ 64) (sym later.number) route.small

  pub spared_then : (a b : LaneTold) → IsLater entry a → IsLater a b → OnlyPart dest job a b → Spares source a b
  spared_then a b later after only = only_spares source dest a b route.apart after (part_at_dest dest job a b (small_now a later) only)

  -- why a step failed, since the entry
  pub fails_since : (a b : LaneTold) (e : Cause) → OnlyPart dest job entry a → IsLater entry a → FailsBy source job e a b → FailsBy source job e entry b
  fails_since a b e only later failed = fails_earlier source dest job e entry a b later (λ r. blob_earlier source job entry a b (Err r) (spared a later only)) failed

  module _ (p : Passing) (at : ℕ) (a m : LaneTold) (r : IsPassing source dest job p entry a at) (same : IsUntouched a m) (number : m.number ≡ a.number) where
    read_only : OnlyPart dest job entry m
    read_only = part_then dest job entry a m r.only (part_untouched dest job a m number same)

    -- reading stopped
    pub read_stopped : (e : Cause) → GivesNoMore source job e entry m r.given → IsStopped source dest job e entry m
    read_stopped e stop = record {
      failed = stop.failed;
      unjudged = stop.unjudged;
      left = left_front source dest job entry m (take job.size r.given) read_only (took_still dest job entry a m (take job.size r.given) r.holds.took same.files) (front_take source job entry m r.given job.size stop.front);
      only = read_only;
      later = stop.later;
    }

    pub read_holds : Holds dest job p.upload entry m (take job.size r.given)
    read_holds = holds_later dest job p.upload entry a m (take job.size r.given) r.holds same number

    module _ (blob : Blob) (into : List ℕ) (count fits : ℕ) (more : GivesMore source job blob entry m r.given into count) (b : LaneTold) (part : OnlyPart dest job m b) (added : IsLater m b) where
      whole : at ≤ job.size → take job.size r.given ≡ r.given
      whole few = take_all job.size r.given (let n = r.count in omega (arith, few, n))

      add_only : OnlyPart dest job entry b
      add_only = part_then dest job entry m b read_only part

      add_later : IsLater entry b
      add_later = later_then entry m b more.has.later added

      spares : Spares source m b
      spares = spared_then m b more.has.later added part

      -- adding stopped
      pub add_stopped : (e : Cause) → at ≤ job.size → fits ≤ count → TookSome dest job entry b (take job.size r.given) (take fits into) → FailsFreely e m b → IsStopped source dest job e entry b
      add_stopped e few within took free =
          let next_front : GaveFront source job entry b (r.given ++ take count into) = front_later source job entry m b (r.given ++ take count into) more.has.front spares in
          let bytes : take job.size r.given ++ take took.count (take fits into) ≡ take (length r.given + min took.count fits) (r.given ++ take count into) =
          ap (λ l. l ++ take took.count (take fits into)) (whole few) ∙ cut_short r.given into took.count count fits within in
          record {
            failed = fails_since m b e read_only more.has.later (inl free);
            unjudged = free_unjudged e free.free;
            left = left_front source dest job entry b (take (length r.given + min took.count fits) (r.given ++ take count into)) add_only
                (subst (TookFront dest job entry b) bytes took.took)
                (front_take source job entry b (r.given ++ take count into) (length r.given + min took.count fits) next_front);
            only = add_only;
            later = add_later;
          }

      -- a piece was passed on
      pub piece_passed : b.from ≡ m.from → (upload : Upload) (digester : Digester) (room : ℕ) → at ≤ job.size → count ≤ room → length into ≡ room → fits ≡ min (job.size - at) count → HasFed digester (r.given ++ take count into)
          → Holds dest job upload entry b (take job.size r.given ++ take fits into)
          → IsPassedOn source dest job (record { blob = blob; upload = upload; digester = digester }) entry b at room count
      piece_passed from upload digester room few within long is fed holds = record {
        few = within;
        passing = record {
          given = r.given ++ take count into;
          count = (let n = length-take count into in let k = r.count in length-append r.given (take count into) ∙ omega (arith, n, k, within, long));
          has = given_later source job blob entry m b (r.given ++ take count into) more.has from added spares;
          fed = fed;
          holds = subst (Holds dest job upload entry b)
              (ap (λ l. l ++ take fits into) (whole few)
              ∙ (let n = r.count in fitting r.given into job.size count fits (omega (arith, few, n)) (is ∙ ap (λ k. min (job.size - k) count) (sym n)))) holds;
          only = add_only;
          later = add_later;
        };
        last = λ none. subst (GaveAll source job entry b) (nothing none) (all_later source job entry m b r.given (more.last none) spares);
      }
        where
          nothing : count ≡ 0 → r.given ≡ r.given ++ take count into
          nothing none = sym (append_nil r.given) ∙ sym (ap (λ n. r.given ++ take n into) none)

-- ---- answers that stopped

pub piece_stopped : (source : Source) (dest : Dest) (job : Job) (p : Passing) (entry now : LaneTold) (at room : ℕ) (r : Result ℕ Cause) (e : Cause) → r ≡ Err e → IsStopped source dest job e entry now → PassesPiece source dest job p entry now at room r
piece_stopped source dest job p entry now at room r e is stopped = subst (PassesPiece source dest job p entry now at room) (sym is) stopped

-- ---- all pieces

-- nothing came, at the blob's end
pub passed_end : (source : Source) (dest : Dest) (job : Job) (p : Passing) (entry now : LaneTold) (at room count : ℕ) → at ≤ limit_of job → count ≡ 0 → IsPassedOn source dest job p entry now at room count → IsPassed source dest job p entry now
passed_end source dest job p entry now at room count few none on = record {
  at = at + count;
  passing = on.passing;
  few = omega (arith, few, none);
  all = inl (on.last none);
}
