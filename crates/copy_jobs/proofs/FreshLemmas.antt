-- A lane as it was made.
use Rattle.std.proofs.Common.{◌≡◌, List, [], ℕ, Option, Some, None, ap, subst}
use Rattle.skopeo_outside.specs.LaneTold.{LaneTold}
use Rattle.digest_reader.specs.declared.job.Job.{Job}
use Rattle.copy_workers.specs.declared.cause.Cause.{Cause}
use Rattle.copy_workers.specs.Asked.{Answered, answers_to}
use Rattle.transports.specs.declared.source.Source.{Source}
use Rattle.transports.specs.declared.dest.Dest.{Dest}
use Rattle.transports.specs.Places.{AreApart}
use Rattle.transports.specs.Fair.{Works}
use Rattle.transports.specs.Named.{AddsOnly, BringsOnly}
use Rattle.transports.proofs.SameLemmas.{works_same}
use Rattle.transports.proofs.WorkLemmas.{adds_same}
use Rattle.transports.proofs.BringLemmas.{brings_same}
use Rattle.copy_jobs.specs.Lane.{WasAsked, IsSound, IsFresh}

pub sound_fresh : (lane origin : LaneTold) (source : Source) (dest : Dest) (asked : Answered) → AreApart source dest → origin ≡ lane → IsSound (record { lane = lane; origin = origin; source = source; dest = dest; failure = None; asked = asked })
sound_fresh lane origin source dest asked apart same = record {
  apart = apart;
  works = subst (λ (l : LaneTold). Works dest origin l) same (works_same dest origin);
  cause = λ job cause e. (let no : ◌≡◌ {A = Option (Job × Cause)} None (Some (job, cause)) = e in cc);
  brings = subst (λ (l : LaneTold). BringsOnly dest (WasAsked asked) origin l) same (brings_same dest (WasAsked asked) origin);
  adds = λ calm. subst (λ (l : LaneTold). AddsOnly dest (WasAsked asked) origin l) same (adds_same dest (WasAsked asked) origin);
}

pub fresh_is : (lane origin : LaneTold) (source : Source) (dest : Dest) (asked : Answered) → origin ≡ lane → ((digest : List ℕ) → answers_to asked digest ≡ []) → IsFresh source dest lane (record { lane = lane; origin = origin; source = source; dest = dest; failure = None; asked = asked })
fresh_is lane origin source dest asked same none = record {
  is = ap (λ (o : LaneTold). record { lane = lane; origin = o; source = source; dest = dest; failure = None; asked = asked }) same;
  unasked = record { none = none };
}
