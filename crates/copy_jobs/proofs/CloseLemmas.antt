-- What became of a blob is so still when the connection to its source was closed.
use Rattle.std.proofs.Common.{◌≡◌, ◌⊎◌, ◌∙◌, ℕ, List, Bool, Result, Ok, Err, inl, inr, refl, sym, ap, subst}
use Rattle.skopeo_outside.specs.LaneTold.{WireTold, FilesTold, LaneTold, IsLater}
use Rattle.skopeo_outside.specs.LaneLaws.{later_same, later_then, told_same}
use Rattle.digest_reader.specs.declared.job.Job.{Job}
use Rattle.copy_workers.specs.declared.cause.Cause.{Cause}
use Rattle.copy_workers.specs.declared.cause.Cause.TheVariants as why
use Rattle.transports.specs.declared.source.Source.{Source}
use Rattle.transports.specs.declared.source.Source.TheVariants as source
use Rattle.transports.specs.declared.dest.Dest.{Dest}
use Rattle.transports.specs.declared.dest.Dest.TheVariants.{Folder}
use Rattle.transports.specs.Refusals.{Blames}
use Rattle.transports.specs.Registries.{IsClosed}
use Rattle.transports.specs.Given.{SameIn, Spares, BlobEnds, GaveFront}
use Rattle.transports.specs.Has.{HasBlob, IsReported, OnlyAtDest}
use Rattle.transports.specs.StepEnds.{IsDone, FailsBy}
use Rattle.transports.specs.Fair.{IsFairOn, Works}
use Rattle.transports.specs.Named.{AddsOnly}
use Rattle.transports.specs.Writes.{WritesNone}
use Rattle.transports.specs.Uploads.{TookFront, OnlyPart, LeavesNoPart, SamePart, IsLeft}
use Rattle.transports.proofs.GivenLemmas.{blob_later, front_later}
use Rattle.transports.proofs.HasLemmas.{reported_later}
use Rattle.copy_jobs.specs.Lane.{GivesUpPart}
use Rattle.copy_jobs.specs.Passed.{Carries}

-- the lane with another word on whether its connection to the source is open
abbrev shut : LaneTold → Bool → LaneTold
shut b x = record { from = record { talks = b.from.talks; faults = b.from.faults; is_open = x }; to = b.to; files = b.files; number = b.number }

closed_is : (b c : LaneTold) → IsClosed b c → shut b c.from.is_open ≡ c
closed_is b c same =
    ap (λ t. record { from = record { talks = t; faults = b.from.faults; is_open = c.from.is_open }; to = b.to; files = b.files; number = b.number }) (sym same.talks)
    ∙ ap (λ n. record { from = record { talks = c.from.talks; faults = n; is_open = c.from.is_open }; to = b.to; files = b.files; number = b.number }) (sym same.faults)
    ∙ ap (λ (w : WireTold). record { from = c.from; to = w; files = b.files; number = b.number }) (sym same.to)
    ∙ ap (λ (f : FilesTold). record { from = c.from; to = c.to; files = f; number = b.number }) (sym same.files)
    ∙ ap (λ n. record { from = c.from; to = c.to; files = c.files; number = n }) (sym same.number)

later_shut : (b : LaneTold) (x : Bool) → IsLater b (shut b x)
later_shut b x = record { from = record { talks = (later_same b).from.talks; faults = (later_same b).from.faults }; to = (later_same b).to; files = (later_same b).files; number = refl }

spares_shut : (s : Source) (b : LaneTold) (x : Bool) → Spares s b (shut b x)
unfolding Spares
spares_shut (source.Folder path) b x = told_same (SameIn path) (λ t q here. refl) b.files.tree
spares_shut (source.Registry r) b x = later_shut b x

blames_shut : (e : Cause) (a b : LaneTold) (x : Bool) → Blames e a b → Blames e a (shut b x)
blames_shut (why.Files count) a b x f = record { is = f.is; rose = f.rose }
blames_shut (why.Wire count) a b x (inl f) = inl (record { is = f.is; rose = f.rose })
blames_shut (why.Wire count) a b x (inr f) = inr (record { is = f.is; rose = f.rose })
blames_shut (why.TlsRequired host) a b x f = tt
blames_shut (why.BlobMismatch m) a b x f = tt
blames_shut (why.BlobAbsent digest) a b x f = tt
blames_shut (why.DestRefused step code) a b x f = tt
blames_shut (why.TooLarge what length) a b x f = tt
blames_shut (why.BadAnswer step bytes) a b x f = tt
blames_shut (why.SourceRefused step code) a b x f = tt
blames_shut (why.Encoded step) a b x f = tt
blames_shut (why.TooManyRedirects step) a b x f = tt
blames_shut why.Memory a b x f = tt

module _ (s : Source) (job : Job) (a b : LaneTold) (x : Bool) where
  has_shut : (dest : Dest) (other : Job) (first : LaneTold) → HasBlob dest other first b → HasBlob dest other first (shut b x)
  unfolding HasBlob
  has_shut (Folder path) other first h = h

  adds_shut : (dest : Dest) (Is : List ℕ → Type 0) → AddsOnly dest Is a b → AddsOnly dest Is a (shut b x)
  unfolding AddsOnly
  adds_shut (Folder path) Is h = h

  only_shut : (dest : Dest) → OnlyAtDest dest a b → OnlyAtDest dest a (shut b x)
  unfolding OnlyAtDest
  only_shut (Folder path) h = h

  none_shut : WritesNone a b → WritesNone a (shut b x)
  unfolding WritesNone
  none_shut h = h

  fair_shut : (dest : Dest) → IsFairOn dest a.number a b → IsFairOn dest a.number a (shut b x)
  unfolding IsFairOn
  fair_shut (Folder path) h = h

  works_shut : (dest : Dest) → Works dest a b → Works dest a (shut b x)
  unfolding Works
  works_shut dest w = record { later = later_then a b (shut b x) w.later (later_shut b x); only = only_shut dest w.only; none = none_shut w.none; fair = fair_shut dest w.fair }

  part_shut : (dest : Dest) → OnlyPart dest job a b → OnlyPart dest job a (shut b x)
  unfolding OnlyPart
  part_shut (Folder path) h = h

  same_shut : (dest : Dest) → SamePart dest job a b → SamePart dest job a (shut b x)
  unfolding SamePart
  same_shut (Folder path) h = h

  took_shut : (dest : Dest) (bytes : List ℕ) → TookFront dest job a b bytes → TookFront dest job a (shut b x) bytes
  unfolding TookFront
  took_shut (Folder path) bytes h = h

  gone_shut : (dest : Dest) → LeavesNoPart dest job a b → LeavesNoPart dest job a (shut b x)
  unfolding LeavesNoPart
  gone_shut (Folder path) h = h

  left_shut : (dest : Dest) → IsLeft s dest job a b → IsLeft s dest job a (shut b x)
  unfolding IsLeft
  left_shut dest h = record { only = part_shut dest h.only; part = by h.part }
    where
      by : SamePart dest job a b ⊎ ((bytes : List ℕ) × TookFront dest job a b bytes × GaveFront s job a b bytes) → SamePart dest job a (shut b x) ⊎ ((bytes : List ℕ) × TookFront dest job a (shut b x) bytes × GaveFront s job a (shut b x) bytes)
      by (inl same) = inl (same_shut dest same)
      by (inr t) = inr (t.0, took_shut dest t.0 t.1, front_later s job a b (shut b x) t.0 t.2 (spares_shut s b x))

  done_shut : (dest : Dest) → IsDone s dest job a b → IsDone s dest job a (shut b x)
  done_shut dest d = record { has = has_shut dest job a d.has; how = by d.how }
    where
      by : IsReported dest job a b ⊎ ((bytes : List ℕ) × BlobEnds s job a b (Ok bytes)) → IsReported dest job a (shut b x) ⊎ ((bytes : List ℕ) × BlobEnds s job a (shut b x) (Ok bytes))
      by (inl r) = inl (reported_later dest job a b (shut b x) r)
      by (inr g) = inr (g.0, blob_later s job a b (shut b x) (Ok g.0) g.1 (later_shut b x))

  fails_shut : (e : Cause) → FailsBy s job e a b → FailsBy s job e a (shut b x)
  fails_shut e (inl f) = inl (record { free = f.free; blames = blames_shut e a b x f.blames })
  fails_shut e (inr h) = inr (blob_later s job a b (shut b x) (Err e) h (later_shut b x))

  gives_shut : (dest : Dest) → GivesUpPart dest job a b → GivesUpPart dest job a (shut b x)
  gives_shut dest (inl gone) = inl (gone_shut dest gone)
  gives_shut dest (inr rose) = inr rose

  carries_shut : (dest : Dest) (r : Result (Unit {0}) Cause) → Carries s dest job a b r → Carries s dest job a (shut b x) r
  carries_shut dest (Ok done) c = record {
    done = done_shut dest c.done;
    adds = adds_shut dest (λ d. d ≡ job.digest) c.adds;
    others = λ other first differs has. has_shut dest other first (c.others other first differs has);
    works = works_shut dest c.works;
  }
  carries_shut dest (Err e) c = record {
    failed = fails_shut e c.failed;
    left = left_shut dest c.left;
    dropped = λ mismatch. gives_shut dest (c.dropped mismatch);
    only = part_shut dest c.only;
    later = later_then a b (shut b x) c.later (later_shut b x);
  }

pub carries_closed : (s : Source) (dest : Dest) (job : Job) (a b c : LaneTold) (r : Result (Unit {0}) Cause) → Carries s dest job a b r → IsClosed b c → Carries s dest job a c r
carries_closed s dest job a b c r carried same = subst (λ (l : LaneTold). Carries s dest job a l r) (closed_is b c same) (carries_shut s job a b c.from.is_open dest r carried)
