-- What holds between two states holds from a state on before which files were read alone.
use Rattle.std.proofs.Common.{◌≡◌, ◌∙◌, ◌⊎◌, ℕ, List, [], ◌∷◌, Bool, Option, Some, None, Result, Ok, Err, IfSome, length, inl, inr, refl, sym, ap, subst, arith}
use Rattle.skopeo_outside.specs.Outside.{Told}
use Rattle.skopeo_outside.specs.LaneTold.{LaneTold}
use Rattle.skopeo_outside.specs.LaneLaws.{later_then, each_then, lane_at}
use Rattle.skopeo_outside.specs.Seen.{Seen, OnFirst, OnEach, OnSome}
use Rattle.skopeo_outside.proofs.PlaceLemmas.{some_earlier}
use Rattle.skopeo_outside.specs.declared.words.Fetched.{Fetched}
use Rattle.image_ref.specs.declared.place.Place.{Place}
use Rattle.image_ref.specs.declared.place.Place.TheVariants.{Docker, Dir, Oci}
use Rattle.digest_reader.specs.declared.job.Job.{Job}
use Rattle.copy_workers.specs.declared.cause.Cause.{Cause}
use Rattle.policy_file.specs.PolicyLists.{PolicyLists}
use Rattle.registries_conf.specs.Settings.{Settings}
use Rattle.transports.specs.declared.source.Source.{Source}
use Rattle.transports.specs.declared.source.Source.TheVariants as source
use Rattle.transports.specs.declared.dest.Dest.{Dest}
use Rattle.transports.specs.declared.dest.Dest.TheVariants.{Folder}
use Rattle.transports.specs.declared.plan.CopyPlan.{CopyPlan}
use Rattle.transports.specs.declared.report.Copied.{Copied}
use Rattle.transports.specs.declared.refusal.Refusal.{Refusal}
use Rattle.transports.specs.declared.found.Found.{Found}
use Rattle.transports.specs.Within.{Within}
use Rattle.transports.specs.Tried.{AreTried}
use Rattle.transports.specs.Names.{AreNamesTried}
use Rattle.transports.specs.declared.found.FoundImage.{FoundImage}
use Rattle.transports.specs.Stores.{StoreAt, store_of}
use Rattle.transports.specs.Given.{ManifestEnds, SignaturesEnd, BlobEnds}
use Rattle.transports.specs.Has.{HasBlob, IsReported, IsUntouched, OnlyAtDest, MayTake, RemovesInOrder}
use Rattle.transports.specs.Fair.{IsFairOn}
use Rattle.transports.specs.Writes.{Spot, AtPath, IsWrite, ShowsWrite, WritesNone, WritesNowhere}
use Rattle.transports.specs.Named.{IsNamed, AreSigned, IsAlone, AddsOnly, IsOfJobs}
use Rattle.transports.specs.StepEnds.{IsDone}
use Rattle.transports.proofs.WithinLemmas.{within_earlier}
use Rattle.transports.proofs.HasLemmas.{has_earlier, reported_earlier, untouched_then}
use Rattle.admission.specs.Admission.{Admission}
use Rattle.copy_engine.specs.Headline.{AnsweredAt, Answered, IsJudgedIn, IsOfPlan, IsCopied, ImageHeadline}
use Rattle.copy_engine.specs.Stops.{IsTouched, Leaves, IsGivenUp}
use Rattle.copy_engine.specs.Delivered.{Delivers}
use Rattle.skopeo_app.specs.Reads.{IsQuiet}
use Rattle.skopeo_app.proofs.ReadLemmas.{quiet_later, quiet_untouched}

-- a relation of told trees, from the same tree on
told_earlier : {A : Type 0} (R : A → A → Type 0) (x y z : Option A) → y ≡ x → Told R y z → Told R x z
told_earlier R x y z e r = subst (λ v. Told R v z) e r

some_told : {A : Type 0} (P : A → Type 0) (x y : Option A) → y ≡ x → IfSome y P → IfSome x P
some_told P x y e r = subst (λ v. IfSome v P) e r

-- ---- one lane

manifest_earlier : (s : Source) (part : Option (List ℕ)) (r : Result Fetched Refusal) (a b c : LaneTold) → IsQuiet a b → ManifestEnds s part b c r → ManifestEnds s part a c r
unfolding ManifestEnds
manifest_earlier (source.Folder path) part r a b c q h = some_told _ a.files.tree b.files.tree q.tree h
manifest_earlier (source.Registry reference) None (Ok fetched) a b c q h = within_earlier _ a b c (quiet_later a b q) h
manifest_earlier (source.Registry reference) None (Err e) a b c q h = absurd h
manifest_earlier (source.Registry reference) (Some digest) r a b c q h = absurd h

signatures_earlier : (s : Source) (store : Option StoreAt) (part : Option (List ℕ)) (r : Result (List (List ℕ)) Refusal) (a b c : LaneTold) → IsQuiet a b → SignaturesEnd s store part b c r → SignaturesEnd s store part a c r
unfolding SignaturesEnd
signatures_earlier (source.Folder path) store part r a b c q h = some_told _ a.files.tree b.files.tree q.tree h
signatures_earlier (source.Registry reference) None part r a b c q h = (h.0, later_then a b c (quiet_later a b q) h.1)
signatures_earlier (source.Registry reference) (Some store) part r a b c q h = within_earlier _ a b c (quiet_later a b q) h

blob_earlier : (s : Source) (job : Job) (r : Result (List ℕ) Cause) (a b c : LaneTold) → IsQuiet a b → BlobEnds s job b c r → BlobEnds s job a c r
unfolding BlobEnds
blob_earlier (source.Folder path) job r a b c q h = some_told _ a.files.tree b.files.tree q.tree h
blob_earlier (source.Registry reference) job r a b c q h = within_earlier _ a b c (quiet_later a b q) h

only_earlier : (to : Dest) (a b c : LaneTold) → IsQuiet a b → OnlyAtDest to b c → OnlyAtDest to a c
unfolding OnlyAtDest
only_earlier (Folder path) a b c q h = (told_earlier _ a.files.tree b.files.tree c.files.tree q.tree h.0, h.1 ∙ (quiet_untouched a b q).to)

may_earlier : (to : Dest) (a b : LaneTold) → IsQuiet a b → MayTake to b → MayTake to a
unfolding MayTake
may_earlier (Folder path) a b q h = some_told _ a.files.tree b.files.tree q.tree h

fair_earlier : (to : Dest) (lane : ℕ) (a b c : LaneTold) → IsQuiet a b → IsFairOn to lane b c → IsFairOn to lane a c
unfolding IsFairOn
fair_earlier (Folder path) lane a b c q h = told_earlier _ a.files.tree b.files.tree c.files.tree q.tree h

order_earlier : (to : Dest) (a b c : LaneTold) → IsQuiet a b → RemovesInOrder to b c → RemovesInOrder to a c
unfolding RemovesInOrder
order_earlier (Folder path) a b c q h = told_earlier _ a.files.tree b.files.tree c.files.tree q.tree h

none_earlier : (a b c : LaneTold) → IsQuiet a b → WritesNone b c → WritesNone a c
unfolding WritesNone
none_earlier a b c q h = told_earlier _ a.files.tree b.files.tree c.files.tree q.tree h

named_earlier : (to : Dest) (part : Option (List ℕ)) (bytes : List ℕ) (a b c : LaneTold) → IsQuiet a b → IsNamed to part bytes b c → IsNamed to part bytes a c
unfolding IsNamed
named_earlier (Folder path) part bytes a b c q h = told_earlier _ a.files.tree b.files.tree c.files.tree q.tree h

signed_earlier : (to : Dest) (part : Option (List ℕ)) (signatures : List (List ℕ)) (a b c : LaneTold) → IsQuiet a b → AreSigned to part signatures b c → AreSigned to part signatures a c
unfolding AreSigned
signed_earlier (Folder path) part signatures a b c q h = told_earlier _ a.files.tree b.files.tree c.files.tree q.tree h

alone_earlier : (to : Dest) (jobs : List Job) (signatures : List (List ℕ)) (a b c : LaneTold) → IsQuiet a b → IsAlone to jobs signatures b c → IsAlone to jobs signatures a c
unfolding IsAlone
alone_earlier (Folder path) jobs signatures a b c q h = told_earlier _ a.files.tree b.files.tree c.files.tree q.tree h

adds_earlier : (to : Dest) (Is : List ℕ → Type 0) (a b c : LaneTold) → IsQuiet a b → AddsOnly to Is b c → AddsOnly to Is a c
unfolding AddsOnly
adds_earlier (Folder path) Is a b c q h = told_earlier _ a.files.tree b.files.tree c.files.tree q.tree h

done_earlier : (s : Source) (to : Dest) (job : Job) (a b c : LaneTold) → IsQuiet a b → IsDone s to job b c → IsDone s to job a c
done_earlier s to job a b c q h = record { has = has_earlier to job a b c (quiet_later a b q) h.has; how = by h.how }
  where
    by : IsReported to job b c ⊎ ((bytes : List ℕ) × BlobEnds s job b c (Ok bytes)) → IsReported to job a c ⊎ ((bytes : List ℕ) × BlobEnds s job a c (Ok bytes))
    by (inl reported) = inl (reported_earlier to job a b c (quiet_later a b q) reported)
    by (inr given) = inr (given.0, blob_earlier s job (Ok given.0) a b c q given.1)

-- a manifest that was written was written since
pub write_later : (at : Spot) (bytes : List ℕ) (a b c : LaneTold) → IsQuiet a b → IsWrite a c at bytes → IsWrite b c at bytes
write_later (AtPath path) bytes a b c q h = subst (λ x. ShowsWrite x c.files.tree path bytes) (sym q.tree) h

-- ---- all lanes

abbrev pub AreQuiet : List LaneTold → List LaneTold → Type 0
AreQuiet old new = OnEach (λ place a b. IsQuiet a b) old new

module _ (x y z : List LaneTold) (quiet : AreQuiet x y) where
  pub each_earlier : (R : ℕ → LaneTold → LaneTold → Type 0) → ((place : ℕ) (a b c : LaneTold) → IsQuiet a b → R place b c → R place a c) → OnEach R y z → OnEach R x z
  each_earlier R step each = each_then (λ place a b. IsQuiet a b) R R step x y z quiet each

  pub some_before : (R : ℕ → LaneTold → LaneTold → Type 0) → ((place : ℕ) (a b c : LaneTold) → IsQuiet a b → R place b c → R place a c) → OnSome R y z → OnSome R x z
  some_before R step some = some_earlier (λ place a b. IsQuiet a b) R R step x y z quiet some

pub first_earlier : (R : LaneTold → LaneTold → Type 0) → ((a b c : LaneTold) → IsQuiet a b → R b c → R a c) → (x y z : List LaneTold) → AreQuiet x y → OnFirst R y z → OnFirst R x z
first_earlier R step [] y z quiet r = tt
first_earlier R step (a ∷ x) [] z quiet r = let e : 0 ≡ length (a ∷ x) = quiet.count in absurd (omega arith)
first_earlier R step (a ∷ x) (b ∷ y) [] quiet r = absurd r
first_earlier R step (a ∷ x) (b ∷ y) (c ∷ z) quiet r = step a b c (quiet.each 0 a b refl refl) r

-- ---- the source that answered

answered_earlier : (tls : Option Bool) (conf : Settings) (place : Place) (x y z : Seen) (found : Found) → AreQuiet x.lanes y.lanes → AnsweredAt tls conf place y z found → AnsweredAt tls conf place x z found
answered_earlier tls conf (Dir path) x y z found quiet answered = answered
answered_earlier tls conf (Docker r) x y z found quiet answered = record {
  sources = answered.sources;
  has = answered.has;
  tried = first_earlier (Within (λ a b. AreTried tls answered.sources a b (Ok found))) (λ a b c q w. within_earlier (λ a b. AreTried tls answered.sources a b (Ok found)) a b c (quiet_later a b q) w) x.lanes y.lanes z.lanes quiet answered.tried;
}
answered_earlier tls conf (Oci path name) x y z found quiet answered = absurd answered

image_earlier : (tls : Option Bool) (conf : Settings) (place : Place) (text : Option (List ℕ)) (x y z : Seen) (it : FoundImage) → AreQuiet x.lanes y.lanes → Answered tls conf place text y z it → Answered tls conf place text x z it
image_earlier tls conf place None x y z it quiet answered = (answered.0, answered_earlier tls conf place x y z it.found quiet answered.1)
image_earlier tls conf place (Some text) x y z it quiet answered = record {
  names = answered.names;
  stand = answered.stand;
  tried = first_earlier (Within (λ a b. AreNamesTried tls conf answered.names a b (Ok it))) (λ a b c q w. within_earlier (λ a b. AreNamesTried tls conf answered.names a b (Ok it)) a b c (quiet_later a b q) w) x.lanes y.lanes z.lanes quiet answered.tried;
}

-- ---- an image's copy

module _ (x y z : Seen) (quiet : AreQuiet x.lanes y.lanes) where
  pub untouched_earlier : OnEach (λ lane a b. IsUntouched a b) y.lanes z.lanes → OnEach (λ lane a b. IsUntouched a b) x.lanes z.lanes
  untouched_earlier same = each_earlier x.lanes y.lanes z.lanes quiet (λ lane a b. IsUntouched a b) (λ lane a b c q u. untouched_then a b c (quiet_untouched a b q) u) same

module _ (plan : CopyPlan) (x y z : Seen) (quiet : AreQuiet x.lanes y.lanes) where
  pub given_up_earlier : IsGivenUp plan y z → IsGivenUp plan x z
  unfolding IsGivenUp WritesNowhere
  given_up_earlier g = record {
    none = each_earlier x.lanes y.lanes z.lanes quiet (λ place a b. WritesNone a b) (λ place a b c q none. none_earlier a b c q none) g.none;
    order = λ to goes. first_earlier (RemovesInOrder to) (order_earlier to) x.lanes y.lanes z.lanes quiet (g.order to goes);
  }

module _ (policy : PolicyLists) (conf : Settings) (plan : CopyPlan) (x y z : Seen) (quiet : AreQuiet x.lanes y.lanes) (rests : y.helper ≡ x.helper) where
  judged_earlier : (image : Admission) → IsJudgedIn plan y z image → IsJudgedIn plan x z image
  judged_earlier image j = record {
    program = j.program;
    cwd = j.cwd;
    files = first_earlier (λ a b. image.files ≡ a.files.tree) (λ a b c q e. e ∙ q.tree) x.lanes y.lanes z.lanes quiet j.files;
    before = j.before ∙ ap (λ h. h.runs) rests;
    after = j.after;
  }

  of_plan_earlier : (from : Source) (image : Admission) → IsOfPlan policy conf plan y z from image → IsOfPlan policy conf plan x z from image
  of_plan_earlier from image of = record {
    under = of.under;
    answered = image_earlier plan.src_tls conf plan.source plan.short x y z (record { place = image.place; found = record { from = from; fetched = of.fetched } }) quiet of.answered;
    fetched = of.fetched;
    gave = first_earlier (λ a b. ManifestEnds from None a b (Ok of.fetched)) (manifest_earlier from None (Ok of.fetched)) x.lanes y.lanes z.lanes quiet of.gave;
    same = of.same;
    signed = first_earlier (λ a b. SignaturesEnd from (store_of plan image.place image.manifest) None a b (Ok image.signatures)) (signatures_earlier from (store_of plan image.place image.manifest) None (Ok image.signatures)) x.lanes y.lanes z.lanes quiet of.signed;
    judged = judged_earlier image of.judged;
    admitted = of.admitted;
  }

  copied_earlier : (at : Spot) (bytes : List ℕ) → IsCopied policy conf plan y z at bytes → IsCopied policy conf plan x z at bytes
  copied_earlier at bytes c = record {
    from = c.from;
    image = c.image;
    of_plan = of_plan_earlier c.from c.image c.of_plan;
    to = c.to;
    goes_to = c.goes_to;
    place = c.place;
    kind = c.kind;
    converted = c.converted;
    secured = λ k job e. some_before x.lanes y.lanes z.lanes quiet (λ place a b. HasBlob c.to job a b) (λ place a b d q h. has_earlier c.to job a b d (quiet_later a b q) h) (c.secured k job e);
  }

  pub headline_earlier : ImageHeadline policy conf plan y z → ImageHeadline policy conf plan x z
  headline_earlier headline lane a c at bytes ea ec write =
      let m = lane_at x.lanes y.lanes lane a quiet.count ea in
      copied_earlier at bytes (headline lane m.0 c at bytes m.1 ec (write_later at bytes a m.0 c (quiet.each lane a m.0 ea m.1) write))

  touched_earlier : IsTouched policy conf plan y z → IsTouched policy conf plan x z
  touched_earlier t = record {
    from = t.from;
    image = t.image;
    of_plan = of_plan_earlier t.from t.image t.of_plan;
    to = t.to;
    goes_to = t.goes_to;
    may = first_earlier (λ a b. MayTake t.to a) (λ a b c q may. may_earlier t.to a b q may) x.lanes y.lanes z.lanes quiet t.may;
    only = each_earlier x.lanes y.lanes z.lanes quiet (λ lane a b. OnlyAtDest t.to a b) (λ lane a b c q only. only_earlier t.to a b c q only) t.only;
    fair = each_earlier x.lanes y.lanes z.lanes quiet (IsFairOn t.to) (λ lane a b c q fair. fair_earlier t.to lane a b c q fair) t.fair;
  }

  pub leaves_earlier : Leaves policy conf plan y z → Leaves policy conf plan x z
  leaves_earlier (inl same) = inl (untouched_earlier x y z quiet same)
  leaves_earlier (inr touched) = inr (touched_earlier touched)

  pub delivers_earlier : (copied : Copied) → Delivers policy conf plan copied y z → Delivers policy conf plan copied x z
  delivers_earlier copied d = record {
    from = d.from;
    image = d.image;
    of_plan = of_plan_earlier d.from d.image d.of_plan;
    to = d.to;
    goes_to = d.goes_to;
    bytes = d.bytes;
    converted = d.converted;
    named = first_earlier (IsNamed d.to None d.bytes) (named_earlier d.to None d.bytes) x.lanes y.lanes z.lanes quiet d.named;
    signed = first_earlier (AreSigned d.to None d.image.signatures) (signed_earlier d.to None d.image.signatures) x.lanes y.lanes z.lanes quiet d.signed;
    alone = first_earlier (IsAlone d.to d.image.jobs d.image.signatures) (alone_earlier d.to d.image.jobs d.image.signatures) x.lanes y.lanes z.lanes quiet d.alone;
    others = each_earlier x.lanes y.lanes z.lanes quiet (λ place a b. (place ≡ 0) ⊎ AddsOnly d.to (IsOfJobs d.image.jobs) a b) adds d.others;
    done = λ k job lt e. some_before x.lanes y.lanes z.lanes quiet (λ place a b. IsDone d.from d.to job a b) (λ place a b c q done. done_earlier d.from d.to job a b c q done) (d.done k job lt e);
    told = d.told;
  }
    where
      adds : (place : ℕ) (a b c : LaneTold) → IsQuiet a b → (place ≡ 0) ⊎ AddsOnly d.to (IsOfJobs d.image.jobs) b c → (place ≡ 0) ⊎ AddsOnly d.to (IsOfJobs d.image.jobs) a c
      adds place a b c q (inl zero) = inl zero
      adds place a b c q (inr added) = inr (adds_earlier d.to (IsOfJobs d.image.jobs) a b c q added)
