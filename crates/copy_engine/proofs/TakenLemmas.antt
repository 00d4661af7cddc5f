-- What a source gave that was admitted, step by step.
use Rattle.std.proofs.Common.{◌≡◌, ◌≢◌, ◌∙◌, ◌<◌, ℕ, Bool, List, [], ◌∷◌, length, Option, Some, None, Result, Ok, Err, IfSome, inl, refl, sym, ap, subst, arith}
use Rattle.std.specs.Prelude.{⊤}
use Rattle.skopeo_outside.specs.Tree.{Tree}
use Rattle.skopeo_outside.specs.LaneTold.{LaneTold, IsLater}
use Rattle.skopeo_outside.specs.LaneLaws.{later_then}
use Rattle.skopeo_outside.specs.Seen.{HelperTold, Seen, OnFirst, OnEach}
use Rattle.skopeo_outside.specs.Steps.{given, Ends}
use Rattle.skopeo_outside.specs.declared.words.Fetched.{Fetched}
use Rattle.image_ref.specs.Reference.{Reference}
use Rattle.image_ref.specs.declared.place.Place.{Place}
use Rattle.image_ref.specs.declared.place.Place.TheVariants.{Docker, Dir, Oci}
use Rattle.layouts.specs.Names.{prefix_of}
use Rattle.layouts.specs.Source.{numbered, signatures_in}
use Rattle.policy_file.specs.PolicyLists.{PolicyLists}
use Rattle.registries_conf.specs.Settings.{Settings}
use Rattle.registries_conf.specs.IsSources.{HasSources}
use Rattle.registries_conf.specs.SourcesOf.{sources_of}
use Rattle.registries_conf.specs.declared.sources.Source.{Source as Location}
use Rattle.registries_conf.specs.declared.fault.SourcesFault.{SourcesFault}
use Rattle.registries_conf.specs.declared.fault.SourcesFault.TheVariants as blocked
use Rattle.registries_conf.proofs.SourcesLaw.{says_sources}
use Rattle.registries_conf.specs.Expand.{expand}
use Rattle.registries_conf.specs.IsExpanded.{StandsFor}
use Rattle.registries_conf.specs.declared.fault.ShortFault.{ShortFault}
use Rattle.registries_conf.specs.declared.fault.ShortFault.TheVariants as short
use Rattle.registries_conf.proofs.ExpandLaw.{says_expanded}
use Rattle.policy_gate.specs.declared.fault.GateFault.{GateFault}
use Rattle.transports.specs.declared.source.Source.{Source}
use Rattle.transports.specs.declared.source.Source.TheVariants as source
use Rattle.transports.specs.declared.dest.Dest.{Dest}
use Rattle.transports.specs.declared.dest.Dest.TheVariants as dest
use Rattle.transports.specs.declared.plan.CopyPlan.{CopyPlan}
use Rattle.transports.specs.declared.refusal.Refusal.{Refusal}
use Rattle.transports.specs.declared.refusal.Refusal.TheVariants as refusal
use Rattle.transports.specs.declared.refusal.Part.TheVariants as part
use Rattle.transports.specs.declared.found.Found.{Found}
use Rattle.transports.specs.declared.found.FoundImage.{FoundImage}
use Rattle.transports.specs.declared.attempt.Attempt.{Attempt}
use Rattle.transports.specs.Places.{AreApart, IsBetweenPlaces, GoesTo, dest_at}
use Rattle.transports.specs.Found.{by_sources, by_attempts, trying, in_folder, at_registries, found_for, found_as, by_expansion, by_names, trying_names, at_names, found_short, found_by, found}
use Rattle.transports.specs.Names.{AreNamesTried, as_named}
use Rattle.transports.specs.Tried.{AreTried}
use Rattle.transports.specs.Within.{Within}
use Rattle.transports.proofs.WithinLemmas.{within_earlier, within_later, within_as, within_now}
use Rattle.transports.proofs.TriedLemmas.{tried_gave, given_manifest}
use Rattle.transports.proofs.NameLemmas.{names_gave}
use Rattle.transports.specs.Courses.{call_course}
use Rattle.transports.specs.StepEnds.{reading}
use Rattle.transports.specs.Given.{ManifestEnds, StoredEnd, SignaturesEnd, by_folder}
use Rattle.transports.specs.Stores.{StoreAt, AreStored, store_of}
use Rattle.transports.specs.Has.{IsUntouched}
use Rattle.transports.proofs.GivenLemmas.{manifest_later, signatures_later}
use Rattle.transports.proofs.HasLemmas.{untouched_then}
use Rattle.transports.proofs.StoreLemmas.{stored_goes}
use Rattle.admission.specs.Admission.{Admission, IsAdmitted}
use Rattle.admission.specs.GateTold.{GateTold, on_lane}
use Rattle.admission.specs.Judged.{Submission, admission_of, refusal_of, taken_by, judging}
use Rattle.admission.specs.Taken.{TakenImage}
use Rattle.admission.specs.Walk.{submission, admission}
use Rattle.copy_engine.specs.Headline.{AnsweredAt, Answered, IsJudgedIn, IsOfPlan}
use Rattle.copy_engine.specs.Walk.{at_gate}
use Rattle.copy_engine.proofs.LiftLemmas.{first_then, first_of}
use Rattle.copy_engine.proofs.PlacedLemmas.{then_ok}

-- what lanes and a helper tell
abbrev pub outside : List LaneTold → HelperTold → Seen
outside lanes helper = record { lanes = lanes; helper = helper }

ok_same : {A E : Type 0} (x y : A) → ◌≡◌ {A = Result A E} (Ok x) (Ok y) → x ≡ y
ok_same x y e = cc

-- ---- the source that answered, and its manifest

-- the source that answered for a place, on one lane
abbrev pub AnswersFor : Option Bool → Settings → Place → Found → LaneTold → LaneTold → Type 0
AnswersFor tls conf (Dir path) it a b = it.from ≡ source.Folder path
AnswersFor tls conf (Docker r) it a b = (sources : List Location) × HasSources conf r (Ok sources) × Within (λ x y. AreTried tls sources x y (Ok it)) a b
AnswersFor tls conf (Oci path name) it a b = ⊥

-- what is known of how a lane went on where a source was read
abbrev GoesOnAt : Source → LaneTold → LaneTold → Type 0
GoesOnAt (source.Folder path) a b = Unit {0}
GoesOnAt (source.Registry r) a b = IsLater a b

record IsFound (tls : Option Bool) (conf : Settings) (place : Place) (it : Found) (a b : LaneTold) : Type 0 where
  answered : AnswersFor tls conf place it a b
  gave : ManifestEnds it.from None a b (Ok it.fetched)
  untouched : IsUntouched a b
  on : GoesOnAt it.from a b

by_ok : (x : Result Found (List Attempt)) (it : Found) → Ok it ≡ by_attempts x → x ≡ Ok it
by_ok (Ok found) it is = ap Ok (sym (ok_same {E = Refusal} it found is))
by_ok (Err attempts) it is = let no : ◌≡◌ {A = Result Found Refusal} (Ok it) (Err (refusal.NoSource attempts)) = is in cc

sources_ok : (x : Result (List Location) SourcesFault) (ss : List Location) → Ok ss ≡ by_sources x → x ≡ Ok ss
sources_ok (Ok sources) ss is = ap Ok (sym (ok_same {E = Refusal} ss sources is))
sources_ok (Err (blocked.Blocked n)) ss is = let no : ◌≡◌ {A = Result (List Location) Refusal} (Ok ss) (Err (refusal.Blocked n)) = is in cc
sources_ok (Err blocked.Memory) ss is = let no : ◌≡◌ {A = Result (List Location) Refusal} (Ok ss) (Err refusal.Memory) = is in cc

-- a folder
folder_is : (path : List ℕ) (a b : LaneTold) (it : Found) → in_folder path a b (Ok it) → (it.from ≡ source.Folder path) × ManifestEnds it.from None a b (Ok it.fetched) × IsUntouched a b
unfolding in_folder given
folder_is path a b it walk =
    let two = then_ok walk in
    let is : it ≡ record { from = source.Folder path; fetched = two.1 } = ok_same {E = Refusal} _ _ two.3.1 in
    let here : ManifestEnds (source.Folder path) None a b (Ok two.1) = subst (λ y. ManifestEnds (source.Folder path) None a y (Ok two.1)) (sym two.3.0) two.2.0 in
    let same : IsUntouched a b = subst (λ y. IsUntouched a y) (sym two.3.0) two.2.1 in
    (ap (λ (v : Found). v.from) is, subst (λ (v : Found). ManifestEnds v.from None a b (Ok v.fetched)) (sym is) here, same)

-- the sources of a reference
tried_is : (tls : Option Bool) (conf : Settings) (r : Reference) (a b : LaneTold) (it : Found) → at_registries tls conf r a b (Ok it) → (sources : List Location) × (sources_of conf r ≡ Ok sources) × AreTried tls sources a b (Ok it) × IsUntouched a b
unfolding at_registries given trying
tried_is tls conf r a b it walk =
    let one = then_ok walk in
    let here = one.3.0 in
    let tried : AreTried tls one.1 one.0 b (Ok it) = subst (AreTried tls one.1 one.0 b) (by_ok here.0 it here.2) here.1 in
    (one.1, sources_ok (sources_of conf r) one.1 one.2.1, subst (λ x. AreTried tls one.1 x b (Ok it)) one.2.0 tried, subst (λ x. IsUntouched x b) one.2.0 one.3.1)

found_is : (tls : Option Bool) (conf : Settings) (place : Place) (a b : LaneTold) (it : Found) → found_for tls conf place a b (Ok it) → IsFound tls conf place it a b
unfolding found_for given
found_is tls conf (Dir path) a b it walk = let f = folder_is path a b it walk in record { answered = f.0; gave = f.1; untouched = f.2; on = subst (λ s. GoesOnAt s a b) (sym f.0) tt }
found_is tls conf (Docker r) a b it walk =
    let t = tried_is tls conf r a b it walk in
    let g = tried_gave tls t.0 it a b t.2 in
    record { answered = (t.0, says_sources conf r (Ok t.0) t.1, within_now (λ x y. AreTried tls t.0 x y (Ok it)) a b t.2); gave = given_manifest it a b g; untouched = t.3; on = subst (λ s. GoesOnAt s a b) (sym g.from) g.later }
found_is tls conf (Oci path name) a b it walk = let no : ◌≡◌ {A = Result Found Refusal} (Ok it) (Err (refusal.NotBuilt part.Place)) = walk.1 in cc

-- ---- the image as which it was asked for

-- the same by whether a short name is given
abbrev pub ImageFor : Option Bool → Settings → Place → Option (List ℕ) → FoundImage → LaneTold → LaneTold → Type 0
ImageFor tls conf place None it a b = (it.place ≡ place) × AnswersFor tls conf place it.found a b
ImageFor tls conf place (Some text) it a b = (names : List Reference) × StandsFor conf text (Ok names) × Within (λ x y. AreNamesTried tls conf names x y (Ok it)) a b

record IsImage (tls : Option Bool) (conf : Settings) (place : Place) (text : Option (List ℕ)) (it : FoundImage) (a b : LaneTold) : Type 0 where
  answered : ImageFor tls conf place text it a b
  gave : ManifestEnds it.found.from None a b (Ok it.found.fetched)
  untouched : IsUntouched a b
  on : GoesOnAt it.found.from a b

-- a place
as_is : (tls : Option Bool) (conf : Settings) (place : Place) (a b : LaneTold) (it : FoundImage) → found_as tls conf place a b (Ok it) → (it.place ≡ place) × IsFound tls conf place it.found a b
unfolding found_as given
as_is tls conf place a b it walk =
    let one = then_ok walk in
    let is : it ≡ record { place = place; found = one.1 } = ok_same {E = Refusal} _ _ one.3.1 in
    let here : IsFound tls conf place one.1 a b = subst (λ y. IsFound tls conf place one.1 a y) (sym one.3.0) (found_is tls conf place a one.0 one.1 one.2) in
    (ap (λ (v : FoundImage). v.place) is, subst (λ (v : FoundImage). IsFound tls conf place v.found a b) (sym is) here)

-- names
record IsOfNames (tls : Option Bool) (conf : Settings) (names : List Reference) (it : FoundImage) (a b : LaneTold) : Type 0 where
  tried : Within (λ x y. AreNamesTried tls conf names x y (Ok it)) a b
  gave : ManifestEnds it.found.from None a b (Ok it.found.fetched)
  untouched : IsUntouched a b
  on : GoesOnAt it.found.from a b

by_names_ok : (x : Result FoundImage (List Attempt)) (it : FoundImage) → Ok it ≡ by_names x → x ≡ Ok it
by_names_ok (Ok image) it is = ap Ok (sym (ok_same {E = Refusal} it image is))
by_names_ok (Err attempts) it is = let no : ◌≡◌ {A = Result FoundImage Refusal} (Ok it) (Err (refusal.NoSource attempts)) = is in cc

several_is : (tls : Option Bool) (conf : Settings) (names : List Reference) (a b : LaneTold) (it : FoundImage) → reading (trying_names tls conf names) a b (Ok it) → IsOfNames tls conf names it a b
unfolding trying_names
several_is tls conf names a b it walk =
    let here = walk.0 in
    let tried : AreNamesTried tls conf names a b (Ok it) = subst (AreNamesTried tls conf names a b) (by_names_ok here.0 it here.2) here.1 in
    let g = names_gave tls conf names it a b tried in
    record { tried = within_now (λ x y. AreNamesTried tls conf names x y (Ok it)) a b tried; gave = given_manifest it.found a b g; untouched = walk.1; on = subst (λ s. GoesOnAt s a b) (sym g.from) g.later }

one_is : (tls : Option Bool) (conf : Settings) (r : Reference) (a b : LaneTold) (it : FoundImage) → found_as tls conf (Docker r) a b (Ok it) → IsOfNames tls conf (r ∷ []) it a b
one_is tls conf r a b it walk =
    let p = as_is tls conf (Docker r) a b it walk in
    let sources = p.1.answered in
    let same : it ≡ as_named r it.found = ap (λ (q : Place). record { place = q; found = it.found }) p.0 in
    record {
      tried = within_as (λ x y. AreTried tls sources.0 x y (Ok it.found)) (λ x y. AreNamesTried tls conf (r ∷ []) x y (Ok it)) (λ x y tried. inl (it.found, (Ok sources.0, sources.1, tried), ap Ok same)) a b sources.2;
      gave = p.1.gave;
      untouched = p.1.untouched;
      on = p.1.on;
    }

names_are : (tls : Option Bool) (conf : Settings) (names : List Reference) (a b : LaneTold) (it : FoundImage) → at_names tls conf names a b (Ok it) → IsOfNames tls conf names it a b
unfolding at_names
names_are tls conf [] a b it walk = several_is tls conf [] a b it walk
names_are tls conf (r ∷ []) a b it walk = one_is tls conf r a b it walk
names_are tls conf (r ∷ other ∷ more) a b it walk = several_is tls conf (r ∷ other ∷ more) a b it walk

-- a short name
names_ok : (text : List ℕ) (x : Result (List Reference) ShortFault) (names : List Reference) → Ok names ≡ by_expansion text x → x ≡ Ok names
names_ok text (Ok rs) names is = ap Ok (sym (ok_same {E = Refusal} names rs is))
names_ok text (Err (short.Ambiguous count)) names is = let no : ◌≡◌ {A = Result (List Reference) Refusal} (Ok names) (Err (refusal.ShortName text count)) = is in cc
names_ok text (Err short.NoRegistry) names is = let no : ◌≡◌ {A = Result (List Reference) Refusal} (Ok names) (Err (refusal.ShortName text 0)) = is in cc
names_ok text (Err (short.Ref joined fault)) names is = let no : ◌≡◌ {A = Result (List Reference) Refusal} (Ok names) (Err (refusal.BadReference joined fault)) = is in cc
names_ok text (Err short.Memory) names is = let no : ◌≡◌ {A = Result (List Reference) Refusal} (Ok names) (Err refusal.Memory) = is in cc

short_is : (tls : Option Bool) (conf : Settings) (place : Place) (text : List ℕ) (a b : LaneTold) (it : FoundImage) → found_short tls conf text a b (Ok it) → IsImage tls conf place (Some text) it a b
unfolding found_short given
short_is tls conf place text a b it walk =
    let one = then_ok walk in
    let stand = says_expanded conf text (Ok one.1) (names_ok text (expand conf text) one.1 one.2.1) in
    let of : IsOfNames tls conf one.1 it a b = subst (λ x. IsOfNames tls conf one.1 it x b) one.2.0 (names_are tls conf one.1 one.0 b it one.3) in
    record { answered = (one.1, stand, of.tried); gave = of.gave; untouched = of.untouched; on = of.on }

image_is : (tls : Option Bool) (conf : Settings) (place : Place) (text : Option (List ℕ)) (a b : LaneTold) (it : FoundImage) → found_by tls conf place text a b (Ok it) → IsImage tls conf place text it a b
image_is tls conf place None a b it walk = let p = as_is tls conf place a b it walk in record { answered = (p.0, p.1.answered); gave = p.1.gave; untouched = p.1.untouched; on = p.1.on }
image_is tls conf place (Some text) a b it walk = short_is tls conf place text a b it walk

-- the source that answered for a reference is a registry
from_registry : (tls : Option Bool) (sources : List Location) (it : Found) (a b x y : LaneTold) → AreTried tls sources a b (Ok it) → GoesOnAt it.from x y → IsLater x y
from_registry tls sources it a b x y tried on = let g = tried_gave tls sources it a b tried in subst (λ s. GoesOnAt s x y) g.from on

-- it answered for its place however the lane went on
answers_on : (tls : Option Bool) (conf : Settings) (place : Place) (it : Found) (a b c : LaneTold) → AnswersFor tls conf place it a b → GoesOnAt it.from b c → AnswersFor tls conf place it a c
answers_on tls conf (Dir path) it a b c is on = is
answers_on tls conf (Docker r) it a b c is on = (is.0, is.1, within_later (λ x y. AreTried tls is.0 x y (Ok it)) a b c is.2 (from_registry tls is.0 it is.2.first is.2.last b c is.2.is on))
answers_on tls conf (Oci path name) it a b c is on = is

image_on : (tls : Option Bool) (conf : Settings) (place : Place) (text : Option (List ℕ)) (it : FoundImage) (a b c : LaneTold) → ImageFor tls conf place text it a b → GoesOnAt it.found.from b c → ImageFor tls conf place text it a c
image_on tls conf place None it a b c is on = (is.0, answers_on tls conf place it.found a b c is.1 on)
image_on tls conf place (Some text) it a b c is on =
    let g = names_gave tls conf is.0 it is.2.first is.2.last is.2.is in
    (is.0, is.1, within_later (λ x y. AreNamesTried tls conf is.0 x y (Ok it)) a b c is.2 (subst (λ s. GoesOnAt s b c) g.from on))

pub answers_later : (tls : Option Bool) (conf : Settings) (place : Place) (it : Found) (a b c : LaneTold) → AnswersFor tls conf place it a b → IsLater b c → AnswersFor tls conf place it a c
answers_later tls conf (Dir path) it a b c is later = is
answers_later tls conf (Docker r) it a b c is later = (is.0, is.1, within_later (λ x y. AreTried tls is.0 x y (Ok it)) a b c is.2 later)
answers_later tls conf (Oci path name) it a b c is later = is

manifest_on : (s : Source) (a b c : LaneTold) (r : Result Fetched Refusal) → ManifestEnds s None a b r → GoesOnAt s b c → ManifestEnds s None a c r
unfolding ManifestEnds
manifest_on (source.Folder path) a b c r ends on = ends
manifest_on (source.Registry reference) a b c r ends on = manifest_later (source.Registry reference) None a b c r ends on

-- where it went on, it is known to have gone on there
goes_at : (s : Source) (a b : LaneTold) → IsLater a b → GoesOnAt s a b
goes_at (source.Folder path) a b later = tt
goes_at (source.Registry reference) a b later = later

stored_on : (store : Option StoreAt) (a b : LaneTold) (r : Result (List (List ℕ)) Refusal) → StoredEnd store a b r → IsLater a b
stored_on None a b r ends = ends.1
stored_on (Some store) a b r ends = later_then a ends.first b ends.before (later_then ends.first ends.last b (stored_goes store ends.first ends.last r ends.is) ends.after)

signatures_on : (s : Source) (store : Option StoreAt) (a b : LaneTold) (r : Result (List (List ℕ)) Refusal) → SignaturesEnd s store None a b r → GoesOnAt s a b
unfolding SignaturesEnd
signatures_on (source.Folder path) store a b r ends = tt
signatures_on (source.Registry reference) store a b r ends = stored_on store a b r ends

-- ---- the whole walk on one lane

stored_earlier : (store : Option StoreAt) (a b c : LaneTold) (r : Result (List (List ℕ)) Refusal) → IsLater a b → StoredEnd store b c r → StoredEnd store a c r
stored_earlier None a b c r on ends = (ends.0, later_then a b c on ends.1)
stored_earlier (Some store) a b c r on ends = within_earlier (λ x y. AreStored store x y r) a b c on ends

signatures_earlier : (from : Source) (store : Option StoreAt) (part : Option (List ℕ)) (a b c : LaneTold) (r : Result (List (List ℕ)) Refusal) → IsUntouched a b → GoesOnAt from a b → SignaturesEnd from store part b c r → SignaturesEnd from store part a c r
unfolding SignaturesEnd
signatures_earlier (source.Folder path) store part a b c r same on ends = subst (λ (x : Option Tree). IfSome x (λ t. r ≡ by_folder path (signatures_in (numbered t path (prefix_of part))))) same.files ends
signatures_earlier (source.Registry reference) store part a b c r same on ends = stored_earlier store a b c r on ends

-- the source answered for the image as it is named, and it gave this manifest and these signatures
record IsSubmitted (conf : Settings) (plan : CopyPlan) (s : Submission) (fetched : Fetched) (a b : LaneTold) : Type 0 where
  answered : ImageFor plan.src_tls conf plan.source plan.short (record { place = s.place; found = record { from = s.from; fetched = fetched } }) a b
  same : s.manifest ≡ fetched.bytes
  gave : ManifestEnds s.from None a b (Ok fetched)
  signed : SignaturesEnd s.from (store_of plan s.place s.manifest) None a b (Ok s.signatures)
  untouched : IsUntouched a b

submitted_is : (conf : Settings) (plan : CopyPlan) (a b : LaneTold) (s : Submission) → submission plan conf a b (Ok s) → (fetched : Fetched) × IsSubmitted conf plan s fetched a b
unfolding submission given found
submitted_is conf plan a b s walk =
    let one = then_ok walk in
    let kind = then_ok one.3 in
    let image = then_ok kind.3 in
    let signatures = then_ok image.3 in
    let last = signatures.3 in
    let it = one.1 in
    let fetched = it.found.fetched in
    let from = it.found.from in
    let store = store_of plan it.place fetched.bytes in
    let source = image_is plan.src_tls conf plan.source plan.short a one.0 it one.2 in
    let is : s ≡ record { from = from; place = it.place; manifest = fetched.bytes; kind = kind.1; image = image.1; signatures = signatures.1 } = ok_same {E = Refusal} _ _ last.1 in
    let start : image.0 ≡ one.0 = image.2.0 ∙ kind.2.0 in
    let read : SignaturesEnd from store None one.0 b (Ok signatures.1) =
    subst (λ x. SignaturesEnd from store None x b (Ok signatures.1)) start (subst (λ y. SignaturesEnd from store None image.0 y (Ok signatures.1)) (sym last.0) signatures.2.0) in
    let rests : IsUntouched one.0 b = subst (λ x. IsUntouched x b) start (subst (λ y. IsUntouched image.0 y) (sym last.0) signatures.2.1) in
    let behind : GoesOnAt from one.0 b = signatures_on from store one.0 b (Ok signatures.1) read in (
      fetched,
      record {
        answered = subst (λ (v : Submission). ImageFor plan.src_tls conf plan.source plan.short (record { place = v.place; found = record { from = v.from; fetched = fetched } }) a b) (sym is) (image_on plan.src_tls conf plan.source plan.short it a one.0 b source.answered behind);
        same = ap (λ (v : Submission). v.manifest) is;
        gave = subst (λ (v : Submission). ManifestEnds v.from None a b (Ok fetched)) (sym is) (manifest_on from a one.0 b (Ok fetched) source.gave behind);
        signed = subst (λ (v : Submission). SignaturesEnd v.from (store_of plan v.place v.manifest) None a b (Ok v.signatures)) (sym is) (signatures_earlier from store None a one.0 b (Ok signatures.1) source.untouched source.on read);
        untouched = untouched_then a one.0 b source.untouched rests;
      },
    )

-- it was judged there: by the plan's verifier, over the files as they were, and the runs that the helper gained
record IsJudgedAt (plan : CopyPlan) (image : Admission) (a b : GateTold) : Type 0 where
  program : image.program ≡ plan.verifier
  cwd : image.cwd ≡ plan.cwd
  files : image.files ≡ a.lane.files.tree
  before : image.before ≡ a.helper.runs
  after : image.after ≡ b.helper.runs

-- the same of the image that was admitted
record IsTaken (policy : PolicyLists) (conf : Settings) (plan : CopyPlan) (from : Source) (image : Admission) (fetched : Fetched) (a b : GateTold) : Type 0 where
  answered : ImageFor plan.src_tls conf plan.source plan.short (record { place = image.place; found = record { from = from; fetched = fetched } }) a.lane b.lane
  under : image.policy ≡ policy
  same : image.manifest ≡ fetched.bytes
  gave : ManifestEnds from None a.lane b.lane (Ok fetched)
  signed : SignaturesEnd from (store_of plan image.place image.manifest) None a.lane b.lane (Ok image.signatures)
  judged : IsJudgedAt plan image a b

taken_ok : (plan : CopyPlan) (policy : PolicyLists) (s : Submission) (m b : GateTold) (answer : Result ⊤ GateFault) (it : TakenImage) → Ok it ≡ taken_by plan policy s m b answer → it ≡ record { from = s.from; image = admission_of plan policy s m b }
taken_ok plan policy s m b (Ok done) it is = ok_same {E = Refusal} _ _ is
taken_ok plan policy s m b (Err fault) it is = let no : ◌≡◌ {A = Result TakenImage Refusal} (Ok it) (Err (refusal_of b.lane.files.faults b.helper.faults fault)) = is in cc

judged_at : (plan : CopyPlan) (policy : PolicyLists) (s : Submission) (a m b : GateTold) → IsUntouched a.lane m.lane → m.helper ≡ a.helper → IsJudgedAt plan (admission_of plan policy s m b) a b
judged_at plan policy s a m b same rests = record { program = refl; cwd = refl; files = same.files; before = ap (λ (h : HelperTold). h.runs) rests; after = refl }

taken_is : (policy : PolicyLists) (conf : Settings) (plan : CopyPlan) (a b : GateTold) (it : TakenImage) → admission plan conf policy a b (Ok it) → (fetched : Fetched) × IsTaken policy conf plan it.from it.image fetched a b
unfolding admission on_lane judging Ends
taken_is policy conf plan a b it walk =
    let one = then_ok walk in
    let m = one.0 in
    let s = one.1 in
    let sub = submitted_is conf plan a.lane m.lane s one.2.0.ends in
    let fetched = sub.0 in
    let is : it ≡ record { from = s.from; image = admission_of plan policy s m b } = taken_ok plan policy s m b one.3.answer it one.3.is in
    let later : IsLater m.lane b.lane = one.3.later.lane in (
      fetched,
      subst (λ (v : TakenImage). IsTaken policy conf plan v.from v.image fetched a b) (sym is)
          (record {
            answered = image_on plan.src_tls conf plan.source plan.short _ a.lane m.lane b.lane sub.1.answered (goes_at s.from m.lane b.lane later);
            under = refl;
            same = sub.1.same;
            gave = manifest_later s.from None a.lane m.lane b.lane (Ok fetched) sub.1.gave later;
            signed = signatures_later s.from (store_of plan s.place s.manifest) None a.lane m.lane b.lane (Ok s.signatures) sub.1.signed later;
            judged = judged_at plan policy s a m b sub.1.untouched one.2.1;
          }),
    )

-- ---- the same on the first lane of all

answered_on : (was now : HelperTold) → (tls : Option Bool) (conf : Settings) (place : Place) (it : Found) (a b : LaneTold) (x y : List LaneTold) → AnswersFor tls conf place it a b → AnsweredAt tls conf place (outside (a ∷ x) was) (outside (b ∷ y) now) it
answered_on was now tls conf (Dir path) it a b x y is = is
answered_on was now tls conf (Docker r) it a b x y is = record { sources = is.0; has = is.1; tried = is.2 }
answered_on was now tls conf (Oci path name) it a b x y is = is

answered_still : (was now : HelperTold) → (tls : Option Bool) (conf : Settings) (place : Place) (it : Found) (x y z : List LaneTold) → OnFirst IsLater y z → AnsweredAt tls conf place (outside x was) (outside y now) it → AnsweredAt tls conf place (outside x was) (outside z now) it
answered_still was now tls conf (Dir path) it x y z later is = is
answered_still was now tls conf (Docker r) it x y z later is = record {
  sources = is.sources;
  has = is.has;
  tried = (let R : LaneTold → LaneTold → Type 0 = λ a b. AreTried tls is.sources a b (Ok it) in first_then (Within R) IsLater (Within R) (within_later R) x y z is.tried later);
}
answered_still was now tls conf (Oci path name) it x y z later is = is

image_answered : (was now : HelperTold) → (tls : Option Bool) (conf : Settings) (place : Place) (text : Option (List ℕ)) (it : FoundImage) (a b : LaneTold) (x y : List LaneTold) → ImageFor tls conf place text it a b → Answered tls conf place text (outside (a ∷ x) was) (outside (b ∷ y) now) it
image_answered was now tls conf place None it a b x y is = (is.0, answered_on was now tls conf place it.found a b x y is.1)
image_answered was now tls conf place (Some text) it a b x y is = record { names = is.0; stand = is.1; tried = is.2 }

image_still : (was now : HelperTold) → (tls : Option Bool) (conf : Settings) (place : Place) (text : Option (List ℕ)) (it : FoundImage) (x y z : List LaneTold) → OnFirst IsLater y z → Answered tls conf place text (outside x was) (outside y now) it → Answered tls conf place text (outside x was) (outside z now) it
image_still was now tls conf place None it x y z later is = (is.0, answered_still was now tls conf place it.found x y z later is.1)
image_still was now tls conf place (Some text) it x y z later is = record {
  names = is.names;
  stand = is.stand;
  tried = (let R : LaneTold → LaneTold → Type 0 = λ a b. AreNamesTried tls conf is.names a b (Ok it) in first_then (Within R) IsLater (Within R) (within_later R) x y z is.tried later);
}

pub record HasTaken (policy : PolicyLists) (conf : Settings) (plan : CopyPlan) (from : Source) (image : Admission) (old new : Seen) : Type 0 where
  pub fetched : Fetched
  pub answered : Answered plan.src_tls conf plan.source plan.short old new (record { place = image.place; found = record { from = from; fetched = fetched } })
  pub under : image.policy ≡ policy
  pub same : image.manifest ≡ fetched.bytes
  pub gave : OnFirst (λ a b. ManifestEnds from None a b (Ok fetched)) old.lanes new.lanes
  pub signed : OnFirst (λ a b. SignaturesEnd from (store_of plan image.place image.manifest) None a b (Ok image.signatures)) old.lanes new.lanes
  pub judged : IsJudgedIn plan old new image

pub taken_on : (policy : PolicyLists) (conf : Settings) (plan : CopyPlan) (was now : HelperTold) (x y : List LaneTold) (it : TakenImage) → 0 < length x → Ends call_course (at_gate (admission plan conf policy)) (outside x was) (outside y now) (Ok it) → HasTaken policy conf plan it.from it.image (outside x was) (outside y now)
unfolding Ends at_gate
taken_on policy conf plan was now [] y it some ends = absurd (omega arith)
taken_on policy conf plan was now (a ∷ x) [] it some ends = absurd ends.ends.0
taken_on policy conf plan was now (a ∷ x) (b ∷ y) it some ends =
    let t = taken_is policy conf plan (record { lane = a; helper = was }) (record { lane = b; helper = now }) it ends.ends.0.ends in
    let j = t.1.judged in
    record {
      fetched = t.0;
      answered = image_answered was now plan.src_tls conf plan.source plan.short _ a b x y t.1.answered;
      under = t.1.under;
      same = t.1.same;
      gave = t.1.gave;
      signed = t.1.signed;
      judged = record { program = j.program; cwd = j.cwd; files = j.files; before = j.before; after = j.after };
    }

-- it is an image of the plan, however the lanes went on while the helper rested
pub of_plan : (policy : PolicyLists) (conf : Settings) (plan : CopyPlan) (from : Source) (image : Admission) (was now : HelperTold) (x y z : List LaneTold) → HasTaken policy conf plan from image (outside x was) (outside y now) → IsAdmitted image → OnEach (λ place a b. IsLater a b) y z → IsOfPlan policy conf plan (outside x was) (outside z now) from image
of_plan policy conf plan from image was now x y z taken admitted later =
    let on : OnFirst IsLater y z = first_of (λ place a b. IsLater a b) y z later in
    let Gave : LaneTold → LaneTold → Type 0 = λ a b. ManifestEnds from None a b (Ok taken.fetched) in
    let Signed : LaneTold → LaneTold → Type 0 = λ a b. SignaturesEnd from (store_of plan image.place image.manifest) None a b (Ok image.signatures) in
    let Read : LaneTold → LaneTold → Type 0 = λ a b. image.files ≡ a.files.tree in
    record {
      under = taken.under;
      fetched = taken.fetched;
      answered = image_still was now plan.src_tls conf plan.source plan.short _ x y z on taken.answered;
      gave = first_then Gave IsLater Gave (λ a b c m l. manifest_later from None a b c (Ok taken.fetched) m l) x y z taken.gave on;
      same = taken.same;
      signed = first_then Signed IsLater Signed (λ a b c m l. signatures_later from (store_of plan image.place image.manifest) None a b c (Ok image.signatures) m l) x y z taken.signed on;
      judged = record {
        program = taken.judged.program;
        cwd = taken.judged.cwd;
        files = first_then Read IsLater Read (λ a b c f l. f) x y z taken.judged.files on;
        before = taken.judged.before;
        after = taken.judged.after;
      };
      admitted = admitted;
    }

-- ---- and it comes from another place than it goes to

registry_apart : (s : Source) (r : Reference) (d : Dest) → s ≡ source.Registry r → AreApart s d
unfolding AreApart
registry_apart s r d is = subst (λ x. AreApart x d) (sym is) (apart d)
  where
    apart : (d : Dest) → AreApart (source.Registry r) d
    apart (dest.Folder path) = tt

folders_apart : (s : Source) (path : List ℕ) (d : Dest) (to : Place) → s ≡ source.Folder path → to ≢ Dir path → GoesTo to d → AreApart s d
unfolding AreApart
folders_apart s path (dest.Folder y) to is other goes = subst (λ x. AreApart x (dest.Folder y)) (sym is) (apart to goes other)
  where
    apart : (to : Place) → dest_at to ≡ Ok (dest.Folder y) → to ≢ Dir path → AreApart (source.Folder path) (dest.Folder y)
    apart (Docker r) goes other = let no : ◌≡◌ {A = Result Dest Refusal} (dest_at (Docker r)) (Ok (dest.Folder y)) = goes in cc
    apart (Oci p n) goes other = let no : ◌≡◌ {A = Result Dest Refusal} (dest_at (Oci p n)) (Ok (dest.Folder y)) = goes in cc
    apart (Dir b) goes other = λ same. other (ap Dir (let q : dest.Folder b ≡ dest.Folder y = ok_same {E = Refusal} _ _ goes in cc))

-- a registry that answered is none of the destination's folder
first_from : (tls : Option Bool) (sources : List Location) (it : Found) (x y : List LaneTold) → 0 < length x → OnFirst (Within (λ a b. AreTried tls sources a b (Ok it))) x y → (r : Reference) × (it.from ≡ source.Registry r)
first_from tls sources it [] y some on = absurd (omega arith)
first_from tls sources it (a ∷ x) [] some on = absurd on
first_from tls sources it (a ∷ x) (b ∷ y) some on = let g = tried_gave tls sources it on.first on.last on.is in (g.reference, g.from)

-- nor is one that answered for a name
first_named : (tls : Option Bool) (conf : Settings) (names : List Reference) (it : FoundImage) (x y : List LaneTold) → 0 < length x → OnFirst (Within (λ a b. AreNamesTried tls conf names a b (Ok it))) x y → (r : Reference) × (it.found.from ≡ source.Registry r)
first_named tls conf names it [] y some on = absurd (omega arith)
first_named tls conf names it (a ∷ x) [] some on = absurd on
first_named tls conf names it (a ∷ x) (b ∷ y) some on = let g = names_gave tls conf names it on.first on.last on.is in (g.reference, g.from)

pub apart_of : (policy : PolicyLists) (conf : Settings) (plan : CopyPlan) (from : Source) (image : Admission) (to : Dest) (was now : HelperTold) (x y : List LaneTold) → 0 < length x → IsBetweenPlaces plan → HasTaken policy conf plan from image (outside x was) (outside y now) → GoesTo plan.dest to → AreApart from to
apart_of policy conf plan from image to was now x y some between taken goes = by_short plan.short taken.answered
  where
    by : (s : Place) → AnsweredAt plan.src_tls conf s (outside x was) (outside y now) (record { from = from; fetched = taken.fetched }) → ((path : List ℕ) → s ≡ Dir path → plan.dest ≢ Dir path) → AreApart from to
    by (Dir path) is apart = folders_apart from path to plan.dest is (apart path refl) goes
    by (Docker r) is apart = let f = first_from plan.src_tls is.sources _ x y some is.tried in registry_apart from f.0 to f.1
    by (Oci path name) is apart = absurd is

    by_short : (text : Option (List ℕ)) → Answered plan.src_tls conf plan.source text (outside x was) (outside y now) (record { place = image.place; found = record { from = from; fetched = taken.fetched } }) → AreApart from to
    by_short None is = by plan.source is.1 between
    by_short (Some text) is = let f = first_named plan.src_tls conf is.names _ x y some is.tried in registry_apart from f.0 to f.1
