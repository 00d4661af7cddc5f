-- Sources that are tried in order.
use Rattle.std.proofs.Common.{◌≡◌, ◌∙◌, ◌++◌, ◌∷◌, [], ℕ, suc, ◌+◌, ◌<◌, ◌≤◌, Bool, true, false, List, Option, Some, None, Result, Ok, Err, length, drop, get_or, inl, inr, refl, sym, ap, subst, append_assoc, arith}
use Rattle.std.proofs.Math.Seq.{drop-cons}
use Rattle.std.proofs.lemmas.List.{drop_all}
use Rattle.skopeo_outside.specs.LaneTold.{LaneTold, IsLater}
use Rattle.skopeo_outside.specs.LaneLaws.{later_same, later_then}
use Rattle.skopeo_outside.specs.declared.words.Fetched.{Fetched}
use Rattle.image_ref.specs.Reference.{Reference}
use Rattle.skopeo_outside.specs.Steps.{Ends}
use Rattle.registries_conf.specs.declared.sources.Source.{Source}
use Rattle.transports.specs.declared.attempt.Attempt.{Attempt}
use Rattle.transports.specs.declared.attempt.AttemptCause.{AttemptCause}
use Rattle.transports.specs.declared.attempt.AttemptCause.TheVariants as why
use Rattle.transports.specs.declared.source.Source.{Source as From}
use Rattle.transports.specs.declared.source.Source.TheVariants as source
use Rattle.transports.specs.declared.found.Found.{Found}
use Rattle.transports.specs.declared.refusal.Refusal.TheVariants as refusal
use Rattle.transports.specs.Courses.{lane_course}
use Rattle.transports.specs.Found.{trying}
use Rattle.transports.specs.Has.{IsUntouched}
use Rattle.transports.specs.StepEnds.{reading}
use Rattle.transports.specs.Given.{ManifestEnds, Spares}
use Rattle.transports.specs.Tried.{OnSource, IsBy, AsksManifest, IsTriedBy, IsTried, AreTried, found_at, may_ask, behind}
use Rattle.transports.specs.Within.{Within}
use Rattle.std.specs.Prelude.{IfOk}
use Rattle.skopeo_outside.specs.declared.stop.Memory.{Memory}
use Rattle.skopeo_outside.specs.declared.words.Step.TheVariants as step
use Rattle.registry_http.specs.declared.fault.RegistryFault.{RegistryFault}
use Rattle.registry_http.specs.declared.registry.Registry.{Registry}
use Rattle.registry_http.specs.Requests.{manifest_request}
use Rattle.registry_http.specs.Rows.{manifest_row}
use Rattle.registry_http.specs.Steps.{Steps, CountsStep, most_manifest_bytes}
use Rattle.transports.specs.Registries.{registry_of, name_in}
use Rattle.transports.proofs.RegistryLemmas.{steps_later}
use Rattle.transports.proofs.WithinLemmas.{within_earlier, within_now}

-- failed attempts ahead of what came of the other sources
abbrev pub ahead : List Attempt → Result Found (List Attempt) → Result Found (List Attempt)
ahead attempts (Ok found) = Ok found
ahead attempts (Err more) = Err (attempts ++ more)

-- these attempts failed between two told states: what comes of the sources that are left comes of all, behind the attempts
pub record AreFailed (tls : Option Bool) (all left : List Source) (old now : LaneTold) (attempts : List Attempt) : Type 0 where
  pub rest : (new : LaneTold) (r : Result Found (List Attempt)) → AreTried tls left now new r → AreTried tls all old new (ahead attempts r)

ahead_none : (r : Result Found (List Attempt)) → ahead [] r ≡ r
ahead_none (Ok found) = refl
ahead_none (Err more) = refl

pub none_failed : (tls : Option Bool) (all : List Source) (old : LaneTold) (attempts : List Attempt) → attempts ≡ [] → AreFailed tls all all old old attempts
none_failed tls all old attempts is = record { rest = λ new r tried. subst (λ (l : List Attempt). AreTried tls all old new (ahead l r)) (sym is) (subst (AreTried tls all old new) (sym (ahead_none r)) tried) }

ahead_one : (attempts : List Attempt) (attempt : Attempt) (r : Result Found (List Attempt)) → ahead attempts (behind attempt r) ≡ ahead (attempts ++ attempt ∷ []) r
ahead_one attempts attempt (Ok found) = refl
ahead_one attempts attempt (Err more) = ap Err (sym (append_assoc attempts (attempt ∷ []) more))

-- one more failed
pub more_failed : (tls : Option Bool) (all : List Source) (s : Source) (left : List Source) (old mid now : LaneTold) (attempts : List Attempt) (cause : AttemptCause) → AreFailed tls all (s ∷ left) old mid attempts → IsTried tls s mid now (Err cause)
    → AreFailed tls all left old now (attempts ++ (record { source = s.text; cause = cause }) ∷ [])
more_failed tls all s left old mid now attempts cause so tried = record {
  rest = λ new r more. subst (AreTried tls all old new) (ahead_one attempts (record { source = s.text; cause = cause }) r) (so.rest new (behind (record { source = s.text; cause = cause }) r) (inr (now, cause, r, tried, more, refl)));
}

-- the source at a place of the list
source_here : (all : List Source) (i : ℕ) (d s : Source) → i < length all → get_or all i d ≡ s → drop i all ≡ s ∷ drop (suc i) all
source_here all i d s lt is = drop-cons all i d lt ∙ ap (λ x. x ∷ drop (suc i) all) is

-- one answered
pub one_answered : (tls : Option Bool) (all : List Source) (s : Source) (left : List Source) (old mid now : LaneTold) (attempts : List Attempt) (found : Found) → AreFailed tls all (s ∷ left) old mid attempts → IsTried tls s mid now (Ok found)
    → AreTried tls all old now (Ok found)
one_answered tls all s left old mid now attempts found so tried = so.rest now (Ok found) (inl (found, tried, refl))

-- none is left
pub all_failed : (tls : Option Bool) (all : List Source) (old now : LaneTold) (attempts : List Attempt) → AreFailed tls all [] old now attempts → AreTried tls all old now (Err attempts)
all_failed tls all old now attempts so = subst (AreTried tls all old now) (ap Err (nil attempts)) (so.rest now (Err []) (refl, refl))
  where
    nil : (t : List Attempt) → t ++ [] ≡ t
    nil [] = refl
    nil (x ∷ t) = ap (λ s. x ∷ s) (nil t)

-- the same by places
pub next_failed : (tls : Option Bool) (all : List Source) (i : ℕ) (d s : Source) (old mid now : LaneTold) (attempts noted : List Attempt) (cause : AttemptCause) → AreFailed tls all (drop i all) old mid attempts → i < length all → get_or all i d ≡ s
    → IsTried tls s mid now (Err cause) → noted ≡ attempts ++ (record { source = s.text; cause = cause }) ∷ [] → AreFailed tls all (drop (i + 1) all) old now noted
next_failed tls all i d s old mid now attempts noted cause so lt is tried same =
    let n : suc i ≡ i + 1 = omega arith in
    subst (λ k. AreFailed tls all (drop k all) old now noted) n
    (subst (AreFailed tls all (drop (suc i) all) old now) (sym same)
    (more_failed tls all s (drop (suc i) all) old mid now attempts cause (subst (λ l. AreFailed tls all l old mid attempts) (source_here all i d s lt is) so) tried))

pub next_answered : (tls : Option Bool) (all : List Source) (i : ℕ) (d s : Source) (old mid now : LaneTold) (attempts : List Attempt) (found : Found) → AreFailed tls all (drop i all) old mid attempts → i < length all → get_or all i d ≡ s
    → IsTried tls s mid now (Ok found) → AreTried tls all old now (Ok found)
next_answered tls all i d s old mid now attempts found so lt is tried = one_answered tls all s (drop (suc i) all) old mid now attempts found (subst (λ l. AreFailed tls all l old mid attempts) (source_here all i d s lt is) so) tried

pub end_failed : (tls : Option Bool) (all : List Source) (i : ℕ) (old now : LaneTold) (attempts : List Attempt) → AreFailed tls all (drop i all) old now attempts → length all ≤ i → AreTried tls all old now (Err attempts)
end_failed tls all i old now attempts so le = all_failed tls all old now attempts (subst (λ l. AreFailed tls all l old now attempts) (drop_all i all le) so)

-- ---- one source

pub asked_by : (r : Reference) (made : Registry) (name : List ℕ) (old new : LaneTold) (answer : Result Fetched RegistryFault) (x : Result Fetched AttemptCause) → made ≡ registry_of r → name ≡ name_in r → OnSource old new
    → Steps step.Manifest (manifest_request made name) [] most_manifest_bytes (manifest_row step.Manifest) old.from.talks new.from.talks answer → CountsStep old.from.faults new.from.faults answer → IsBy r new.from.faults answer x → AsksManifest r old new x
asked_by r made name old new answer x is named on steps counts by = record {
  on = on;
  answer = answer;
  asked = subst (λ n. Steps step.Manifest (manifest_request (registry_of r) n) [] most_manifest_bytes (manifest_row step.Manifest) old.from.talks new.from.talks answer) named
      (subst (λ (m : Registry). Steps step.Manifest (manifest_request m name) [] most_manifest_bytes (manifest_row step.Manifest) old.from.talks new.from.talks answer) is steps);
  counts = counts;
  is = by;
}

pub tried_asked : (tls : Option Bool) (s : Source) (r : Reference) (old new : LaneTold) (x : Result (Result Found AttemptCause) Memory) → s.reference ≡ Some r → may_ask tls s.insecure ≡ true
    → IfOk x (λ y. (text : List ℕ) → IsTriedBy true (Some r) text old new y) → IfOk x (λ y. IsTried tls s old new y)
tried_asked tls s r old new (Ok y) here may tried = subst (λ b. IsTriedBy b s.reference s.text old new y) (sym may) (subst (λ o. IsTriedBy true o s.text old new y) (sym here) (tried s.text))
tried_asked tls s r old new (Err wanted) here may tried = tt

-- ---- the step

pub trying_found : (tls : Option Bool) (all : List Source) (a b : LaneTold) (found : Found) → AreTried tls all a b (Ok found) → IsLater a b → IsUntouched a b → Ends lane_course (reading (trying tls all)) a b (Ok found)
unfolding trying Ends lane_course
trying_found tls all a b found tried later same = record { later = later; ends = ((Ok found, tried, refl), same) }

pub trying_none : (tls : Option Bool) (all : List Source) (a b : LaneTold) (attempts : List Attempt) → AreTried tls all a b (Err attempts) → IsLater a b → IsUntouched a b → Ends lane_course (reading (trying tls all)) a b (Err (refusal.NoSource attempts))
unfolding trying Ends lane_course
trying_none tls all a b attempts tried later same = record { later = later; ends = ((Err attempts, tried, refl), same) }

pub trying_memory : (tls : Option Bool) (all : List Source) (a b : LaneTold) → IsLater a b → Ends {A = Found} lane_course (reading (trying tls all)) a b (Err refusal.Memory)
unfolding Ends lane_course
trying_memory tls all a b later = record { later = later; ends = tt }

-- ---- what the source that answered gave

ok_same : {A E : Type 0} (x y : A) → ◌≡◌ {A = Result A E} (Ok x) (Ok y) → x ≡ y
ok_same x y e = cc

pub asks_later : (r : Reference) (a b : LaneTold) (x : Result Fetched AttemptCause) → AsksManifest r a b x → IsLater a b
asks_later r a b x asks = steps_later _ _ _ _ _ a b asks.answer asks.on asks.asked asks.counts

-- a registry that answered, by its one exchange
pub record IsGiven (it : Found) (a b : LaneTold) : Type 0 where
  pub reference : Reference
  pub from : it.from ≡ source.Registry reference
  pub gave : Within (λ x y. AsksManifest reference x y (Ok it.fetched)) a b
  pub later : IsLater a b

asked_gave : (r : Reference) (x : Result Fetched AttemptCause) (it : Found) (a b : LaneTold) → AsksManifest r a b x → Ok it ≡ found_at r x → IsGiven it a b
asked_gave r (Ok fetched) it a b asks is =
    let same : it ≡ record { from = source.Registry r; fetched = fetched } = ok_same {E = AttemptCause} _ _ is in
    record {
      reference = r;
      from = ap (λ (f : Found). f.from) same;
      gave = within_now (λ x y. AsksManifest r x y (Ok it.fetched)) a b (subst (λ (f : Found). AsksManifest r a b (Ok f.fetched)) (sym same) asks);
      later = asks_later r a b (Ok fetched) asks;
    }
asked_gave r (Err cause) it a b asks is = let n : ◌≡◌ {A = Result Found AttemptCause} (Ok it) (Err cause) = is in cc

one_gave : (may : Bool) (reference : Option Reference) (text : List ℕ) (it : Found) (a b : LaneTold) → IsTriedBy may reference text a b (Ok it) → IsGiven it a b
one_gave may None text it a b tried = let no : ◌≡◌ {A = Result Found AttemptCause} (Ok it) (Err (why.BadRewrite text)) = tried.0 in cc
one_gave false (Some r) text it a b tried = let no : ◌≡◌ {A = Result Found AttemptCause} (Ok it) (Err (why.TlsRequired r.host)) = tried.0 in cc
one_gave true (Some r) text it a b tried = asked_gave r tried.0 it a b tried.1 tried.2

-- a lane goes on when a source fails
one_later : (may : Bool) (reference : Option Reference) (text : List ℕ) (cause : AttemptCause) (a b : LaneTold) → IsTriedBy may reference text a b (Err cause) → IsLater a b
one_later may None text cause a b tried = subst (λ x. IsLater a x) (sym tried.1) (later_same a)
one_later false (Some r) text cause a b tried = subst (λ x. IsLater a x) (sym tried.1) (later_same a)
one_later true (Some r) text cause a b tried = asks_later r a b tried.0 tried.1

behind_ok : (attempt : Attempt) (rest : Result Found (List Attempt)) (it : Found) → Ok it ≡ behind attempt rest → rest ≡ Ok it
behind_ok attempt (Ok found) it is = sym is
behind_ok attempt (Err more) it is = let no : ◌≡◌ {A = Result Found (List Attempt)} (Ok it) (Err (attempt ∷ more)) = is in cc

pub tried_gave : (tls : Option Bool) (ss : List Source) (it : Found) (a b : LaneTold) → AreTried tls ss a b (Ok it) → IsGiven it a b
tried_gave tls [] it a b tried = let no : ◌≡◌ {A = Result Found (List Attempt)} (Ok it) (Err []) = tried.0 in cc
tried_gave tls (s ∷ ss) it a b (inl one) = one_gave (may_ask tls s.insecure) s.reference s.text it a b (subst (λ (f : Found). IsTried tls s a b (Ok f)) (sym (ok_same {E = List Attempt} it one.0 one.2)) one.1)
tried_gave tls (s ∷ ss) it a b (inr more) =
    let g = tried_gave tls ss it more.0 b (subst (AreTried tls ss more.0 b) (behind_ok (record { source = s.text; cause = more.1 }) more.2 it more.5) more.4) in
    let first = one_later (may_ask tls s.insecure) s.reference s.text more.1 a more.0 more.3 in
    record {
      reference = g.reference;
      from = g.from;
      gave = within_earlier (λ x y. AsksManifest g.reference x y (Ok it.fetched)) a more.0 b first g.gave;
      later = later_then a more.0 b first g.later;
    }

pub given_manifest : (it : Found) (a b : LaneTold) → IsGiven it a b → ManifestEnds it.from None a b (Ok it.fetched)
unfolding ManifestEnds
given_manifest it a b g = subst (λ (s : From). ManifestEnds s None a b (Ok it.fetched)) (sym g.from) g.gave

pub given_spares : (it : Found) (a b : LaneTold) → IsGiven it a b → Spares it.from a b
unfolding Spares
given_spares it a b g = subst (λ (s : From). Spares s a b) (sym g.from) g.later

pub tried_spares : (tls : Option Bool) (ss : List Source) (it : Found) (a b : LaneTold) → AreTried tls ss a b (Ok it) → Spares it.from a b
tried_spares tls ss it a b tried = given_spares it a b (tried_gave tls ss it a b tried)

-- however they end, a lane goes on
pub tried_later : (tls : Option Bool) (ss : List Source) (a b : LaneTold) (r : Result Found (List Attempt)) → AreTried tls ss a b r → IsLater a b
tried_later tls [] a b r tried = subst (λ x. IsLater a x) (sym tried.1) (later_same a)
tried_later tls (s ∷ ss) a b r (inl one) = let g = one_gave (may_ask tls s.insecure) s.reference s.text one.0 a b one.1 in g.later
tried_later tls (s ∷ ss) a b r (inr more) =
    later_then a more.0 b (one_later (may_ask tls s.insecure) s.reference s.text more.1 a more.0 more.3) (tried_later tls ss more.0 b more.2 more.4)

-- ---- the wire to the source alone

pub on_same : (a : LaneTold) → OnSource a a
on_same a = record { to = refl; files = refl; number = refl }

pub on_then : (a b c : LaneTold) → OnSource a b → OnSource b c → OnSource a c
on_then a b c one two = record { to = two.to ∙ one.to; files = two.files ∙ one.files; number = two.number ∙ one.number }

-- ---- by the answer of a call

pub asks_by : (r : Reference) (made : Registry) (name : List ℕ) (old new : LaneTold) (answer : Result Fetched RegistryFault) (result : Result (Result Fetched AttemptCause) Memory) → made ≡ registry_of r → name ≡ name_in r → OnSource old new
    → Steps step.Manifest (manifest_request made name) [] most_manifest_bytes (manifest_row step.Manifest) old.from.talks new.from.talks answer → CountsStep old.from.faults new.from.faults answer → IfOk result (λ x. IsBy r new.from.faults answer x)
    → IfOk result (λ x. AsksManifest r old new x)
asks_by r made name old new answer (Ok x) is named on steps counts by = asked_by r made name old new answer x is named on steps counts by
asks_by r made name old new answer (Err wanted) is named on steps counts by = tt

pub asks_later_by : (made : Registry) (name : List ℕ) (old new : LaneTold) (answer : Result Fetched RegistryFault) → OnSource old new
    → Steps step.Manifest (manifest_request made name) [] most_manifest_bytes (manifest_row step.Manifest) old.from.talks new.from.talks answer → CountsStep old.from.faults new.from.faults answer → IsLater old new
asks_later_by made name old new answer on steps counts = steps_later _ _ _ _ _ old new answer on steps counts
