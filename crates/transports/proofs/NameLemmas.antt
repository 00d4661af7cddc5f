-- Names that are tried in order.
use Rattle.std.proofs.Common.{◌≡◌, ◌∙◌, ◌++◌, ◌∷◌, [], ℕ, suc, ◌+◌, ◌<◌, ◌≤◌, Bool, List, Option, Result, Ok, Err, length, drop, get_or, inl, inr, refl, sym, ap, subst, append_assoc, arith}
use Rattle.std.proofs.Math.Seq.{drop-cons}
use Rattle.std.proofs.lemmas.List.{drop_all}
use Rattle.skopeo_outside.specs.LaneTold.{LaneTold, IsLater}
use Rattle.skopeo_outside.specs.LaneLaws.{later_same, later_then}
use Rattle.skopeo_outside.specs.Steps.{Ends}
use Rattle.skopeo_outside.specs.declared.stop.Memory.{Memory}
use Rattle.std.specs.Prelude.{IfOk}
use Rattle.image_ref.specs.Reference.{Reference, full}
use Rattle.registries_conf.specs.Settings.{Settings}
use Rattle.registries_conf.specs.declared.sources.Source.{Source}
use Rattle.registries_conf.specs.SourcesOf.{sources_of}
use Rattle.registries_conf.proofs.SourcesLaw.{says_sources}
use Rattle.registries_conf.specs.declared.fault.SourcesFault.{SourcesFault}
use Rattle.registries_conf.specs.declared.fault.SourcesFault.TheVariants as fault
use Rattle.transports.specs.declared.attempt.Attempt.{Attempt}
use Rattle.transports.specs.declared.attempt.AttemptCause.TheVariants as why
use Rattle.transports.specs.declared.found.Found.{Found}
use Rattle.transports.specs.declared.found.FoundImage.{FoundImage}
use Rattle.transports.specs.declared.refusal.Refusal.TheVariants as refusal
use Rattle.transports.specs.Courses.{lane_course}
use Rattle.transports.specs.Found.{trying_names}
use Rattle.transports.specs.Has.{IsUntouched}
use Rattle.transports.specs.StepEnds.{reading}
use Rattle.transports.specs.Given.{Spares}
use Rattle.transports.specs.Tried.{AsksManifest, AreTried}
use Rattle.transports.specs.Names.{IsNameTriedBy, IsNameTried, AreNamesTried, as_named, behind_all}
use Rattle.transports.proofs.TriedLemmas.{IsGiven, given_spares, tried_gave, tried_later}
use Rattle.transports.proofs.WithinLemmas.{within_earlier}

-- the attempts of these names failed between two told states: what comes of the names that are left comes of all, behind them
pub record AreNamesFailed (tls : Option Bool) (conf : Settings) (all left : List Reference) (old now : LaneTold) (attempts : List Attempt) : Type 0 where
  pub rest : (new : LaneTold) (r : Result FoundImage (List Attempt)) → AreNamesTried tls conf left now new r → AreNamesTried tls conf all old new (behind_all attempts r)

behind_none : (r : Result FoundImage (List Attempt)) → behind_all [] r ≡ r
behind_none (Ok it) = refl
behind_none (Err more) = refl

behind_both : (attempts more : List Attempt) (r : Result FoundImage (List Attempt)) → behind_all attempts (behind_all more r) ≡ behind_all (attempts ++ more) r
behind_both attempts more (Ok it) = refl
behind_both attempts more (Err others) = ap Err (sym (append_assoc attempts more others))

pub no_name_failed : (tls : Option Bool) (conf : Settings) (all : List Reference) (old : LaneTold) (attempts : List Attempt) → attempts ≡ [] → AreNamesFailed tls conf all all old old attempts
no_name_failed tls conf all old attempts is = record { rest = λ new r tried. subst (λ (l : List Attempt). AreNamesTried tls conf all old new (behind_all l r)) (sym is) (subst (AreNamesTried tls conf all old new) (sym (behind_none r)) tried) }

-- one more failed
more_names_failed : (tls : Option Bool) (conf : Settings) (all : List Reference) (s : Reference) (left : List Reference) (old mid now : LaneTold) (attempts more : List Attempt) → AreNamesFailed tls conf all (s ∷ left) old mid attempts → IsNameTried tls conf s mid now (Err more)
    → AreNamesFailed tls conf all left old now (attempts ++ more)
more_names_failed tls conf all s left old mid now attempts more so tried = record {
  rest = λ new r others. subst (AreNamesTried tls conf all old new) (behind_both attempts more r) (so.rest new (behind_all more r) (inr (now, more, r, tried, others, refl)));
}

-- the name at a place of the list
name_here : (all : List Reference) (i : ℕ) (d s : Reference) → i < length all → get_or all i d ≡ s → drop i all ≡ s ∷ drop (suc i) all
name_here all i d s lt is = drop-cons all i d lt ∙ ap (λ x. x ∷ drop (suc i) all) is

pub next_name_failed : (tls : Option Bool) (conf : Settings) (all : List Reference) (i : ℕ) (d s : Reference) (old mid now : LaneTold) (attempts more noted : List Attempt) → AreNamesFailed tls conf all (drop i all) old mid attempts → i < length all → get_or all i d ≡ s
    → IsNameTried tls conf s mid now (Err more) → noted ≡ attempts ++ more → AreNamesFailed tls conf all (drop (i + 1) all) old now noted
next_name_failed tls conf all i d s old mid now attempts more noted so lt is tried same =
    let n : suc i ≡ i + 1 = omega arith in
    subst (λ k. AreNamesFailed tls conf all (drop k all) old now noted) n
    (subst (AreNamesFailed tls conf all (drop (suc i) all) old now) (sym same)
    (more_names_failed tls conf all s (drop (suc i) all) old mid now attempts more (subst (λ l. AreNamesFailed tls conf all l old mid attempts) (name_here all i d s lt is) so) tried))

pub next_name_answered : (tls : Option Bool) (conf : Settings) (all : List Reference) (i : ℕ) (d s : Reference) (old mid now : LaneTold) (attempts : List Attempt) (it : Found) (image : FoundImage) → AreNamesFailed tls conf all (drop i all) old mid attempts → i < length all → get_or all i d ≡ s
    → IsNameTried tls conf s mid now (Ok it) → image ≡ as_named s it → AreNamesTried tls conf all old now (Ok image)
next_name_answered tls conf all i d s old mid now attempts it image so lt is tried same =
    let here : AreNamesFailed tls conf all (s ∷ drop (suc i) all) old mid attempts = subst (λ l. AreNamesFailed tls conf all l old mid attempts) (name_here all i d s lt is) so in
    here.rest now (Ok image) (inl (it, tried, ap Ok same))

pub end_names_failed : (tls : Option Bool) (conf : Settings) (all : List Reference) (i : ℕ) (old now : LaneTold) (attempts : List Attempt) → AreNamesFailed tls conf all (drop i all) old now attempts → length all ≤ i → AreNamesTried tls conf all old now (Err attempts)
end_names_failed tls conf all i old now attempts so le =
    let none : AreNamesFailed tls conf all [] old now attempts = subst (λ l. AreNamesFailed tls conf all l old now attempts) (drop_all i all le) so in
    subst (AreNamesTried tls conf all old now) (ap Err (nil attempts)) (none.rest now (Err []) (refl, refl))
  where
    nil : (t : List Attempt) → t ++ [] ≡ t
    nil [] = refl
    nil (x ∷ t) = ap (λ s. x ∷ s) (nil t)

-- ---- one name

-- by the sources that the configuration has for it
pub name_tried : (tls : Option Bool) (conf : Settings) (r : Reference) (sources : List Source) (a b : LaneTold) (result : Result (Result Found (List Attempt)) Memory) → sources_of conf r ≡ Ok sources
    → IfOk result (λ x. AreTried tls sources a b x) → IfOk result (λ x. IsNameTried tls conf r a b x)
name_tried tls conf r sources a b (Ok x) is tried = (Ok sources, says_sources conf r (Ok sources) is, tried)
name_tried tls conf r sources a b (Err wanted) is tried = tt

pub name_blocked : (tls : Option Bool) (conf : Settings) (r : Reference) (n : ℕ) (a : LaneTold) (attempts : List Attempt) → sources_of conf r ≡ Err (fault.Blocked n) → attempts ≡ record { source = full r; cause = why.Blocked n } ∷ [] → IsNameTried tls conf r a a (Err attempts)
name_blocked tls conf r n a attempts is noted = (Err (fault.Blocked n), says_sources conf r (Err (fault.Blocked n)) is, (ap Err noted, refl))

-- ---- the step

pub naming_found : (tls : Option Bool) (conf : Settings) (all : List Reference) (a b : LaneTold) (it : FoundImage) → AreNamesTried tls conf all a b (Ok it) → IsLater a b → IsUntouched a b → Ends lane_course (reading (trying_names tls conf all)) a b (Ok it)
unfolding trying_names Ends lane_course
naming_found tls conf all a b it tried later same = record { later = later; ends = ((Ok it, tried, refl), same) }

pub naming_none : (tls : Option Bool) (conf : Settings) (all : List Reference) (a b : LaneTold) (attempts : List Attempt) → AreNamesTried tls conf all a b (Err attempts) → IsLater a b → IsUntouched a b → Ends lane_course (reading (trying_names tls conf all)) a b (Err (refusal.NoSource attempts))
unfolding trying_names Ends lane_course
naming_none tls conf all a b attempts tried later same = record { later = later; ends = ((Err attempts, tried, refl), same) }

pub naming_memory : (tls : Option Bool) (conf : Settings) (all : List Reference) (a b : LaneTold) → IsLater a b → Ends {A = FoundImage} lane_course (reading (trying_names tls conf all)) a b (Err refusal.Memory)
unfolding Ends lane_course
naming_memory tls conf all a b later = record { later = later; ends = tt }

-- ---- what the source that answered gave

ok_same : {A E : Type 0} (x y : A) → ◌≡◌ {A = Result A E} (Ok x) (Ok y) → x ≡ y
ok_same x y e = cc

by_gave : (tls : Option Bool) (r : Reference) (sources : Result (List Source) SourcesFault) (it : Found) (a b : LaneTold) → IsNameTriedBy tls r sources a b (Ok it) → IsGiven it a b
by_gave tls r (Ok sources) it a b tried = tried_gave tls sources it a b tried
by_gave tls r (Err (fault.Blocked n)) it a b tried = let no : ◌≡◌ {A = Result Found (List Attempt)} (Ok it) (Err (record { source = full r; cause = why.Blocked n } ∷ [])) = tried.0 in cc
by_gave tls r (Err fault.Memory) it a b tried = absurd tried

-- a lane goes on when a name fails
by_later : (tls : Option Bool) (r : Reference) (sources : Result (List Source) SourcesFault) (x : Result Found (List Attempt)) (a b : LaneTold) → IsNameTriedBy tls r sources a b x → IsLater a b
by_later tls r (Ok sources) x a b tried = tried_later tls sources a b x tried
by_later tls r (Err (fault.Blocked n)) x a b tried = subst (λ y. IsLater a y) (sym tried.1) (later_same a)
by_later tls r (Err fault.Memory) x a b tried = absurd tried

behind_ok : (attempts : List Attempt) (rest : Result FoundImage (List Attempt)) (it : FoundImage) → Ok it ≡ behind_all attempts rest → rest ≡ Ok it
behind_ok attempts (Ok image) it is = sym is
behind_ok attempts (Err more) it is = let no : ◌≡◌ {A = Result FoundImage (List Attempt)} (Ok it) (Err (attempts ++ more)) = is in cc

pub names_gave : (tls : Option Bool) (conf : Settings) (rs : List Reference) (it : FoundImage) (a b : LaneTold) → AreNamesTried tls conf rs a b (Ok it) → IsGiven it.found a b
names_gave tls conf [] it a b tried = let no : ◌≡◌ {A = Result FoundImage (List Attempt)} (Ok it) (Err []) = tried.0 in cc
names_gave tls conf (r ∷ rs) it a b (inl one) =
    let is : it ≡ as_named r one.0 = ok_same {E = List Attempt} it (as_named r one.0) one.2 in
    subst (λ (f : FoundImage). IsGiven f.found a b) (sym is) (by_gave tls r one.1.0 one.0 a b one.1.2)
names_gave tls conf (r ∷ rs) it a b (inr more) =
    let g = names_gave tls conf rs it more.0 b (subst (AreNamesTried tls conf rs more.0 b) (behind_ok more.1 more.2 it more.5) more.4) in
    let first = by_later tls r more.3.0 (Err more.1) a more.0 more.3.2 in
    record {
      reference = g.reference;
      from = g.from;
      gave = within_earlier (λ x y. AsksManifest g.reference x y (Ok it.found.fetched)) a more.0 b first g.gave;
      later = later_then a more.0 b first g.later;
    }

pub names_spare : (tls : Option Bool) (conf : Settings) (rs : List Reference) (it : FoundImage) (a b : LaneTold) → AreNamesTried tls conf rs a b (Ok it) → Spares it.found.from a b
names_spare tls conf rs it a b tried = given_spares it.found a b (names_gave tls conf rs it a b tried)
