-- The signatures of an image that are stored apart from it.
use Rattle.std.proofs.Common.{◌≡◌, ◌++◌, [], ℕ, Bool, true, false, List, Option, Some, None, Result, Ok, Err, inl, refl, sym, ap, subst}
use Rattle.skopeo_outside.specs.Outside.{Told}
use Rattle.skopeo_outside.specs.Wire.{Conversations}
use Rattle.skopeo_outside.specs.LaneTold.{LaneTold, AreMore, IsLater}
use Rattle.skopeo_outside.specs.LaneLaws.{later_same, more_then, told_then}
use Rattle.skopeo_outside.specs.Steps.{Ends, EndsBy}
use Rattle.image_ref.specs.Reference.{Reference, Named, IsPath, full}
use Rattle.http_message.specs.declared.fault.ExchangeFault.{ExchangeFault}
use Rattle.http_message.specs.declared.fault.ExchangeFault.TheVariants as long
use Rattle.registry_http.specs.declared.fault.RegistryFault.{RegistryFault}
use Rattle.registry_http.specs.declared.fault.RegistryFault.TheVariants as fault
use Rattle.registry_http.specs.Lookaside.{is_base, AreGot, last, want, next}
use Rattle.registry_http.specs.Steps.{CountsStep}
use Rattle.transports.specs.declared.source.Source.TheVariants as source
use Rattle.transports.specs.declared.refusal.Refusal.{Refusal}
use Rattle.transports.specs.Refusals.{is_free, Shows}
use Rattle.transports.specs.Courses.{lane_course}
use Rattle.transports.specs.StepEnds.{reading}
use Rattle.transports.specs.Given.{SignaturesEnd, Spares}
use Rattle.transports.specs.Has.{IsUntouched}
use Rattle.transports.specs.Stores.{StoreAt, IsStore, AreStored, exchange_refusal, stored_refusal, by_store}
use Rattle.transports.specs.Tried.{OnSource}
use Rattle.transports.proofs.AskLemmas.{is_path}
use Rattle.transports.proofs.RegistryLemmas.{gains_more, later_source, untouched_source}
use Rattle.transports.proofs.WithinLemmas.{within_now}

-- ---- what a store is

pub are_parts : (r : Reference) (base : List ℕ) (s : StoreAt) → Named (full r) r → is_base base ≡ true → s.base ≡ base → s.path ≡ r.path → IsStore s
are_parts r base s named passes is_base_of is_path_of = record { base = subst (λ x. is_base x ≡ true) (sym is_base_of) passes; path = is_path r s.path named is_path_of }

pub base_of : (s : StoreAt) (base : List ℕ) → IsStore s → base ≡ s.base → is_base base ≡ true
base_of s base store is = subst (λ x. is_base x ≡ true) (sym is) store.base

pub path_of : (s : StoreAt) (path : List ℕ) → IsStore s → path ≡ s.path → IsPath path
path_of s path store is = subst IsPath (sym is) store.path

-- ---- how a lane goes on

got_more : (base path digest : List ℕ) (before : List (List ℕ)) (old new : Conversations) (result : Result (List (List ℕ)) RegistryFault) → AreGot base path digest before old new result → Told AreMore old new
got_more base path digest _ _ _ _ (last before old new result answer asks is) = gains_more (asks.hops ++ asks.gained) old new asks.told
got_more base path digest _ _ _ _ (want before old new answer asks) = gains_more (asks.hops ++ asks.gained) old new asks.told
got_more base path digest _ _ _ _ (next before more old mid new result answer asks is rest) =
    told_then AreMore AreMore AreMore more_then old mid new (gains_more (asks.hops ++ asks.gained) old mid asks.told) (got_more base path digest more mid new result rest)

pub stored_goes : (s : StoreAt) (a b : LaneTold) (r : Result (List (List ℕ)) Refusal) → AreStored s a b r → IsLater a b
stored_goes s a b r stored = later_source a b stored.on (got_more s.base s.path s.digest [] a.from.talks b.from.talks stored.answer stored.got) stored.counts.later

pub stored_untouched : (s : StoreAt) (a b : LaneTold) (r : Result (List (List ℕ)) Refusal) → AreStored s a b r → IsUntouched a b
stored_untouched s a b r stored = untouched_source a b stored.on

pub spares_later : (r : Reference) (a b : LaneTold) → IsLater a b → Spares (source.Registry r) a b
unfolding Spares
spares_later r a b later = later

-- by the answer of a call
pub stored_by : (s : StoreAt) (base path digest : List ℕ) (a b : LaneTold) (answer : Result (List (List ℕ)) RegistryFault) (r : Result (List (List ℕ)) Refusal) → base ≡ s.base → path ≡ s.path → digest ≡ s.digest → OnSource a b
    → AreGot base path digest [] a.from.talks b.from.talks answer → CountsStep a.from.faults b.from.faults answer → r ≡ by_store b.from.faults answer → AreStored s a b r
stored_by s base path digest a b answer r is_base is_path is_digest on got counts is = record {
  on = on;
  answer = answer;
  got = subst (λ x. AreGot s.base s.path x [] a.from.talks b.from.talks answer) is_digest
      (subst (λ x. AreGot s.base x digest [] a.from.talks b.from.talks answer) is_path
      (subst (λ x. AreGot x path digest [] a.from.talks b.from.talks answer) is_base got));
  counts = counts;
  is = is;
}

-- ---- what a free refusal shows

err_same : {A E : Type 0} (x y : E) → ◌≡◌ {A = Result A E} (Err x) (Err y) → x ≡ y
err_same x y e = cc

exchange_shows : (e : ExchangeFault) (a b : LaneTold) → CountsStep {A = List (List ℕ)} a.from.faults b.from.faults (Err (fault.Exchange e)) → Shows (exchange_refusal b.from.faults e) a b
exchange_shows (long.BadAnswer s first) a b counts = tt
exchange_shows long.Wire a b counts = inl (record { is = refl; rose = counts.wire refl })
exchange_shows (long.HeadTooLong n) a b counts = tt
exchange_shows (long.HeadersTooMany n) a b counts = tt
exchange_shows (long.BodyTooLong n) a b counts = tt
exchange_shows long.Encoded a b counts = tt
exchange_shows long.TooManyRedirects a b counts = tt
exchange_shows (long.TlsRequired host) a b counts = tt
exchange_shows long.Memory a b counts = tt

fault_shows : (e : RegistryFault) (a b : LaneTold) → CountsStep {A = List (List ℕ)} a.from.faults b.from.faults (Err e) → Shows (stored_refusal b.from.faults e) a b
fault_shows (fault.Status s number status) a b counts = tt
fault_shows (fault.TooMany kind n) a b counts = tt
fault_shows (fault.Exchange e) a b counts = exchange_shows e a b counts
fault_shows fault.Memory a b counts = tt

by_shows : (answer : Result (List (List ℕ)) RegistryFault) (e : Refusal) (a b : LaneTold) → CountsStep a.from.faults b.from.faults answer → Err e ≡ by_store b.from.faults answer → Shows e a b
by_shows (Ok signatures) e a b counts is = let no : ◌≡◌ {A = Result (List (List ℕ)) Refusal} (Err e) (Ok signatures) = is in cc
by_shows (Err f) e a b counts is = subst (λ x. Shows x a b) (sym (err_same {A = List (List ℕ)} e (stored_refusal b.from.faults f) is)) (fault_shows f a b counts)

-- ---- the step

pub stored_ends : (s : StoreAt) (r : Reference) (part : Option (List ℕ)) (a b : LaneTold) (x : Result (List (List ℕ)) Refusal) → AreStored s a b x → Ends lane_course (reading (SignaturesEnd (source.Registry r) (Some s) part)) a b x
unfolding Ends lane_course SignaturesEnd
stored_ends s r part a b (Ok signatures) stored = record {
  later = stored_goes s a b (Ok signatures) stored;
  ends = (within_now (λ a b. AreStored s a b (Ok signatures)) a b stored, untouched_source a b stored.on);
}
stored_ends s r part a b (Err e) stored = record { later = stored_goes s a b (Err e) stored; ends = by (is_free e) }
  where
    by : (free : Bool) → EndsBy {A = List (List ℕ)} free lane_course e (reading (SignaturesEnd (source.Registry r) (Some s) part)) a b
    by true = by_shows stored.answer e a b stored.counts stored.is
    by false = (within_now (λ a b. AreStored s a b (Err e)) a b stored, untouched_source a b stored.on)

-- without a store nothing is asked
pub none_stored : (r : Reference) (part : Option (List ℕ)) (a : LaneTold) (signatures : List (List ℕ)) → signatures ≡ [] → Ends lane_course (reading (SignaturesEnd (source.Registry r) None part)) a a (Ok signatures)
unfolding Ends lane_course SignaturesEnd
none_stored r part a signatures is = record { later = later_same a; ends = ((ap Ok is, later_same a), record { files = refl; to = refl }) }
