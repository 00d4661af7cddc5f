-- A list of tags, by what its calls came to.
use Rattle.std.proofs.Common.{◌≡◌, ◌⊎◌, ◌↔◌, ◌<◌, ◌+◌, ◌-◌, ◌++◌, ◌∷◌, [], ℕ, Bool, true, false, List, Option, Some, None, Result, Ok, Err, length, get_or, length-append, inl, inr, refl, sym, ap, subst, ◌∙◌, arith}
use Rattle.std.proofs.Math.Seq.{get_or-append_seam}
use Rattle.skopeo_outside.specs.LaneTold.{WireTold, LaneTold, IsLaterWire, IsLater}
use Rattle.image_ref.specs.Reference.{Reference, full}
use Rattle.http_exchange.specs.Plain.{GainsPlain}
use Rattle.registry_http.specs.declared.fault.RegistryFault.{RegistryFault}
use Rattle.registry_http.specs.declared.registry.Registry.{Registry}
use Rattle.registry_http.specs.Steps.{CountsStep}
use Rattle.registry_http.specs.Tags.{AreListed, first_page}
use Rattle.registry_http.proofs.StepLemmas.{plain_nothing}
use Rattle.registries_conf.specs.declared.fault.SourcesFault.{SourcesFault}
use Rattle.registries_conf.specs.declared.fault.SourcesFault.TheVariants as unsourced
use Rattle.registries_conf.specs.declared.sources.Source.{Source}
use Rattle.registries_conf.specs.Settings.{Settings}
use Rattle.registries_conf.specs.SourcesOf.{sources_of}
use Rattle.registries_conf.specs.IsSources.{HasSources, IsBlocked, alone}
use Rattle.transports.specs.declared.attempt.Attempt.{Attempt}
use Rattle.transports.specs.Registries.{registry_of}
use Rattle.transports.specs.Tried.{OnSource, may_ask}
use Rattle.transports.proofs.RegistryLemmas.{gains_more}
use Rattle.registry_commands.specs.declared.fault.CommandFault.{CommandFault}
use Rattle.registry_commands.specs.declared.fault.CommandFault.TheVariants as fault
use Rattle.registry_commands.specs.Calls.{IsUnsourced, TagsCome}
use Rattle.registry_commands.specs.Lists.{IsPrimary, AsksTags, tags_end, rewritten_attempt, Lists, Listing, blocked, rewritten, unasked, wanted, asked}
use Rattle.registry_commands.proofs.WireLemmas.{wire_now, later_from}

-- ---- the sources

abbrev pub Told : Type 0
Told = Result (List Source) SourcesFault

err_ok : (e : SourcesFault) (x : List Source) → ◌≡◌ {A = Told} (Ok x) (Err e) → ⊥
err_ok e x h = cc

no_want : (n : ℕ) → ◌≡◌ {A = Told} (Err (unsourced.Blocked n)) (Err unsourced.Memory) → ⊥
no_want n h = cc

pub has_sources : (conf : Settings) (r : Reference) (sources : List Source) → (Ok sources ≡ Err unsourced.Memory) ⊎ (Ok sources ≡ sources_of conf r) → ((a : Told) → (sources_of conf r ≡ a) ↔ HasSources conf r a)
    → HasSources conf r (Ok sources)
has_sources conf r sources (inl e) rules = absurd (err_ok unsourced.Memory sources e)
has_sources conf r sources (inr e) rules = (rules (Ok sources)).0 (sym e)

pub is_blocked : (conf : Settings) (r : Reference) (n : ℕ) → ◌≡◌ {A = Told} (Err (unsourced.Blocked n)) (Err unsourced.Memory) ⊎ (Err (unsourced.Blocked n) ≡ sources_of conf r) → ((a : Told) → (sources_of conf r ≡ a) ↔ HasSources conf r a)
    → IsUnsourced conf r (fault.Blocked n)
is_blocked conf r n (inl e) rules = absurd (no_want n e)
is_blocked conf r n (inr e) rules = inr (n, (rules (Err (unsourced.Blocked n))).0 (sym e), refl)

pub is_blocked_by : (conf : Settings) (r : Reference) (n : ℕ) (x : Told) → x ≡ Err (unsourced.Blocked n) → (x ≡ Err unsourced.Memory) ⊎ (x ≡ sources_of conf r) → ((a : Told) → (sources_of conf r ≡ a) ↔ HasSources conf r a) → IsUnsourced conf r (fault.Blocked n)
is_blocked_by conf r n x is says rules = is_blocked conf r n (subst (λ (y : Told). (y ≡ Err unsourced.Memory) ⊎ (y ≡ sources_of conf r)) is says) rules

-- the primary source stands behind the others
pub record HasPrimary (conf : Settings) (r : Reference) (sources : List Source) : Type 0 where
  pub front : List Source
  pub primary : Source
  pub joined : sources ≡ front ++ primary ∷ []
  pub is : IsPrimary conf r primary

pub primary_in : (conf : Settings) (r : Reference) (sources : List Source) → HasSources conf r (Ok sources) → HasPrimary conf r sources
primary_in conf r sources (inl (none, is)) = record { front = []; primary = alone r; joined = is; is = inl (none, refl) }
primary_in conf r sources (inr t) = record {
  front = t.are_sources.mirrors;
  primary = t.are_sources.primary;
  joined = t.are_sources.joined;
  is = inr (record { table = t.table; end = t.end; counts = t.counts; free = t.free; is = t.are_sources.is_primary });
}

one_more : (front : List Source) (s : Source) → length (front ++ s ∷ []) ≡ length front + 1
one_more front s = length-append front (s ∷ [])

pub some_source : (conf : Settings) (r : Reference) (sources : List Source) → HasSources conf r (Ok sources) → 0 < length sources
some_source conf r sources has =
    let p = primary_in conf r sources has in
    let e = ap (λ (l : List Source). length l) p.joined ∙ one_more p.front p.primary in
    omega arith

pub last_is : (sources front : List Source) (s d : Source) (n : ℕ) → n ≡ length sources - 1 → d ≡ get_or sources n d → sources ≡ front ++ s ∷ [] → d ≡ s
last_is sources front s d n at is joined =
    let e = ap (λ (l : List Source). length l) joined ∙ one_more front s in
    let place : n ≡ length front = omega arith in
    is ∙ ap (λ (l : List Source). get_or l n d) joined ∙ ap (λ (k : ℕ). get_or (front ++ s ∷ []) k d) place ∙ get_or-append_seam front s [] d

-- ---- the tags

as_end : (e f : CommandFault) → e ≡ f → ◌≡◌ {A = Result (List (List ℕ)) CommandFault} (Err e) (Err f)
as_end e f h = ap (λ (x : CommandFault). Err x) h

pub come_want : (r : Reference) (a : WireTold) → TagsCome r a a (Err fault.Memory)
come_want r a = inl (refl, refl)

pub come_by : (r : Reference) (registry : Registry) (a b : WireTold) (answer : Result (List (List ℕ)) RegistryFault) (result : Result (List (List ℕ)) CommandFault) → registry ≡ registry_of r
    → AreListed (first_page registry) a.talks b.talks answer → GainsPlain a.talks b.talks → CountsStep a.faults b.faults answer → b.is_open ≡ false → result ≡ tags_end b.faults answer → TagsCome r a b result
come_by r registry a b answer result e listed plain counts closed is = inr (
  answer,
  record {
    listed = subst (λ (m : Registry). AreListed (first_page m) a.talks b.talks answer) e listed;
    plain = plain;
    counts = counts;
    closed = closed;
  },
  is,
)

pub lists_want : (conf : Settings) (tls : Option Bool) (r : Reference) (a : WireTold) → Lists conf tls r a a (Err fault.Memory)
lists_want conf tls r a = wanted refl refl

pub lists_rewritten : (conf : Settings) (tls : Option Bool) (r : Reference) (s : Source) (attempts : List Attempt) (a : WireTold) → s.reference ≡ None → attempts ≡ rewritten_attempt s ∷ [] → IsPrimary conf r s
    → Lists conf tls r a a (Err (fault.NoSource attempts))
lists_rewritten conf tls r s attempts a none is primary =
    rewritten s primary none refl (as_end (fault.NoSource attempts) (fault.NoSource (rewritten_attempt s ∷ [])) (ap (λ (x : List Attempt). fault.NoSource x) is))

pub lists_unasked : (conf : Settings) (tls : Option Bool) (r : Reference) (s : Source) (at : Reference) (host : List ℕ) (a : WireTold) → s.reference ≡ Some at → may_ask tls s.insecure ≡ false → host ≡ at.host → IsPrimary conf r s
    → Lists conf tls r a a (Err (fault.TlsRequired host))
lists_unasked conf tls r s at host a has may is primary =
    unasked s primary at has may refl (as_end (fault.TlsRequired host) (fault.TlsRequired at.host) (ap (λ (x : List ℕ). fault.TlsRequired x) is))

pub lists_asked : (conf : Settings) (tls : Option Bool) (r : Reference) (s : Source) (at : Reference) (a b : WireTold) (result : Result (List (List ℕ)) CommandFault) → s.reference ≡ Some at → may_ask tls s.insecure ≡ true
    → TagsCome at a b result → IsPrimary conf r s → Lists conf tls r a b result
lists_asked conf tls r s at a b result has may (inl (same, is)) primary = wanted same is
lists_asked conf tls r s at a b result has may (inr (answer, asks, is)) primary = asked s primary at has may answer asks is

-- ---- on a lane

on_none : (a : LaneTold) → OnSource a a
on_none a = record { to = refl; files = refl; number = refl }

pub listing_refused : (conf : Settings) (tls : Option Bool) (r : Reference) (e : CommandFault) (a : LaneTold) → IsUnsourced conf r e → Listing conf tls r a a (Err e)
listing_refused conf tls r e a (inl is) = record { on = on_none a; ends = wanted refl (as_end e fault.Memory is) }
listing_refused conf tls r e a (inr (number, is, same)) = record { on = on_none a; ends = blocked number is refl (as_end e (fault.Blocked number) same) }

pub listing_at : (conf : Settings) (tls : Option Bool) (r : Reference) (sources : List Source) (s : Source) (a b : LaneTold) (result : Result (List (List ℕ)) CommandFault) → HasSources conf r (Ok sources)
    → ((front : List Source) (t : Source) → sources ≡ front ++ t ∷ [] → s ≡ t) → ((c : Settings) (q : Reference) → IsPrimary c q s → Lists c tls q a.from b.from result) → OnSource a b → Listing conf tls r a b result
listing_at conf tls r sources s a b result has last ends on =
    let p = primary_in conf r sources has in
    record { on = on; ends = ends conf r (subst (IsPrimary conf r) (sym (last p.front p.primary p.joined)) p.is) }

-- ---- what was said

talks_now : (a b : WireTold) → b ≡ a → b.talks ≡ a.talks
talks_now a b e = ap (λ (w : WireTold). w.talks) e

lists_plain : (conf : Settings) (tls : Option Bool) (r : Reference) (a b : WireTold) (result : Result (List (List ℕ)) CommandFault) → Lists conf tls r a b result → GainsPlain a.talks b.talks
lists_plain conf tls r a b result (blocked n is same e) = plain_nothing a.talks b.talks (talks_now a b same)
lists_plain conf tls r a b result (rewritten s p none same e) = plain_nothing a.talks b.talks (talks_now a b same)
lists_plain conf tls r a b result (unasked s p at has may same e) = plain_nothing a.talks b.talks (talks_now a b same)
lists_plain conf tls r a b result (wanted same e) = plain_nothing a.talks b.talks (talks_now a b same)
lists_plain conf tls r a b result (asked s p at has may answer asks e) = asks.plain

lists_later : (conf : Settings) (tls : Option Bool) (r : Reference) (a b : WireTold) (result : Result (List (List ℕ)) CommandFault) → Lists conf tls r a b result → IsLaterWire a b
lists_later conf tls r a b result (blocked n is same e) = wire_now a b same
lists_later conf tls r a b result (rewritten s p none same e) = wire_now a b same
lists_later conf tls r a b result (unasked s p at has may same e) = wire_now a b same
lists_later conf tls r a b result (wanted same e) = wire_now a b same
lists_later conf tls r a b result (asked s p at has may answer asks e) = record { talks = gains_more asks.plain.gained a.talks b.talks asks.plain.told; faults = asks.counts.later }

pub listing_plain : (conf : Settings) (tls : Option Bool) (r : Reference) (a b : LaneTold) (result : Result (List (List ℕ)) CommandFault) → Listing conf tls r a b result → GainsPlain a.from.talks b.from.talks
listing_plain conf tls r a b result l = lists_plain conf tls r a.from b.from result l.ends

pub listing_later : (conf : Settings) (tls : Option Bool) (r : Reference) (a b : LaneTold) (result : Result (List (List ℕ)) CommandFault) → Listing conf tls r a b result → IsLater a b
listing_later conf tls r a b result l = later_from a b l.on (lists_later conf tls r a.from b.from result l.ends)
