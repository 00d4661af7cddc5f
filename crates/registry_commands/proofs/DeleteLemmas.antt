-- A deletion, by what its calls came to.
use Rattle.std.proofs.Common.{◌≡◌, [], ℕ, Bool, true, false, List, Option, Some, None, Result, Ok, Err, if◌then◌else◌, refl, sym, ap, subst, ◌∙◌}
use Rattle.std.specs.Str.{bytes_eq}
use Rattle.std.proofs.lemmas.Slice.Eq.{bytes_eq-Decides}
use Rattle.skopeo_outside.specs.LaneTold.{WireTold, LaneTold}
use Rattle.skopeo_outside.specs.declared.words.Fetched.{Fetched}
use Rattle.skopeo_outside.specs.declared.words.Step.TheVariants as step
use Rattle.image_ref.specs.Reference.{Reference}
use Rattle.digest_reader.specs.Digests.{digest}
use Rattle.registry_http.specs.declared.fault.RegistryFault.{RegistryFault}
use Rattle.registry_http.specs.declared.registry.Registry.{Registry}
use Rattle.http_exchange.specs.Plain.{GainsPlain}
use Rattle.registry_http.specs.Requests.{manifest_request}
use Rattle.registry_http.specs.Rows.{manifest_row}
use Rattle.registry_http.specs.Steps.{Steps, CountsStep, most_manifest_bytes}
use Rattle.registries_conf.specs.Settings.{Settings}
use Rattle.registries_conf.specs.SourcesOf.{is_insecure}
use Rattle.transports.specs.Registries.{registry_of, name_in}
use Rattle.transports.specs.Tried.{may_ask}
use Rattle.registry_commands.specs.declared.fault.CommandFault.{CommandFault}
use Rattle.registry_commands.specs.declared.fault.CommandFault.TheVariants as fault
use Rattle.registry_commands.specs.Faults.{delete_fault}
use Rattle.registry_commands.specs.Said.{IsNamed}
use Rattle.registry_commands.specs.Deletes.{GetsManifest, SendsDelete, Deletes, Deletion, OnDest, unasked, wanted, ungiven, differs, undeleted, deleted}
use Rattle.registry_commands.specs.Calls.{checked, judged, ended, Gets, Sends}

err_ok : (e : CommandFault) (d : List ℕ) → ◌≡◌ {A = Result (List ℕ) CommandFault} (Err e) (Ok d) → ⊥
err_ok e d h = cc

same_err : (e f : CommandFault) → ◌≡◌ {A = Result (List ℕ) CommandFault} (Err e) (Err f) → e ≡ f
same_err e f h = cc

same_ok : (d f : List ℕ) → ◌≡◌ {A = Result (List ℕ) CommandFault} (Ok d) (Ok f) → d ≡ f
same_ok d f h = cc

true_false : true ≡ false → ⊥
true_false e = cc

as_end : (e f : CommandFault) → e ≡ f → ◌≡◌ {A = Result (Unit {0}) CommandFault} (Err e) (Err f)
as_end e f h = ap (λ (x : CommandFault). Err x) h

-- ---- the GET

-- a GET of the reference's manifest
gets_as : (r : Reference) (registry : Registry) (name : List ℕ) (named : Option (List ℕ)) (old new : WireTold) (result : Result (List ℕ) CommandFault) → registry ≡ registry_of r → name ≡ name_in r → named ≡ r.digest
    → Gets registry name named old new result → Gets (registry_of r) (name_in r) r.digest old new result
gets_as r registry name named old new result a b c g =
    subst (λ (d : Option (List ℕ)). Gets (registry_of r) (name_in r) d old new result) c
    (subst (λ (n : List ℕ). Gets (registry_of r) n named old new result) b
    (subst (λ (m : Registry). Gets m name named old new result) a g))

failed : (conf : Settings) (tls : Option Bool) (r : Reference) (old new : WireTold) (e : CommandFault) → may_ask tls (is_insecure conf r) ≡ true → (answer : Result Fetched RegistryFault)
    → GetsManifest (registry_of r) (name_in r) old new answer → Err e ≡ judged r.digest new.faults answer → Deletes conf tls r old new (Err e)
failed conf tls r old new e may (Err f) gets is = ungiven may f gets (as_end e (delete_fault step.Manifest new.faults f) (same_err e (delete_fault step.Manifest new.faults f) is))
failed conf tls r old new e may (Ok fetched) gets is = by_name r.digest refl is
  where
    by_test : (named : List ℕ) → r.digest ≡ Some named → (b : Bool) → bytes_eq (digest fetched.bytes) named ≡ b
        → Err e ≡ (if b then Ok (digest fetched.bytes) else Err (fault.ManifestDigest named (digest fetched.bytes))) → Deletes conf tls r old new (Err e)
    by_test named has true t is = absurd (err_ok e (digest fetched.bytes) is)
    by_test named has false t is = differs may fetched gets named has (λ same. true_false (sym ((bytes_eq-Decides (digest fetched.bytes) named).1 same) ∙ t))
        (as_end e (fault.ManifestDigest named (digest fetched.bytes)) (same_err e (fault.ManifestDigest named (digest fetched.bytes)) is))

    by_name : (d : Option (List ℕ)) → r.digest ≡ d → Err e ≡ checked d fetched.bytes → Deletes conf tls r old new (Err e)
    by_name None has is = absurd (err_ok e (digest fetched.bytes) is)
    by_name (Some named) has is = by_test named has (bytes_eq (digest fetched.bytes) named) refl is

-- the manifest came, with the digest that is named
record Given (r : Reference) (old new : WireTold) (hash : List ℕ) : Type 0 where
  fetched : Fetched
  gets : GetsManifest (registry_of r) (name_in r) old new (Ok fetched)
  named : IsNamed r.digest fetched.bytes
  is : hash ≡ digest fetched.bytes

given_by : (r : Reference) (old new : WireTold) (hash : List ℕ) (answer : Result Fetched RegistryFault) → GetsManifest (registry_of r) (name_in r) old new answer → Ok hash ≡ judged r.digest new.faults answer → Given r old new hash
given_by r old new hash (Err f) gets is = absurd (err_ok (delete_fault step.Manifest new.faults f) hash (sym is))
given_by r old new hash (Ok fetched) gets is = let p = by_name r.digest is in record { fetched = fetched; gets = gets; named = p.0; is = p.1 }
  where
    by_test : (named : List ℕ) (b : Bool) → bytes_eq (digest fetched.bytes) named ≡ b → Ok hash ≡ (if b then Ok (digest fetched.bytes) else Err (fault.ManifestDigest named (digest fetched.bytes)))
        → (digest fetched.bytes ≡ named) × (hash ≡ digest fetched.bytes)
    by_test named true t is = ((bytes_eq-Decides (digest fetched.bytes) named).0 t, same_ok hash (digest fetched.bytes) is)
    by_test named false t is = absurd (err_ok (fault.ManifestDigest named (digest fetched.bytes)) hash (sym is))

    by_name : (d : Option (List ℕ)) → Ok hash ≡ checked d fetched.bytes → IsNamed d fetched.bytes × (hash ≡ digest fetched.bytes)
    by_name None is = (tt, same_ok hash (digest fetched.bytes) is)
    by_name (Some named) is = by_test named (bytes_eq (digest fetched.bytes) named) refl is

-- ---- the DELETE

sent_by : (conf : Settings) (tls : Option Bool) (r : Reference) (old mid new : WireTold) (hash : List ℕ) (result : Result (Unit {0}) CommandFault) → may_ask tls (is_insecure conf r) ≡ true → (g : Given r old mid hash)
    → (answer : Result (Unit {0}) RegistryFault) → SendsDelete (registry_of r) (digest g.fetched.bytes) mid new answer → result ≡ ended new.faults answer → Deletes conf tls r old new result
sent_by conf tls r old mid new hash result may g (Ok done) sends is = deleted may g.fetched mid g.gets g.named sends is
sent_by conf tls r old mid new hash result may g (Err e) sends is = undeleted may g.fetched mid g.gets g.named e sends is

sends_as : (r : Reference) (registry : Registry) (hash other : List ℕ) (old new : WireTold) (answer : Result (Unit {0}) RegistryFault) → registry ≡ registry_of r → hash ≡ other → SendsDelete registry hash old new answer → SendsDelete (registry_of r) other old new answer
sends_as r registry hash other old new answer a b s =
    subst (λ (d : List ℕ). SendsDelete (registry_of r) d old new answer) b (subst (λ (m : Registry). SendsDelete m hash old new answer) a s)

-- ---- by the calls

pub ends_failed : (conf : Settings) (tls : Option Bool) (r : Reference) (registry : Registry) (name : List ℕ) (named : Option (List ℕ)) (old new : WireTold) (e : CommandFault) → registry ≡ registry_of r → name ≡ name_in r → named ≡ r.digest
    → Gets registry name named old new (Err e) → may_ask tls (is_insecure conf r) ≡ true → Deletes conf tls r old new (Err e)
ends_failed conf tls r registry name named old new e a b c g may =
    let h = gets_as r registry name named old new (Err e) a b c g in failed conf tls r old new e may h.answer h.gets h.is

pub ends_sent : (conf : Settings) (tls : Option Bool) (r : Reference) (registry : Registry) (name : List ℕ) (named : Option (List ℕ)) (old mid new : WireTold) (hash : List ℕ) (result : Result (Unit {0}) CommandFault) → registry ≡ registry_of r
    → name ≡ name_in r → named ≡ r.digest → Gets registry name named old mid (Ok hash) → Sends registry hash mid new result → may_ask tls (is_insecure conf r) ≡ true → Deletes conf tls r old new result
ends_sent conf tls r registry name named old mid new hash result a b c g s may =
    let h = gets_as r registry name named old mid (Ok hash) a b c g in
    let k = given_by r old mid hash h.answer h.gets h.is in
    sent_by conf tls r old mid new hash result may k s.answer (sends_as r registry hash (digest k.fetched.bytes) mid new s.answer a k.is s.sends) s.is

pub wants : (conf : Settings) (tls : Option Bool) (r : Reference) (a : WireTold) → Deletes conf tls r a a (Err fault.Memory)
wants conf tls r a = wanted refl refl

-- ---- on a lane

pub deletion_wants : (conf : Settings) (tls : Option Bool) (r : Reference) (a : LaneTold) → Deletion conf tls r a a (Err fault.Memory)
deletion_wants conf tls r a = record { on = record { from = refl; files = refl; number = refl }; ends = wanted refl refl }

pub deletion_unasked : (conf : Settings) (tls : Option Bool) (r : Reference) (mark : Bool) (host : List ℕ) (a : LaneTold) → mark ≡ is_insecure conf r → may_ask tls mark ≡ false → host ≡ r.host
    → Deletion conf tls r a a (Err (fault.TlsRequired host))
deletion_unasked conf tls r mark host a is may at = record {
  on = record { from = refl; files = refl; number = refl };
  ends = unasked (sym (ap (λ (m : Bool). may_ask tls m) is) ∙ may) refl (as_end (fault.TlsRequired host) (fault.TlsRequired r.host) (ap (λ (h : List ℕ). fault.TlsRequired h) at));
}

pub deletion_at : (conf : Settings) (tls : Option Bool) (r : Reference) (mark : Bool) (a b : LaneTold) (result : Result (Unit {0}) CommandFault) → mark ≡ is_insecure conf r → may_ask tls mark ≡ true → OnDest a b
    → ((c : Settings) (t : Option Bool) → may_ask t (is_insecure c r) ≡ true → Deletes c t r a.to b.to result) → Deletion conf tls r a b result
deletion_at conf tls r mark a b result is may on ends = record { on = on; ends = ends conf tls (sym (ap (λ (m : Bool). may_ask tls m) is) ∙ may) }

-- a manifest was asked for on a wire
pub gets_by : (registry : Registry) (name : List ℕ) (named : Option (List ℕ)) (a b : WireTold) (answer : Result Fetched RegistryFault) (result : Result (List ℕ) CommandFault)
    → Steps step.Manifest (manifest_request registry name) [] most_manifest_bytes (manifest_row step.Manifest) a.talks b.talks answer → GainsPlain a.talks b.talks → CountsStep a.faults b.faults answer → b.is_open ≡ false
    → result ≡ judged named b.faults answer → Gets registry name named a b result
gets_by registry name named a b answer result steps plain counts closed is = record { answer = answer; gets = record { step = steps; plain = plain; counts = counts; closed = closed }; is = is }
