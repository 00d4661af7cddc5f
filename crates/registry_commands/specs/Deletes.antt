-- How a deletion ends (OCI distribution specification, "Deleting manifests"), by what the wire to the host that is to be changed
-- told before it and tells behind it. Mirrors, rewritings and blocked tables have no part in it.
use Rattle.std.specs.Prelude.{◌≡◌, ◌≢◌, [], ℕ, Bool, true, false, List, Option, Some, Result, Ok, Err}
use Rattle.skopeo_outside.specs.LaneTold.{WireTold, LaneTold}
use Rattle.skopeo_outside.specs.declared.words.Fetched.{Fetched}
use Rattle.skopeo_outside.specs.declared.words.Step.TheVariants as step
use Rattle.image_ref.specs.Digest.{digest_text}
use Rattle.image_ref.specs.Reference.{Reference}
use Rattle.digest_reader.specs.Digests.{digest}
use Rattle.http_exchange.specs.Plain.{GainsPlain}
use Rattle.registry_http.specs.declared.fault.RegistryFault.{RegistryFault}
use Rattle.registry_http.specs.declared.registry.Registry.{Registry}
use Rattle.registry_http.specs.Puts.{GainsDelete}
use Rattle.registry_http.specs.Requests.{manifest_request, delete_request}
use Rattle.registry_http.specs.Rows.{manifest_row, done_row}
use Rattle.registry_http.specs.Steps.{Steps, CountsStep, most_manifest_bytes}
use Rattle.registries_conf.specs.Settings.{Settings}
use Rattle.registries_conf.specs.SourcesOf.{is_insecure}
use Rattle.transports.specs.Registries.{registry_of, name_in}
use Rattle.transports.specs.Tried.{may_ask}
use Rattle.registry_commands.specs.declared.fault.CommandFault.{CommandFault}
use Rattle.registry_commands.specs.declared.fault.CommandFault.TheVariants as fault
use Rattle.registry_commands.specs.Faults.{delete_fault}
use Rattle.registry_commands.specs.Said.{IsNamed}

-- a manifest was asked for by one exchange, which alone was gained, and this came of it; the wire is blamed only where the
-- count of its faults rose in that exchange
pub record GetsManifest (registry : Registry) (name : List ℕ) (old new : WireTold) (answer : Result Fetched RegistryFault) : Type 0 where
  pub step : Steps step.Manifest (manifest_request registry name) [] most_manifest_bytes (manifest_row step.Manifest) old.talks new.talks answer
  pub plain : GainsPlain old.talks new.talks
  pub counts : CountsStep old.faults new.faults answer
  pub closed : new.is_open ≡ false

-- the same of the deletion of the manifest of a digest
pub record SendsDelete (registry : Registry) (hash : List ℕ) (old new : WireTold) (answer : Result (Unit {0}) RegistryFault) : Type 0 where
  pub step : Steps step.Delete (delete_request registry (digest_text hash)) [] 0 (done_row step.Delete) old.talks new.talks answer
  pub own : GainsDelete (delete_request registry (digest_text hash)) old.talks new.talks
  pub counts : CountsStep old.faults new.faults answer
  pub closed : new.is_open ≡ false

-- How the deletion of the manifest of a reference ends:
--   unasked: the host may not be asked over plain HTTP, and was not
--   wanted: memory was wanting before anything was asked
--   ungiven: the GET gave no manifest, and no DELETE was sent
--   differs: the bytes that came have another digest than is named, and no DELETE was sent
--   undeleted: the DELETE of the digest of the bytes that came was not answered well
--   deleted: it was
pub data Deletes (conf : Settings) (tls : Option Bool) (r : Reference) (old new : WireTold) (result : Result (Unit {0}) CommandFault) : Type 0 where
  unasked : may_ask tls (is_insecure conf r) ≡ false → new ≡ old → result ≡ Err (fault.TlsRequired r.host) → Deletes conf tls r old new result
  wanted : new ≡ old → result ≡ Err fault.Memory → Deletes conf tls r old new result
  ungiven : may_ask tls (is_insecure conf r) ≡ true → (e : RegistryFault) → GetsManifest (registry_of r) (name_in r) old new (Err e)
      → result ≡ Err (delete_fault step.Manifest new.faults e) → Deletes conf tls r old new result
  differs : may_ask tls (is_insecure conf r) ≡ true → (fetched : Fetched) → GetsManifest (registry_of r) (name_in r) old new (Ok fetched)
      → (named : List ℕ) → r.digest ≡ Some named → digest fetched.bytes ≢ named
      → result ≡ Err (fault.ManifestDigest named (digest fetched.bytes)) → Deletes conf tls r old new result
  undeleted : may_ask tls (is_insecure conf r) ≡ true → (fetched : Fetched) → (between : WireTold)
      → GetsManifest (registry_of r) (name_in r) old between (Ok fetched) → IsNamed r.digest fetched.bytes
      → (e : RegistryFault) → SendsDelete (registry_of r) (digest fetched.bytes) between new (Err e)
      → result ≡ Err (delete_fault step.Delete new.faults e) → Deletes conf tls r old new result
  deleted : may_ask tls (is_insecure conf r) ≡ true → (fetched : Fetched) → (between : WireTold)
      → GetsManifest (registry_of r) (name_in r) old between (Ok fetched) → IsNamed r.digest fetched.bytes
      → SendsDelete (registry_of r) (digest fetched.bytes) between new (Ok tt) → result ≡ Ok tt → Deletes conf tls r old new result

-- of a lane its wire to a destination alone took part in a call
pub record OnDest (old new : LaneTold) : Type 0 where
  pub from : new.from ≡ old.from
  pub files : new.files ≡ old.files
  pub number : new.number ≡ old.number

-- a deletion on a lane, of which the wire to a destination alone took part
pub record Deletion (conf : Settings) (tls : Option Bool) (r : Reference) (old new : LaneTold) (result : Result (Unit {0}) CommandFault) : Type 0 where
  pub on : OnDest old new
  pub ends : Deletes conf tls r old.to new.to result
