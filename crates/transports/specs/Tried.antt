-- The sources of an image that are tried in order, up to the first that gives the manifest (containers-registries.conf(5)).
use Rattle.std.specs.Prelude.{◌≡◌, ◌⊎◌, ◌∷◌, [], ℕ, Bool, true, false, not, List, if◌then◌else◌, Option, Some, None, Result, Ok, Err}
use Rattle.std.specs.Str.{bytes_eq}
use Rattle.skopeo_outside.specs.LaneTold.{LaneTold}
use Rattle.skopeo_outside.specs.declared.words.Step.TheVariants as step
use Rattle.skopeo_outside.specs.declared.words.What.TheVariants as what
use Rattle.skopeo_outside.specs.declared.words.Fetched.{Fetched}
use Rattle.image_ref.specs.Reference.{Reference}
use Rattle.digest_reader.specs.Digests.{digest}
use Rattle.http_message.specs.declared.fault.ExchangeFault.{ExchangeFault}
use Rattle.http_message.specs.declared.fault.ExchangeFault.TheVariants as long
use Rattle.registry_http.specs.declared.fault.RegistryFault.{RegistryFault}
use Rattle.registry_http.specs.declared.fault.RegistryFault.TheVariants as fault
use Rattle.registry_http.specs.Requests.{manifest_request}
use Rattle.registry_http.specs.Rows.{manifest_row}
use Rattle.registry_http.specs.Steps.{Steps, CountsStep, most_manifest_bytes}
use Rattle.registries_conf.specs.declared.sources.Source.{Source}
use Rattle.transports.specs.declared.attempt.Attempt.{Attempt}
use Rattle.transports.specs.declared.attempt.AttemptCause.{AttemptCause}
use Rattle.transports.specs.declared.attempt.AttemptCause.TheVariants as why
use Rattle.transports.specs.declared.found.Found.{Found}
use Rattle.transports.specs.declared.source.Source.TheVariants as source
use Rattle.transports.specs.Registries.{registry_of, name_in}

-- ---- one source

-- why a source gave no manifest, by the fault of the exchange and the count of the wire's faults; want of memory is no cause
abbrev pub exchange_cause : ℕ → ExchangeFault → Option AttemptCause
exchange_cause faults (long.BadAnswer s first) = Some (why.BadAnswer s first)
exchange_cause faults long.Wire = Some (why.Wire faults)
exchange_cause faults (long.HeadTooLong n) = Some (why.TooLarge what.Head n)
exchange_cause faults (long.HeadersTooMany n) = Some (why.TooLarge what.Headers n)
exchange_cause faults (long.BodyTooLong n) = Some (why.TooLarge what.Manifest n)
exchange_cause faults long.Encoded = Some (why.Encoded step.Manifest)
exchange_cause faults long.TooManyRedirects = Some (why.TooManyRedirects step.Manifest)
exchange_cause faults (long.TlsRequired host) = Some (why.TlsRequired host)
exchange_cause faults long.Memory = None

-- the same by the fault of the step
abbrev pub fault_cause : ℕ → RegistryFault → Option AttemptCause
fault_cause faults (fault.Status s number status) = Some (why.SourceRefused s status)
fault_cause faults (fault.TooMany kind n) = Some (why.TooLarge kind n)
fault_cause faults (fault.Exchange e) = exchange_cause faults e
fault_cause faults fault.Memory = None

-- a manifest that came, where it has the digest that the reference names
abbrev pub checked : Option (List ℕ) → Fetched → Result Fetched AttemptCause
checked None fetched = Ok fetched
checked (Some named) fetched = if bytes_eq (digest fetched.bytes) named then Ok fetched else Err (why.ManifestDigest named (digest fetched.bytes))

-- what comes of the answer
abbrev pub IsBy : Reference → ℕ → Result Fetched RegistryFault → Result Fetched AttemptCause → Type 0
IsBy r faults (Ok fetched) result = result ≡ checked r.digest fetched
IsBy r faults (Err e) result = (cause : AttemptCause) × (fault_cause faults e ≡ Some cause) × (result ≡ Err cause)

-- of a lane its wire to the source alone took part in a call
pub record OnSource (old new : LaneTold) : Type 0 where
  pub to : new.to ≡ old.to
  pub files : new.files ≡ old.files
  pub number : new.number ≡ old.number

-- the manifest of a reference was asked for by one exchange, which alone was gained, and this came of it; a wire is blamed only
-- where the count of its faults rose in that exchange
pub record AsksManifest (r : Reference) (old new : LaneTold) (result : Result Fetched AttemptCause) : Type 0 where
  pub on : OnSource old new
  pub answer : Result Fetched RegistryFault
  pub asked : Steps step.Manifest (manifest_request (registry_of r) (name_in r)) [] most_manifest_bytes (manifest_row step.Manifest) old.from.talks new.from.talks answer
  pub counts : CountsStep old.from.faults new.from.faults answer
  pub is : IsBy r new.from.faults answer result

-- a source may be asked over plain HTTP: as the option says whether TLS is verified, or else by its own mark
abbrev pub may_ask : Option Bool → Bool → Bool
may_ask (Some verify) mark = not verify
may_ask None mark = mark

-- the source that answered
abbrev pub found_at : Reference → Result Fetched AttemptCause → Result Found AttemptCause
found_at r (Ok fetched) = Ok (record { from = source.Registry r; fetched = fetched })
found_at r (Err cause) = Err cause

-- one source was tried: without a reference, or where it may not be asked, nothing was; else its manifest was asked for
abbrev pub IsTriedBy : Bool → Option Reference → List ℕ → LaneTold → LaneTold → Result Found AttemptCause → Type 0
IsTriedBy may None text old new result = (result ≡ Err (why.BadRewrite text)) × (new ≡ old)
IsTriedBy false (Some r) text old new result = (result ≡ Err (why.TlsRequired r.host)) × (new ≡ old)
IsTriedBy true (Some r) text old new result = (x : Result Fetched AttemptCause) × AsksManifest r old new x × (result ≡ found_at r x)

abbrev pub IsTried : Option Bool → Source → LaneTold → LaneTold → Result Found AttemptCause → Type 0
IsTried tls s old new result = IsTriedBy (may_ask tls s.insecure) s.reference s.text old new result

-- ---- all of them

-- one failed attempt more, told ahead of the others
abbrev pub behind : Attempt → Result Found (List Attempt) → Result Found (List Attempt)
behind attempt (Ok found) = Ok found
behind attempt (Err attempts) = Err (attempt ∷ attempts)

-- the first source answers; or it fails, for a cause that its own stretch shows, and the others are tried behind it. Without
-- a source nothing is asked.
abbrev pub AreTried : Option Bool → List Source → LaneTold → LaneTold → Result Found (List Attempt) → Type 0
AreTried tls [] old new result = (result ≡ Err []) × (new ≡ old)
AreTried tls (s ∷ ss) old new result =
    ((found : Found) × IsTried tls s old new (Ok found) × (result ≡ Ok found))
    ⊎ ((between : LaneTold) × (cause : AttemptCause) × (rest : Result Found (List Attempt)) × IsTried tls s old between (Err cause)
    × AreTried tls ss between new rest × (result ≡ behind (record { source = s.text; cause = cause }) rest))
