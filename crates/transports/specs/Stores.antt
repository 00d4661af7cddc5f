-- The signatures of an image at a registry, which are stored apart from it at a base (containers-registries.d(5)).
use Rattle.std.specs.Prelude.{◌≡◌, ℕ, [], List, Option, Some, None, Result, Ok, Err, true, if◌then◌else◌}
use Rattle.skopeo_outside.specs.LaneTold.{LaneTold}
use Rattle.skopeo_outside.specs.declared.words.Step.TheVariants as step
use Rattle.skopeo_outside.specs.declared.words.What.TheVariants as what
use Rattle.image_ref.specs.Reference.{IsPath}
use Rattle.image_ref.specs.declared.place.Place.{Place}
use Rattle.image_ref.specs.declared.place.Place.TheVariants.{Docker, Dir, Oci}
use Rattle.digest_reader.specs.Digests.{digest}
use Rattle.http_message.specs.declared.fault.ExchangeFault.{ExchangeFault}
use Rattle.http_message.specs.declared.fault.ExchangeFault.TheVariants as long
use Rattle.registry_http.specs.declared.fault.RegistryFault.{RegistryFault}
use Rattle.registry_http.specs.declared.fault.RegistryFault.TheVariants as fault
use Rattle.registry_http.specs.Lookaside.{is_base, AreGot}
use Rattle.registry_http.specs.Steps.{CountsStep}
use Rattle.transports.specs.declared.plan.CopyPlan.{CopyPlan}
use Rattle.transports.specs.declared.refusal.Refusal.{Refusal}
use Rattle.transports.specs.declared.refusal.Refusal.TheVariants as refusal
use Rattle.transports.specs.Tried.{OnSource}

-- where the signatures of a manifest are: a base, the path of the image as it is named, and the manifest's digest
pub record StoreAt : Type 0 where
  pub base : List ℕ
  pub path : List ℕ
  pub digest : List ℕ

-- a base, and the path of an image
pub record IsStore (s : StoreAt) : Type 0 where
  pub base : is_base s.base ≡ true
  pub path : IsPath s.path

-- the store of an image by the base that is named: an image at a registry has one, and no other. A text that is no base
-- names none.
abbrev pub store_in : Option (List ℕ) → Place → List ℕ → Option StoreAt
store_in None place bytes = None
store_in (Some base) (Docker r) bytes = if is_base base then Some (record { base = base; path = r.path; digest = digest bytes }) else None
store_in (Some base) (Dir path) bytes = None
store_in (Some base) (Oci path tag) bytes = None

-- that of the image at a place, as it is named, whose manifest is these bytes
unfoldable pub store_of : CopyPlan → Place → List ℕ → Option StoreAt
store_of plan place bytes = store_in plan.lookaside place bytes

-- why stored signatures could not be read, by the fault of the exchange and the count of the wire's faults
abbrev pub exchange_refusal : ℕ → ExchangeFault → Refusal
exchange_refusal faults (long.BadAnswer s first) = refusal.BadAnswer s first
exchange_refusal faults long.Wire = refusal.Wire faults
exchange_refusal faults (long.HeadTooLong n) = refusal.TooLarge what.Head n
exchange_refusal faults (long.HeadersTooMany n) = refusal.TooLarge what.Headers n
exchange_refusal faults (long.BodyTooLong n) = refusal.TooLarge what.Signature n
exchange_refusal faults long.Encoded = refusal.Encoded step.Signature
exchange_refusal faults long.TooManyRedirects = refusal.TooManyRedirects step.Signature
exchange_refusal faults (long.TlsRequired host) = refusal.TlsRequired host
exchange_refusal faults long.Memory = refusal.Memory

-- the same by the fault of the step
abbrev pub stored_refusal : ℕ → RegistryFault → Refusal
stored_refusal faults (fault.Status s number status) = refusal.LookasideRefused number status
stored_refusal faults (fault.TooMany kind n) = refusal.TooLarge kind n
stored_refusal faults (fault.Exchange e) = exchange_refusal faults e
stored_refusal faults fault.Memory = refusal.Memory

abbrev pub by_store : ℕ → Result (List (List ℕ)) RegistryFault → Result (List (List ℕ)) Refusal
by_store faults (Ok signatures) = Ok signatures
by_store faults (Err e) = Err (stored_refusal faults e)

-- the signatures were asked of the store one by one, and nothing else was done; a wire is blamed only where the count of its
-- faults rose
pub record AreStored (s : StoreAt) (old new : LaneTold) (result : Result (List (List ℕ)) Refusal) : Type 0 where
  pub on : OnSource old new
  pub answer : Result (List (List ℕ)) RegistryFault
  pub got : AreGot s.base s.path s.digest [] old.from.talks new.from.talks answer
  pub counts : CountsStep old.from.faults new.from.faults answer
  pub is : result ≡ by_store new.from.faults answer
