-- What the calls come to that the commands are made of.
use Rattle.std.specs.Prelude.{◌≡◌, ◌⊎◌, ℕ, List, if◌then◌else◌, Option, Some, None, Result, Ok, Err}
use Rattle.std.specs.Str.{bytes_eq}
use Rattle.skopeo_outside.specs.LaneTold.{WireTold}
use Rattle.skopeo_outside.specs.declared.words.Fetched.{Fetched}
use Rattle.skopeo_outside.specs.declared.words.Step.TheVariants as step
use Rattle.image_ref.specs.Reference.{Reference}
use Rattle.digest_reader.specs.Digests.{digest}
use Rattle.registry_http.specs.declared.fault.RegistryFault.{RegistryFault}
use Rattle.registry_http.specs.declared.registry.Registry.{Registry}
use Rattle.registries_conf.specs.Settings.{Settings}
use Rattle.registries_conf.specs.IsSources.{IsBlocked}
use Rattle.registry_commands.specs.declared.fault.CommandFault.{CommandFault}
use Rattle.registry_commands.specs.declared.fault.CommandFault.TheVariants as fault
use Rattle.registry_commands.specs.Faults.{delete_fault}
use Rattle.registry_commands.specs.Deletes.{GetsManifest, SendsDelete}
use Rattle.registry_commands.specs.Lists.{AsksTags, tags_end}

-- ---- a deletion

-- the digest of bytes, where it is the one that is named
abbrev pub checked : Option (List ℕ) → List ℕ → Result (List ℕ) CommandFault
checked None bytes = Ok (digest bytes)
checked (Some named) bytes = if bytes_eq (digest bytes) named then Ok (digest bytes) else Err (fault.ManifestDigest named (digest bytes))

-- what comes of the answer to the GET
abbrev pub judged : Option (List ℕ) → ℕ → Result Fetched RegistryFault → Result (List ℕ) CommandFault
judged named faults (Ok fetched) = checked named fetched.bytes
judged named faults (Err e) = Err (delete_fault step.Manifest faults e)

-- a manifest was asked for, and its digest came of it
pub record Gets (registry : Registry) (name : List ℕ) (named : Option (List ℕ)) (old new : WireTold) (result : Result (List ℕ) CommandFault) : Type 0 where
  pub answer : Result Fetched RegistryFault
  pub gets : GetsManifest registry name old new answer
  pub is : result ≡ judged named new.faults answer

-- what comes of the answer to the DELETE
abbrev pub ended : ℕ → Result (Unit {0}) RegistryFault → Result (Unit {0}) CommandFault
ended faults (Ok done) = Ok done
ended faults (Err e) = Err (delete_fault step.Delete faults e)

-- a DELETE was sent, and this came of it
pub record Sends (registry : Registry) (hash : List ℕ) (old new : WireTold) (result : Result (Unit {0}) CommandFault) : Type 0 where
  pub answer : Result (Unit {0}) RegistryFault
  pub sends : SendsDelete registry hash old new answer
  pub is : result ≡ ended new.faults answer

-- ---- a list of tags

-- why a repository has no sources that are known: its table is blocked, or memory was wanting
abbrev pub IsUnsourced : Settings → Reference → CommandFault → Type 0
IsUnsourced conf r e = (e ≡ fault.Memory) ⊎ ((number : ℕ) × IsBlocked conf r number × (e ≡ fault.Blocked number))

-- the tags of a repository were asked for, or memory was wanting before
abbrev pub TagsCome : Reference → WireTold → WireTold → Result (List (List ℕ)) CommandFault → Type 0
TagsCome r old new result =
    ((new ≡ old) × (result ≡ Err fault.Memory))
    ⊎ ((answer : Result (List (List ℕ)) RegistryFault) × AsksTags r old new answer × (result ≡ tags_end new.faults answer))
