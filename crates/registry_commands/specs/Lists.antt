-- How a list of tags ends (OCI distribution specification, "Listing tags"), by what the wire to a source told before it and tells
-- behind it. The tags are asked for at the primary location of the repository; mirrors have no part in it.
use Rattle.std.specs.Prelude.{◌≡◌, ◌⊎◌, ◌∷◌, [], ℕ, Bool, true, false, List, Option, Some, None, Result, Ok, Err}
use Rattle.skopeo_outside.specs.LaneTold.{WireTold, LaneTold}
use Rattle.image_ref.specs.Reference.{Reference, full}
use Rattle.http_exchange.specs.Plain.{GainsPlain}
use Rattle.registry_http.specs.declared.fault.RegistryFault.{RegistryFault}
use Rattle.registry_http.specs.Steps.{CountsStep}
use Rattle.registry_http.specs.Tags.{AreListed, first_page}
use Rattle.registries_conf.specs.declared.settings.Table.{Table}
use Rattle.registries_conf.specs.declared.sources.Source.{Source}
use Rattle.registries_conf.specs.Settings.{Settings}
use Rattle.registries_conf.specs.IsSources.{Counts, NoneCounts, IsSourceAt, IsBlocked, alone}
use Rattle.transports.specs.declared.attempt.Attempt.{Attempt}
use Rattle.transports.specs.declared.attempt.AttemptCause.TheVariants as why
use Rattle.transports.specs.Registries.{registry_of}
use Rattle.transports.specs.Tried.{OnSource, may_ask}
use Rattle.registry_commands.specs.declared.fault.CommandFault.{CommandFault}
use Rattle.registry_commands.specs.declared.fault.CommandFault.TheVariants as fault
use Rattle.registry_commands.specs.Faults.{tags_fault}

-- the source at the location of the table that counts for a repository, which is not blocked
pub record IsAtTable (conf : Settings) (r : Reference) (s : Source) : Type 0 where
  pub table : Table
  pub end : ℕ
  pub counts : Counts (full r) conf.tables table end
  pub free : table.blocked ≡ false
  pub is : IsSourceAt r end table.location table.insecure s

-- the primary location of a repository: that of the table that counts; without such a table the repository itself
abbrev pub IsPrimary : Settings → Reference → Source → Type 0
IsPrimary conf r s = (NoneCounts (full r) conf.tables × (s ≡ alone r)) ⊎ IsAtTable conf r s

-- the one attempt at a source whose text is no reference of the repository
abbrev pub rewritten_attempt : Source → Attempt
rewritten_attempt s = record { source = s.text; cause = why.BadRewrite s.text }

-- the tags of a repository were asked for page by page, nothing else was gained, and this came of it; the wire is blamed only
-- where the count of its faults rose in between
pub record AsksTags (r : Reference) (old new : WireTold) (answer : Result (List (List ℕ)) RegistryFault) : Type 0 where
  pub listed : AreListed (first_page (registry_of r)) old.talks new.talks answer
  pub plain : GainsPlain old.talks new.talks
  pub counts : CountsStep old.faults new.faults answer
  pub closed : new.is_open ≡ false

-- what the pages came to
abbrev pub tags_end : ℕ → Result (List (List ℕ)) RegistryFault → Result (List (List ℕ)) CommandFault
tags_end faults (Ok tags) = Ok tags
tags_end faults (Err e) = Err (tags_fault faults e)

-- How the list of the tags of a repository ends:
--   blocked: the table that counts is blocked, and nothing was asked
--   rewritten: the text at the primary location is no reference of the repository, and nothing was asked
--   unasked: the host there may not be asked over plain HTTP, and was not
--   wanted: memory was wanting before anything was asked
--   asked: the tags were asked for there, and came, or the fault says why not
pub data Lists (conf : Settings) (tls : Option Bool) (r : Reference) (old new : WireTold) (result : Result (List (List ℕ)) CommandFault) : Type 0 where
  blocked : (number : ℕ) → IsBlocked conf r number → new ≡ old → result ≡ Err (fault.Blocked number) → Lists conf tls r old new result
  rewritten : (s : Source) → IsPrimary conf r s → s.reference ≡ None → new ≡ old
      → result ≡ Err (fault.NoSource (rewritten_attempt s ∷ [])) → Lists conf tls r old new result
  unasked : (s : Source) → IsPrimary conf r s → (at : Reference) → s.reference ≡ Some at → may_ask tls s.insecure ≡ false → new ≡ old
      → result ≡ Err (fault.TlsRequired at.host) → Lists conf tls r old new result
  wanted : new ≡ old → result ≡ Err fault.Memory → Lists conf tls r old new result
  asked : (s : Source) → IsPrimary conf r s → (at : Reference) → s.reference ≡ Some at → may_ask tls s.insecure ≡ true
      → (answer : Result (List (List ℕ)) RegistryFault) → AsksTags at old new answer → result ≡ tags_end new.faults answer → Lists conf tls r old new result

-- a list of tags on a lane, of which the wire to a source alone took part
pub record Listing (conf : Settings) (tls : Option Bool) (r : Reference) (old new : LaneTold) (result : Result (List (List ℕ)) CommandFault) : Type 0 where
  pub on : OnSource old new
  pub ends : Lists conf tls r old.from new.from result
