-- Which refusals and causes the faults of files and of folders are.
use Rattle.std.specs.Prelude.{◌≡◌, ◌⊎◌, ◌≤◌, ℕ, List}
use Rattle.std.specs.Option.{option_map}
use Rattle.skopeo_outside.specs.Tree.{Tree}
use Rattle.skopeo_outside.specs.LaneTold.{LaneTold}
use Rattle.skopeo_outside.specs.declared.stop.Stop.{Stop}
use Rattle.skopeo_outside.specs.declared.stop.Stop.TheVariants as stop
use Rattle.skopeo_outside.specs.declared.words.Step.TheVariants as step
use Rattle.skopeo_outside.specs.declared.words.What.TheVariants as what
use Rattle.digest_reader.specs.declared.job.Job.{Job}
use Rattle.http_message.specs.declared.fault.ExchangeFault.{ExchangeFault}
use Rattle.http_message.specs.declared.fault.ExchangeFault.TheVariants as long
use Rattle.registry_http.specs.declared.fault.RegistryFault.{RegistryFault}
use Rattle.registry_http.specs.declared.fault.RegistryFault.TheVariants as opening
use Rattle.layouts.specs.declared.fault.LayoutFault.{LayoutFault}
use Rattle.layouts.specs.declared.fault.LayoutFault.TheVariants as layout
use Rattle.copy_workers.specs.declared.cause.Cause.{Cause}
use Rattle.copy_workers.specs.declared.cause.Cause.TheVariants as cause
use Rattle.transports.specs.declared.refusal.Refusal.{Refusal}
use Rattle.transports.specs.declared.refusal.Refusal.TheVariants as refusal
use Rattle.transports.specs.Registries.{cause_at}
use Rattle.transports.specs.Given.{refusal_of}

-- the refusal that a stopped call of the files is, with their count of faults
abbrev pub by_stop : Stop → ℕ → Refusal
by_stop stop.Fault count = refusal.Files count
by_stop stop.Memory count = refusal.Memory

-- the cause that it is of a job
abbrev pub cause_by_stop : Stop → ℕ → Cause
cause_by_stop stop.Fault count = cause.Files count
cause_by_stop stop.Memory count = cause.Memory

-- the cause that a fault of a folder is which may come at any step
abbrev pub cause_by_fault : LayoutFault → ℕ → Cause
cause_by_fault layout.Files count = cause.Files count
cause_by_fault _ count = cause.Memory

-- the refusal that such a fault is
abbrev pub by_fault : LayoutFault → ℕ → Refusal
by_fault layout.Files count = refusal.Files count
by_fault _ count = refusal.Memory

-- a fault of a folder as a refusal, or want of memory in its place
abbrev pub IsRefused : List ℕ → ℕ → LayoutFault → Refusal → Type 0
IsRefused folder count layout.Files r = r ≡ refusal.Files count
IsRefused folder count given r = (r ≡ refusal.Memory) ⊎ (r ≡ refusal_of folder given)

-- the refusal of a destination folder that a fault of it is, or want of memory in its place
abbrev pub IsRefusedThere : List ℕ → ℕ → LayoutFault → Refusal → Type 0
IsRefusedThere folder count layout.Files r = r ≡ refusal.Files count
IsRefusedThere folder count layout.Memory r = r ≡ refusal.Memory
IsRefusedThere folder count _ r = (r ≡ refusal.Memory) ⊎ (r ≡ refusal.NotAnImageDir folder)

-- the cause of a job that a fault of an exchange is, with the count of the wire's faults
abbrev pub exchange_by : ℕ → ExchangeFault → Cause
exchange_by faults (long.BadAnswer s first) = cause.BadAnswer s first
exchange_by faults long.Wire = cause.Wire faults
exchange_by faults (long.HeadTooLong n) = cause.TooLarge what.Head n
exchange_by faults (long.HeadersTooMany n) = cause.TooLarge what.Headers n
exchange_by faults (long.BodyTooLong n) = cause.TooLarge what.Answer n
exchange_by faults long.Encoded = cause.Encoded step.Blob
exchange_by faults long.TooManyRedirects = cause.TooManyRedirects step.Blob
exchange_by faults (long.TlsRequired host) = cause.TlsRequired host
exchange_by faults long.Memory = cause.Memory

-- the cause of a job that the fault of its opening at a registry is
abbrev pub fault_by : Job → ℕ → RegistryFault → Cause
fault_by job faults (opening.Status s number status) = cause_at job status
fault_by job faults (opening.TooMany kind n) = cause.TooLarge kind n
fault_by job faults (opening.Exchange fault) = exchange_by faults fault
fault_by job faults opening.Memory = cause.Memory

-- of a lane the files alone took part in a call
pub record OnFiles (old new : LaneTold) : Type 0 where
  pub from : new.from ≡ old.from
  pub to : new.to ≡ old.to
  pub number : new.number ≡ old.number

-- a lane's files did this to their tree, and nothing else went on
pub record FilesDid (change : Tree → Tree) (old new : LaneTold) : Type 0 where
  pub on : OnFiles old new
  pub tree : new.files.tree ≡ option_map change old.files.tree
  pub later : old.files.faults ≤ new.files.faults
