-- Which refusals the faults of steps at a registry are (docs/refusals.md). The count is that of the wire's faults.
use Rattle.std.specs.Prelude.{ℕ}
use Rattle.skopeo_outside.specs.declared.words.Step.{Step}
use Rattle.skopeo_outside.specs.declared.words.Step.TheVariants as step
use Rattle.skopeo_outside.specs.declared.words.What.{What}
use Rattle.skopeo_outside.specs.declared.words.What.TheVariants as what
use Rattle.http_message.specs.declared.fault.ExchangeFault.{ExchangeFault}
use Rattle.http_message.specs.declared.fault.ExchangeFault.TheVariants as long
use Rattle.registry_http.specs.declared.fault.RegistryFault.{RegistryFault}
use Rattle.registry_http.specs.declared.fault.RegistryFault.TheVariants as short
use Rattle.registry_commands.specs.declared.fault.CommandFault.{CommandFault}
use Rattle.registry_commands.specs.declared.fault.CommandFault.TheVariants as fault

-- the exchange of a step gave no response; a body that is too long is named so
abbrev pub exchange_fault : Step → What → ℕ → ExchangeFault → CommandFault
exchange_fault s body faults (long.BadAnswer t first) = fault.BadAnswer t first
exchange_fault s body faults long.Wire = fault.Wire faults
exchange_fault s body faults (long.HeadTooLong n) = fault.TooLarge what.Head n
exchange_fault s body faults (long.HeadersTooMany n) = fault.TooLarge what.Headers n
exchange_fault s body faults (long.BodyTooLong n) = fault.TooLarge body n
exchange_fault s body faults long.Encoded = fault.Encoded s
exchange_fault s body faults long.TooManyRedirects = fault.TooManyRedirects s
exchange_fault s body faults (long.TlsRequired host) = fault.TlsRequired host
exchange_fault s body faults long.Memory = fault.Memory

-- a step of a deletion gave nothing: another status is refused by the host that is to be changed, that of its GET too
abbrev pub delete_fault : Step → ℕ → RegistryFault → CommandFault
delete_fault s faults (short.Status t number status) = fault.DestRefused t status
delete_fault s faults (short.TooMany kind n) = fault.TooLarge kind n
delete_fault s faults (short.Exchange e) = exchange_fault s what.Manifest faults e
delete_fault s faults short.Memory = fault.Memory

-- the pages of tags came to nothing: another status is refused by the host that is asked
abbrev pub tags_fault : ℕ → RegistryFault → CommandFault
tags_fault faults (short.Status t number status) = fault.SourceRefused t status
tags_fault faults (short.TooMany kind n) = fault.TooLarge kind n
tags_fault faults (short.Exchange e) = exchange_fault step.Tags what.TagsPage faults e
tags_fault faults short.Memory = fault.Memory
