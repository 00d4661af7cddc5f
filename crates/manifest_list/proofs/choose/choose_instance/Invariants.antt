use Rattle.std.specs.Option.{option_copied}
use Rattle.manifest_list.specs.Choice.{asked}
use Rattle.manifest_list.proofs.LoopLemmas.{IsLeft}
use Rattle.manifest_list.proofs.choose.choose_instance.Given as goal

abbrev pub invariant-loop-place : goal.invariant-loop-place
invariant-loop-place l = IsLeft (asked l.os l.arch (option_copied l.variant)) l.place l.list.entries
