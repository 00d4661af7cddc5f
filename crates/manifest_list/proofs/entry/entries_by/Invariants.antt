use Rattle.std.proofs.Common.{List}
use Rattle.manifest_v2s2.specs.Known.{AreFirstSizes}
use Rattle.manifest_v2s2.specs.declared.sizes.Known.{Known}
use Rattle.manifest_list.proofs.LoopLemmas.{IsReadSoFar}
use Rattle.manifest_list.proofs.entry.entries_by.Given as goal

abbrev pub invariant-loop-place : goal.invariant-loop-place
invariant-loop-place l = (known : List Known) → AreFirstSizes l.fn.sizes known → IsReadSoFar l.all l.sizes known l.place l.items
