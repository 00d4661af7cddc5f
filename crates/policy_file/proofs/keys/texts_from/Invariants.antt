use Rattle.policy_file.proofs.TextLemmas.{AreReadSoFar}
use Rattle.policy_file.proofs.keys.texts_from.Given as goal

abbrev pub invariant-loop-item : goal.invariant-loop-item
invariant-loop-item l = AreReadSoFar l.texts l.item-index l.items
