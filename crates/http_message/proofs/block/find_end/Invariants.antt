use Rattle.http_message.specs.Blocks.{HasNoEnd}
use Rattle.http_message.proofs.block.find_end.Given as goal

abbrev pub invariant-loop-i : goal.invariant-loop-i
invariant-loop-i l = HasNoEnd l.ending l.bytes l.i
