use Rattle.std.proofs.Common.{map, string_bytes}
use Rattle.skopeo_words.proofs.CommandLaw.{commands, copies, faults}
use Rattle.skopeo_words.proofs.read.read_words.Goals as goal

pub returns-clause-grammar : goal.returns-clause-grammar
returns-clause-grammar c = commands (map string_bytes c.args.words.now)

pub returns-clause-faults : goal.returns-clause-faults
returns-clause-faults c = faults (map string_bytes c.args.words.now)

pub returns-then-words-gt4294967294-clause-grammar : goal.returns-then-words-gt4294967294-clause-grammar
returns-then-words-gt4294967294-clause-grammar c = commands (map string_bytes c.args.words.now)

pub returns-then-words-gt4294967294-clause-faults : goal.returns-then-words-gt4294967294-clause-faults
returns-then-words-gt4294967294-clause-faults c = faults (map string_bytes c.args.words.now)

pub returns-in_err-parts-clause-grammar : goal.returns-in_err-parts-clause-grammar
returns-in_err-parts-clause-grammar c = commands (map string_bytes c.args.words.now)

pub returns-in_err-parts-clause-faults : goal.returns-in_err-parts-clause-faults
returns-in_err-parts-clause-faults c = faults (map string_bytes c.args.words.now)

pub returns-clause-copies : goal.returns-clause-copies
returns-clause-copies c = copies (map string_bytes c.args.words.now)

pub returns-then-words-gt4294967294-clause-copies : goal.returns-then-words-gt4294967294-clause-copies
returns-then-words-gt4294967294-clause-copies c = copies (map string_bytes c.args.words.now)

pub returns-in_err-parts-clause-copies : goal.returns-in_err-parts-clause-copies
returns-in_err-parts-clause-copies c = copies (map string_bytes c.args.words.now)
