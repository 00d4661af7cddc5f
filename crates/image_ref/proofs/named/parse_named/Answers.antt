use Rattle.std.proofs.Common.{sym, ◌∙◌}
use Rattle.image_ref.proofs.NamedLaw.{named_read}
use Rattle.image_ref.proofs.ReadLaw.{read_named}
use Rattle.image_ref.proofs.FaultLaw.{fault_first}
use Rattle.image_ref.proofs.OneFault.{first_fault}
use Rattle.image_ref.proofs.WithinLaw.{judged_within}
use Rattle.image_ref.proofs.AgainLaw.{judged_again}
use Rattle.image_ref.proofs.named.parse_named.Goals as goal

pub returns-clause-grammar : goal.returns-clause-grammar
returns-clause-grammar c = λ r. (read_named c.args.text.now r, named_read c.args.text.now r)

pub returns-clause-faults : goal.returns-clause-faults
returns-clause-faults c = λ e. (fault_first c.args.text.now e, first_fault c.args.text.now e)

pub returns-then-is_empty-clause-faults : goal.returns-then-is_empty-clause-faults
returns-then-is_empty-clause-faults c = λ e. (fault_first c.args.text.now e, first_fault c.args.text.now e)

pub returns-then-is_hex_name-clause-faults : goal.returns-then-is_hex_name-clause-faults
returns-then-is_hex_name-clause-faults c = λ e. (fault_first c.args.text.now e, first_fault c.args.text.now e)

pub returns-clause-within : goal.returns-clause-within
returns-clause-within c = judged_within c.args.text.now _ c.judge.result (sym c.is_empty.ensures ∙ c.if-is_empty.false) (sym c.is_hex_name.ensures ∙ c.if-is_hex_name.false) c.pieces_of.ensures.pieces c.judge.ensures

pub judge-requires-clause-again : goal.judge-requires-clause-again
judge-requires-clause-again c = λ r h. judged_again c.args.text.now _ r (sym c.is_empty.ensures ∙ c.if-is_empty.false) (sym c.is_hex_name.ensures ∙ c.if-is_hex_name.false) c.pieces_of.ensures.pieces h
