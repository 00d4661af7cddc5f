use Rattle.std.proofs.Common.{sym}
use Rattle.manifest_list.proofs.RelationLemmas.{no-list}
use Rattle.manifest_list.proofs.read.read_any_list.Goals as goal

pub returns-clause-format : goal.returns-clause-format
returns-clause-format c = λ j says. no-list _ _ j (sym c.if-is_list.ensures) says
