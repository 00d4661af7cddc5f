use Rattle.std.proofs.Common.{sym}
use Rattle.manifest_v2s2.proofs.IsImageLemmas.{no-image}
use Rattle.manifest_convert.proofs.any.read_any_image.Goals as goal

pub returns-then-is_list-clause-format : goal.returns-then-is_list-clause-format
returns-then-is_list-clause-format c = λ j says. no-image _ _ j (sym c.if-is_list.ensures) says
