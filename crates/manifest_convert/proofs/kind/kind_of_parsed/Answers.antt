use Rattle.manifest_convert.proofs.KindLemmas.{first-kind, tells-kind}
use Rattle.manifest_convert.proofs.kind.kind_of_parsed.Goals as goal

pub returns-clause-first : goal.returns-clause-first
returns-clause-first c = first-kind _ _ _ c.kind_in_parsed.ensures

pub returns-clause-rows : goal.returns-clause-rows
returns-clause-rows c = tells-kind _ _ _ c.kind_in_parsed.ensures
