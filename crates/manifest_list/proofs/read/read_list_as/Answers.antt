use Rattle.manifest_list.proofs.BadLemmas.{first-list}
use Rattle.manifest_list.proofs.RelationLemmas.{tells-list}
use Rattle.manifest_list.proofs.read.read_list_as.Goals as goal

pub returns-clause-first : goal.returns-clause-first
returns-clause-first c = first-list _ _ _ c.list_of_bytes.ensures

pub returns-clause-format : goal.returns-clause-format
returns-clause-format c = tells-list _ _ _ c.requires.of_lists c.list_of_bytes.ensures
