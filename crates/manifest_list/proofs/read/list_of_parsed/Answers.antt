use Rattle.manifest_list.proofs.BadLemmas.{first-parsed}
use Rattle.manifest_list.proofs.RelationLemmas.{tells-list}
use Rattle.manifest_list.proofs.read.list_of_parsed.Goals as goal

pub returns-clause-first : goal.returns-clause-first
returns-clause-first c = first-parsed _ _ _ c.list_in_parsed.ensures

pub returns-clause-format : goal.returns-clause-format
returns-clause-format c = tells-list _ _ _ c.requires.of_lists c.list_in_parsed.ensures
