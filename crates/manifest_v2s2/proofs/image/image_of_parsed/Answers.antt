use Rattle.manifest_v2s2.proofs.IsImageLemmas.{tells-image}
use Rattle.manifest_v2s2.proofs.ReadLemmas.{first-parsed}
use Rattle.manifest_v2s2.proofs.image.image_of_parsed.Goals as goal

pub returns-clause-first : goal.returns-clause-first
returns-clause-first c = first-parsed _ _ _ c.image_in_parsed.ensures

pub returns-clause-format : goal.returns-clause-format
returns-clause-format c = tells-image _ _ _ c.requires c.image_in_parsed.ensures
