use Rattle.manifest_v2s2.proofs.IsImageLemmas.{tells-image}
use Rattle.manifest_v2s2.proofs.ReadLemmas.{first-image}
use Rattle.manifest_v2s2.proofs.image.read_image_as.Goals as goal

pub returns-clause-first : goal.returns-clause-first
returns-clause-first c = first-image _ _ _ c.image_of_bytes.ensures

pub returns-clause-format : goal.returns-clause-format
returns-clause-format c = tells-image _ _ _ c.requires c.image_of_bytes.ensures
