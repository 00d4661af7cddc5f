use Rattle.manifest_oci.proofs.WrittenLemmas.{again-oci, said-oci}
use Rattle.manifest_oci.proofs.image.write_image.Goals as goal

pub returns-clause-again : goal.returns-clause-again
returns-clause-again c = λ w. again-oci _ _ w c.write_image.ensures.again

pub returns-clause-format : goal.returns-clause-format
returns-clause-format c = λ w. said-oci _ _ w c.write_image.ensures.again
