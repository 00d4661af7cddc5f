use Rattle.image_ref.proofs.DockerLaw.{image_read, read_image, image_fault_first, first_image_fault}
use Rattle.image_ref.proofs.named.parse_docker.Goals as goal

pub returns-in_err-named-clause-grammar : goal.returns-in_err-named-clause-grammar
returns-in_err-named-clause-grammar c = λ r. (read_image c.args.text.now r, image_read c.args.text.now r)

pub returns-in_err-named-clause-faults : goal.returns-in_err-named-clause-faults
returns-in_err-named-clause-faults c = λ e. (image_fault_first c.args.text.now e, first_image_fault c.args.text.now e)

pub returns-clause-grammar : goal.returns-clause-grammar
returns-clause-grammar c = λ r. (read_image c.args.text.now r, image_read c.args.text.now r)

pub returns-clause-faults : goal.returns-clause-faults
returns-clause-faults c = λ e. (image_fault_first c.args.text.now e, first_image_fault c.args.text.now e)
