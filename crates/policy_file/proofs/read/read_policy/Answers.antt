use Rattle.policy_file.proofs.FaultLaw.{faults}
use Rattle.policy_file.proofs.PolicyLaw.{read_says, said_reads}
use Rattle.policy_file.proofs.read.read_policy.Goals as goal

pub returns-in_err-tree-clause-grammar : goal.returns-in_err-tree-clause-grammar
returns-in_err-tree-clause-grammar c = λ lists. (read_says c.args.bytes.now lists, said_reads c.args.bytes.now lists)

pub returns-in-Ok-clause-grammar : goal.returns-in-Ok-clause-grammar
returns-in-Ok-clause-grammar c = λ lists. (read_says c.args.bytes.now lists, said_reads c.args.bytes.now lists)

pub returns-clause-grammar : goal.returns-clause-grammar
returns-clause-grammar c = λ lists. (read_says c.args.bytes.now lists, said_reads c.args.bytes.now lists)

pub returns-in_err-tree-clause-faults : goal.returns-in_err-tree-clause-faults
returns-in_err-tree-clause-faults c = faults c.args.bytes.now

pub returns-in-Ok-clause-faults : goal.returns-in-Ok-clause-faults
returns-in-Ok-clause-faults c = faults c.args.bytes.now

pub returns-clause-faults : goal.returns-clause-faults
returns-clause-faults c = faults c.args.bytes.now
