use Rattle.policy_gate.specs.Calls.{subject_of}
use Rattle.policy_gate.proofs.GateLaw.{read_unanswered}
use Rattle.policy_gate.proofs.gate.judge_read.Goals as goal

pub returns-clause-ends : goal.returns-clause-ends
returns-clause-ends g c =
    rw c.in-Read.is
    (read_unanswered (subject_of c.args.gate.now.judged) c.args.rule.now c.args.gate.now.signatures.now c.args.program.now _ c.in-Err.fault _ _
    (rw c.as_slice.ensures at c.in-Err.ensures.ends))
