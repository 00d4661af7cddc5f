use Rattle.admission.proofs.GateLemmas.{case_asks}
use Rattle.admission.proofs.gate.judge_by.Goals as goal

pub returns-in-Err-clause-asks : goal.returns-in-Err-clause-asks
returns-in-Err-clause-asks g c = case_asks _ c.args.plan.now _ _ c.verifier_of.ensures.is c.admit.ensures.asked

pub returns-in-Ok-clause-asks : goal.returns-in-Ok-clause-asks
returns-in-Ok-clause-asks g c = case_asks _ c.args.plan.now _ _ c.verifier_of.ensures.is c.admit.ensures.asked
