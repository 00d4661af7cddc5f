use Rattle.std.proofs.Common.{rules}
use Rattle.admission.proofs.AdmitLemmas.{judged_refuses}
use Rattle.admission.proofs.admitted.admit.Goals as goal

pub returns-in-Err-clause-ends : goal.returns-in-Err-clause-ends
returns-in-Err-clause-ends g c =
    judged_refuses c.args.plan.now c.args.policy.now c.args.submission c.args.lane.now _ _ _ _ _ c.in-Err.fault c.refusal_of.result (search rules) (search rules) (search rules) (search rules) (search rules)

pub take-requires-clause-held : goal.take-requires-clause-held
take-requires-clause-held g c = rw (c.of-before.ensures, c.of-after.ensures, c.of-files.ensures, c.in-Ok.ensures.kept) c.in-Ok.ensures.ends
