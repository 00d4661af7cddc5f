use Rattle.std.proofs.Common.{◌≡◌, ◌++◌, ◌∷◌, [], arith, rules}
use Rattle.policy_gate.specs.Calls.{subject_of, asker_of}
use Rattle.policy_gate.proofs.RunLaw.{refused_more, accepted_at, muted_at, wanted_at}
use Rattle.policy_gate.proofs.verify.verify.Goals as goal

pub returns-in-Err-clause-ends : goal.returns-in-Err-clause-ends
returns-in-Err-clause-ends g c =
    muted_at (subject_of c.args.judged.now) c.args.rule.now (asker_of c.args.asked.now) c.args.signatures.now c.loop-signature.signature-index c.signature-item.result c.loop-signature.reasons c.in-Err.fault _ _ _
    c.loop-signature-test.true c.signature-item.is c.loop-signature.invariant.gained (rw c.as_slice.ensures at c.in-Err.ensures.ends)

pub returns-in-Ok-None-clause-ends : goal.returns-in-Ok-None-clause-ends
returns-in-Ok-None-clause-ends g c =
    accepted_at (subject_of c.args.judged.now) c.args.rule.now (asker_of c.args.asked.now) c.args.signatures.now c.loop-signature.signature-index c.signature-item.result c.loop-signature.reasons _ _ _
    c.loop-signature-test.true c.signature-item.is c.loop-signature.invariant.gained (rw (c.as_slice.ensures, c.in-Ok-None.field-0-is) at c.in-Ok-None.ensures.ends)

pub returns-then-is_err-clause-ends : goal.returns-then-is_err-clause-ends
returns-then-is_err-clause-ends g c =
    wanted_at (subject_of c.args.judged.now) c.args.rule.now (asker_of c.args.asked.now) c.args.signatures.now c.loop-signature.signature-index c.signature-item.result c.loop-signature.reasons c.in-Ok-Some.reason _ _ _
    c.loop-signature-test.true c.signature-item.is c.loop-signature.invariant.gained (rw (c.as_slice.ensures, c.in-Ok-Some.field-0-is) at c.in-Ok-Some.ensures.ends)

pub loop-signature-preserved : goal.loop-signature-preserved
loop-signature-preserved g c =
    let pushed : c.push.new.self ≡ c.loop-signature.reasons ++ c.in-Ok-Some.reason ∷ [] = search rules in
    record {
      later = omega (arith, c.loop-signature.invariant.later, c.in-Ok-Some.ensures.cause.later);
      gained = refused_more (subject_of c.args.judged.now) c.args.rule.now (asker_of c.args.asked.now) c.args.signatures.now c.loop-signature.signature-index c.signature-item.result c.loop-signature.reasons c.push.new.self c.in-Ok-Some.reason _ _ _
          c.loop-signature-test.true c.signature-item.is pushed c.loop-signature.invariant.gained (rw (c.as_slice.ensures, c.in-Ok-Some.field-0-is) at c.in-Ok-Some.ensures.ends);
    }
