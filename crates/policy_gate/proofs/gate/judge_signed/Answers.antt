use Rattle.std.proofs.Common.{option_map, ap, rules}
use Rattle.policy_file.specs.declared.requirement.Requirement.TheVariants.{SignedBy}
use Rattle.policy_gate.proofs.GateLaw.{some_items, signed_read, files_failed, memory_failed}
use Rattle.policy_gate.proofs.gate.judge_signed.Goals as goal

pub returns-in-Ok-clause-ends : goal.returns-in-Ok-clause-ends
returns-in-Ok-clause-ends g c =
    signed_read c.args.gate.now (g.F.Files.tree c.args.files.now) c.args.keys.now c.args.rule.now c.in-Some.program.now c.in-Ok.read c.judge_read.result _ _
    (some_items c.args.gate.now.signatures.now c.if-is_empty.ensures) (ap (option_map (λ p. p.now)) c.in-Some.is) c.in-Ok.ensures.keys c.judge_read.ensures.ends

pub returns-in-Err-Fault-clause-ends : goal.returns-in-Err-Fault-clause-ends
returns-in-Err-Fault-clause-ends g c =
    files_failed c.args.gate.now (g.F.Files.tree c.args.files.now) c.args.keys.now c.args.rule.now c.in-Some.program.now _
    (some_items c.args.gate.now.signatures.now c.if-is_empty.ensures) (ap (option_map (λ p. p.now)) c.in-Some.is) (c.in-Err-Fault.ensures.files (search rules))

pub returns-in-Err-Memory-clause-ends : goal.returns-in-Err-Memory-clause-ends
returns-in-Err-Memory-clause-ends g c = memory_failed c.args.gate.now (g.F.Files.tree c.args.files.now) (SignedBy c.args.keys.now c.args.rule.now) _
