use Rattle.std.proofs.Common.{FitsSigned, w32}
use Rattle.std.proofs.lemmas.Int.{to_z-of_z}
use Rattle.std.proofs.Common.{rules}
use Rattle.skopeo_outside.specs.Helper.{ended_run, failed_run, GainsRun, GainsRunOrNot}
use Rattle.image_ref.specs.Calls.{Answers}
use Rattle.policy_gate.specs.declared.fault.AskFault.TheVariants.{Memory}
use Rattle.policy_gate.specs.Verifier.{verifier_input, answer_of}
use Rattle.policy_gate.proofs.AskLaw.{asked_ended, cause_ended, asked_wanted}
use Rattle.policy_gate.proofs.question.ask.Goals as goal

pub returns-in-Ok-clause-asked : goal.returns-in-Ok-clause-asked
returns-in-Ok-clause-asked g c =
    let input = verifier_input c.args.keys.now c.args.signature.now in
    let bytes = c.as_slice-in-Ok.result.now in
    let ran : GainsRun (ended_run c.args.program.now input c.in-Ok.status bytes) (g.H.Helper.runs c.args.helper.now) (g.H.Helper.runs c.run.new.self) = search rules in
    let said : Answers Memory c.read_answer.result (answer_of c.in-Ok.status bytes) = let fits : FitsSigned w32 c.in-Ok.status = search rules in rw (to_z-of_z w32 c.in-Ok.status fits) at c.read_answer.ensures in
    asked_ended c.args.program.now input c.in-Ok.status bytes _ _ c.read_answer.result ran said

pub returns-in-Ok-clause-cause : goal.returns-in-Ok-clause-cause
returns-in-Ok-clause-cause g c =
    let said : Answers Memory c.read_answer.result (answer_of c.in-Ok.status c.as_slice-in-Ok.result.now) = let fits : FitsSigned w32 c.in-Ok.status = search rules in rw (to_z-of_z w32 c.in-Ok.status fits) at c.read_answer.ensures in
    cause_ended _ _ c.in-Ok.status c.as_slice-in-Ok.result.now c.read_answer.result c.in-Ok.ensures.cause.later said

pub returns-clause-asked : goal.returns-clause-asked
returns-clause-asked g c =
    let input = verifier_input c.args.keys.now c.args.signature.now in
    let ran : GainsRunOrNot (failed_run c.args.program.now input) (g.H.Helper.runs c.args.helper.now) (g.H.Helper.runs c.run.new.self) = search rules in
    asked_wanted c.args.program.now input _ _ ran
