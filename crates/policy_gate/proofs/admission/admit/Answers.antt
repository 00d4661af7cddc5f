use Rattle.std.proofs.Common.{rules}
use Rattle.policy_gate.specs.Gate.{Ends}
use Rattle.policy_gate.specs.Calls.{Gained}
use Rattle.policy_gate.specs.Admission.{submitted_of, gate_case, scope_in, done}
use Rattle.policy_gate.proofs.QuestionLaw.{ends_asks}
use Rattle.policy_gate.proofs.admission.admit.Goals as goal

pub returns-clause-asked : goal.returns-clause-asked
returns-clause-asked g c =
    let s = submitted_of c.args.chosen.now c.args.identity c.args.signatures c.args.cwd c.args.program in
    let case = gate_case s c.args.manifest (g.F.Files.tree c.args.files.now) in
    let ended : Gained (g.H.Helper.runs c.args.helper.now) (g.H.Helper.runs c.admit_submitted.new.helper) (Ends case (scope_in s) s.chosen.list.now (done c.admit_submitted.result)) = c.admit_submitted.ensures.ends in
    ends_asks case (scope_in s) s.chosen.list.now (done c.admit_submitted.result) _ _ ended
