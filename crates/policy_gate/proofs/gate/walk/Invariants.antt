use Rattle.std.proofs.Common.{◌≡◌, ◌≤◌, take}
use Rattle.policy_gate.specs.Gate.{AreHeld}
use Rattle.policy_gate.specs.Calls.{Gained, case_of}
use Rattle.policy_gate.proofs.gate.walk.Given as goal

-- the requirements so far hold
abbrev pub invariant-loop-place : goal.invariant-loop-place
invariant-loop-place g l = record {
  same : g.F.Files.tree l.files ≡ g.F.Files.tree l.initial.files;
  files_later : g.F.Files.faults l.initial.files ≤ g.F.Files.faults l.files;
  helper_later : g.H.Helper.faults l.initial.helper ≤ g.H.Helper.faults l.helper;
  held : Gained (g.H.Helper.runs l.initial.helper) (g.H.Helper.runs l.helper)
      (λ runs. AreHeld (case_of l.gate (g.F.Files.tree l.initial.files)) (take l.place l.list) runs);
}
