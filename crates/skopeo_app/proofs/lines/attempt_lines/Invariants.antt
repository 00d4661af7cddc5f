use Rattle.skopeo_app.proofs.AttemptLemmas.{AreTold}
use Rattle.skopeo_app.proofs.lines.attempt_lines.Given as goal

abbrev pub invariant-loop-place : goal.invariant-loop-place
invariant-loop-place l = AreTold l.text l.place l.attempts
