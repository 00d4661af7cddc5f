use Rattle.skopeo_app.proofs.SignatureLemmas.{AreListed}
use Rattle.skopeo_app.proofs.lines.signature_lines.Given as goal

abbrev pub invariant-loop-place : goal.invariant-loop-place
invariant-loop-place l = AreListed l.text l.place l.reasons
