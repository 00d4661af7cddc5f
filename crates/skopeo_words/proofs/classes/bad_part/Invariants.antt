use Rattle.std.proofs.Common.{◌≡◌, map, drop}
use Rattle.skopeo_words.specs.Scan.{seen_part}
use Rattle.skopeo_words.specs.Faults.{bad_part}
use Rattle.skopeo_words.proofs.classes.bad_part.Given as goal

abbrev pub invariant-loop-part : goal.invariant-loop-part
invariant-loop-part l = bad_part l.past (map (λ p. seen_part p) (drop l.part-index l.parts)) ≡ bad_part l.past (map (λ p. seen_part p) l.parts)
