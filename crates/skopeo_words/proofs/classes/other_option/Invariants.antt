use Rattle.std.proofs.Common.{◌≡◌, map, drop}
use Rattle.skopeo_words.specs.Scan.{seen_part}
use Rattle.skopeo_words.specs.Faults.{other_option}
use Rattle.skopeo_words.proofs.classes.other_option.Given as goal

abbrev pub invariant-loop-part : goal.invariant-loop-part
invariant-loop-part l = other_option l.command (map (λ p. seen_part p) (drop l.part-index l.parts)) ≡ other_option l.command (map (λ p. seen_part p) l.parts)
