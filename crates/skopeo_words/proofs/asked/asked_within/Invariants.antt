use Rattle.std.proofs.Common.{◌≡◌, map, drop}
use Rattle.skopeo_words.specs.Scan.{seen_part}
use Rattle.skopeo_words.specs.Reading.{asked_from, asked_within}
use Rattle.skopeo_words.proofs.asked.asked_within.Given as goal

abbrev pub invariant-loop-part : goal.invariant-loop-part
invariant-loop-part l = asked_from l.command (map (λ p. seen_part p) (drop l.part-index l.parts)) ≡ asked_within (map (λ p. seen_part p) l.parts)
