use Rattle.std.proofs.Common.{◌≡◌, ◌++◌, map, drop}
use Rattle.skopeo_words.specs.Scan.{seen_part}
use Rattle.skopeo_words.specs.Found.{operands_of}
use Rattle.skopeo_words.specs.LastOf.{seen_placed}
use Rattle.skopeo_words.proofs.found.operands_of.Given as goal

abbrev pub invariant-loop-part : goal.invariant-loop-part
invariant-loop-part l = map (λ o. seen_placed o) l.found ++ operands_of (map (λ p. seen_part p) (drop l.part-index l.parts)) ≡ operands_of (map (λ p. seen_part p) l.parts)
