use Rattle.std.proofs.Common.{◌≡◌, map, drop, option_map}
use Rattle.skopeo_words.specs.Scan.{seen_part}
use Rattle.skopeo_words.specs.LastOf.{last_of, or_else, seen_placed}
use Rattle.skopeo_words.proofs.found.last_of.Given as goal

abbrev pub invariant-loop-part : goal.invariant-loop-part
invariant-loop-part l = or_else (last_of l.name (map (λ p. seen_part p) (drop l.part-index l.parts))) (option_map (λ p. seen_placed p) l.last) ≡ last_of l.name (map (λ p. seen_part p) l.parts)
