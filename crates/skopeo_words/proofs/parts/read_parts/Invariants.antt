use Rattle.std.proofs.Common.{◌≡◌, ◌+◌, ◌++◌, map, drop}
use Rattle.std.specs.Prelude.{string_bytes}
use Rattle.skopeo_words.specs.declared.parts.State.TheVariants.{Reading}
use Rattle.skopeo_words.specs.Scan.{parts_from, seen_part}
use Rattle.skopeo_words.proofs.parts.read_parts.Given as goal

-- what was read, and what is left, are the whole
abbrev pub invariant-loop-word : goal.invariant-loop-word
invariant-loop-word l = record {
  place : l.at ≡ l.word-index + 1;
  left : map (λ p. seen_part p) l.parts ++ parts_from (map (λ w. string_bytes w) (drop l.word-index l.words)) l.state l.at ≡ parts_from (map (λ w. string_bytes w) l.words) Reading 1;
}
