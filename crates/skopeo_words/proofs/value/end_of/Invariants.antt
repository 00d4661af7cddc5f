use Rattle.std.proofs.Common.{◌≡◌, ◌≤◌, ◌<◌, ℕ, drop, slice_index}
use Rattle.image_ref.specs.Characters.{slash}
use Rattle.skopeo_words.specs.Scan.{end_from}
use Rattle.skopeo_words.proofs.value.end_of.Given as goal

-- the end so far, and only slashes behind it
abbrev pub invariant-loop-byte : goal.invariant-loop-byte
invariant-loop-byte l = record {
  place : l.at ≡ l.byte-index;
  within : l.end ≤ l.at;
  slashes : (k : ℕ) → l.end ≤ k → k < l.at → slice_index l.text k ≡ slash;
  left : end_from l.at l.end (drop l.byte-index l.text) ≡ end_from 0 0 l.text;
}
