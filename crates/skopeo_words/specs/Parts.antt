-- The parts of words: operands and options with their values, in order. A value that stands in a
-- word of its own belongs to the part of its option.
--
-- A word that begins with a dash and is no option, and an option without its value at the end, are
-- parts too; they make the line wrong, and nothing else of it is lost.
use Rattle.std.specs.Prelude.{ℕ, ◌+◌, List, [], ◌∷◌}
use Rattle.skopeo_words.specs.declared.table.OptionName.{OptionName}

-- a part of the words; a number is the place of its word, or of its option's word, from 1
pub data Part : Type 0 where
  plain : ℕ → List ℕ → Part
  given : ℕ → OptionName → List ℕ → Part
  lacking : OptionName → Part
  mark : Part
  unknown : ℕ → List ℕ → Part

-- words that are operands, whatever they look like, from a place on
abbrev pub operands_from : ℕ → List (List ℕ) → List Part
operands_from at [] = []
operands_from at (word ∷ more) = plain at word ∷ operands_from (at + 1) more
