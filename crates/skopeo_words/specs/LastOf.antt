-- The last value of an option and the first operands, as the code finds them.
use Rattle.std.specs.Prelude.{ℕ, List, [], ◌∷◌, Option, Some, None, if◌then◌else◌, option_map}
use Rattle.skopeo_words.specs.Found.{Placed}
use Rattle.skopeo_words.specs.Parts.{Part, plain, given, lacking, mark, unknown}
use Rattle.skopeo_words.specs.Table.{same_option}
use Rattle.skopeo_words.specs.declared.found.Placed as Code
use Rattle.skopeo_words.specs.declared.table.OptionName.{OptionName}

-- the text that the code sees
abbrev pub seen_placed : Code.Placed → Placed
seen_placed p = record { at = p.at; text = p.text.now }

-- the first that is there
abbrev pub or_else : Option Placed → Option Placed → Option Placed
or_else None other = other
or_else (Some p) other = Some p

-- the value that a part gives to an option
abbrev pub value_in : OptionName → Part → Option Placed
value_in wanted (plain place word) = None
value_in wanted (given place name value) =
    if same_option wanted name then Some (record { at = place; text = value }) else None
value_in wanted (lacking name) = None
value_in wanted mark = None
value_in wanted (unknown place word) = None

-- the last value of an option
abbrev pub last_of : OptionName → List Part → Option Placed
last_of name [] = None
last_of name (p ∷ more) = or_else (last_of name more) (value_in name p)

-- the text of the last value of an option
abbrev pub text_of : OptionName → List Part → Option (List ℕ)
text_of name parts = option_map (λ p. p.text) (last_of name parts)

-- the first operand; empty where there is none
abbrev pub first_text : List Placed → List ℕ
first_text [] = []
first_text (first ∷ more) = first.text

-- the second operand; empty where there are fewer
abbrev pub second_text : List Placed → List ℕ
second_text [] = []
second_text (first ∷ []) = []
second_text (first ∷ second ∷ more) = second.text
