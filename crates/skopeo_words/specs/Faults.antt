-- What is wrong with words, class by class, as the code looks for it. `FirstFault` has the rows that
-- it is tied to.
use Rattle.std.specs.Prelude.{ℕ, List, [], ◌∷◌, ◌&&◌, is_some, Option, Some, None, if◌then◌else◌}
use Rattle.skopeo_words.specs.Found.{Placed}
use Rattle.skopeo_words.specs.LastOf.{last_of}
use Rattle.skopeo_words.specs.Parts.{Part, plain, given, lacking, mark, unknown}
use Rattle.skopeo_words.specs.Table.{kind_of, is_for}
use Rattle.skopeo_words.specs.Values.{is_value}
use Rattle.skopeo_words.specs.declared.command.CommandName.{CommandName}
use Rattle.skopeo_words.specs.declared.command.CommandName.TheVariants.{Copy, Sync, Inspect, ListTags, Delete, MakeImages}
use Rattle.skopeo_words.specs.declared.fault.WordsFault.{WordsFault}
use Rattle.skopeo_words.specs.declared.fault.WordsFault.TheVariants.{At}
use Rattle.skopeo_words.specs.declared.fault.WordsKind.TheVariants as kind
use Rattle.skopeo_words.specs.declared.table.OptionName.TheVariants as option

-- the first fault that is there
abbrev pub or_fault : Option WordsFault → Option WordsFault → Option WordsFault
or_fault (Some fault) later = Some fault
or_fault None later = later

-- the first fault that a test finds in the parts
abbrev pub first_fault : (Part → Option WordsFault) → List Part → Option WordsFault
first_fault test [] = None
first_fault test (p ∷ more) = or_fault (test p) (first_fault test more)

-- Class 1: a word that is no option, an option without its value, a value that is none. `past` is
-- the place one past the last word.
abbrev pub part_fault : ℕ → Part → Option WordsFault
part_fault past (plain place word) = None
part_fault past (given place name value) =
    if is_value (kind_of name) value then None else Some (At place kind.BadValue)
part_fault past (lacking name) = Some (At past kind.MissingValue)
part_fault past mark = None
part_fault past (unknown place word) = Some (At place kind.UnknownOption)

-- the first such part
abbrev pub bad_part : ℕ → List Part → Option WordsFault
bad_part past parts = first_fault (part_fault past) parts

-- Class 3: an option that is not for the command.
abbrev pub other_fault : CommandName → Part → Option WordsFault
other_fault command (plain place word) = None
other_fault command (given place name value) =
    if is_for name command then None else Some (At place kind.NotForCommand)
other_fault command (lacking name) = None
other_fault command mark = None
other_fault command (unknown place word) = None

-- the first such option
abbrev pub other_option : CommandName → List Part → Option WordsFault
other_option command parts = first_fault (other_fault command) parts

-- Class 4: an operand too many, or too few. One operand is wanted.
abbrev pub not_one : ℕ → List Placed → Option WordsFault
not_one past [] = Some (At past kind.MissingOperand)
not_one past (only ∷ []) = None
not_one past (only ∷ extra ∷ more) = Some (At extra.at kind.ExtraOperand)

-- two operands are wanted
abbrev pub not_two : ℕ → List Placed → Option WordsFault
not_two past [] = Some (At past kind.MissingOperand)
not_two past (first ∷ []) = Some (At past kind.MissingOperand)
not_two past (first ∷ second ∷ []) = None
not_two past (first ∷ second ∷ extra ∷ more) = Some (At extra.at kind.ExtraOperand)

-- the operands behind the command
abbrev pub operand_fault : ℕ → CommandName → List Placed → Option WordsFault
operand_fault past Copy operands = not_two past operands
operand_fault past Sync operands = not_two past operands
operand_fault past Inspect operands = not_one past operands
operand_fault past ListTags operands = not_one past operands
operand_fault past Delete operands = not_one past operands
operand_fault past MakeImages operands = not_two past operands

-- Class 5: `sync` needs both of its ends.
abbrev pub missing_option : ℕ → CommandName → List Part → Option WordsFault
missing_option past Sync parts =
    if is_some (last_of option.Src parts) && is_some (last_of option.Dest parts) then None
    else Some (At past kind.MissingOption)
missing_option past _ parts = None
