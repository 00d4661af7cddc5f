-- What words ask for, or their first fault, as the code reads them: help and version, then the six
-- classes of faults in their order.
use Rattle.std.specs.Prelude.{ℕ, ◌+◌, List, [], ◌∷◌, length, Option, Some, None, Result, Ok, Err}
use Rattle.skopeo_words.specs.Asked.{asks}
use Rattle.skopeo_words.specs.Faults.{or_fault, bad_part, other_option, operand_fault, missing_option}
use Rattle.skopeo_words.specs.Found.{Placed, operands_of}
use Rattle.skopeo_words.specs.Made.{made}
use Rattle.skopeo_words.specs.Pairs.{pair_fault}
use Rattle.skopeo_words.specs.Parts.{Part, plain, given, lacking, mark, unknown}
use Rattle.skopeo_words.specs.Scan.{parts_of}
use Rattle.skopeo_words.specs.Table.{command_named}
use Rattle.skopeo_words.specs.declared.command.Command.{Command}
use Rattle.skopeo_words.specs.declared.command.CommandName.{CommandName}
use Rattle.skopeo_words.specs.declared.fault.WordsFault.{WordsFault}
use Rattle.skopeo_words.specs.declared.fault.WordsFault.TheVariants.{At}
use Rattle.skopeo_words.specs.declared.fault.WordsKind.TheVariants.{MissingOperand, UnknownCommand}

-- the part that follows the command asks for help or version
abbrev pub asked_behind : Option CommandName → List Part → Option Command
asked_behind (Some name) (unknown place word ∷ more) = asks (Some name) word
asked_behind _ _ = None

-- so does the part behind the first operand
abbrev pub asked_within : List Part → Option Command
asked_within [] = None
asked_within (plain place word ∷ more) = asked_behind (command_named word) more
asked_within (given place name value ∷ more) = asked_within more
asked_within (lacking name ∷ more) = asked_within more
asked_within (mark ∷ more) = asked_within more
asked_within (unknown place word ∷ more) = asked_within more

-- help or version, where the words ask for it
abbrev pub asked : List Part → Option Command
asked (unknown place word ∷ []) = asks None word
asked parts = asked_within parts

-- behind a command that was found, or where none was found yet
abbrev pub asked_from : Option CommandName → List Part → Option Command
asked_from None parts = asked_within parts
asked_from (Some name) parts = asked_behind (Some name) parts

-- the first fault of a command, with the operands behind it: classes 3 to 6
abbrev pub command_fault : ℕ → CommandName → List Part → List Placed → Option WordsFault
command_fault past command parts operands =
    or_fault (other_option command parts)
    (or_fault (operand_fault past command operands)
    (or_fault (missing_option past command parts) (pair_fault command parts operands)))

-- a command, or its first fault
abbrev pub unless_fault : Option WordsFault → Command → Result Command WordsFault
unless_fault (Some fault) command = Err fault
unless_fault None command = Ok command

-- the command that the first operand names: class 2, and what follows it
abbrev pub with_name : ℕ → List Part → Placed → List Placed → Option CommandName
    → Result Command WordsFault
with_name past parts first operands None = Err (At first.at UnknownCommand)
with_name past parts first operands (Some name) =
    unless_fault (command_fault past name parts operands) (made name parts operands)

-- the operands, the first of which is the command
abbrev pub with_operands : ℕ → List Part → List Placed → Result Command WordsFault
with_operands past parts [] = Err (At past MissingOperand)
with_operands past parts (first ∷ operands) =
    with_name past parts first operands (command_named first.text)

-- the parts by the table: class 1, and what follows it
abbrev pub by_table : ℕ → List Part → Option WordsFault → Result Command WordsFault
by_table past parts (Some fault) = Err fault
by_table past parts None = with_operands past parts (operands_of parts)

-- help and version first, then the table
abbrev pub or_table : ℕ → List Part → Option Command → Result Command WordsFault
or_table past parts (Some command) = Ok command
or_table past parts None = by_table past parts (bad_part past parts)

-- what parts ask for
unfoldable pub command_in : ℕ → List Part → Result Command WordsFault
command_in past parts = or_table past parts (asked parts)

-- what the words ask for, or their first fault
abbrev pub command_of : List (List ℕ) → Result Command WordsFault
command_of words = command_in (length words + 1) (parts_of words)
