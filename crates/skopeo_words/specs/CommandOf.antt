-- What words ask for (skopeo(1) and the pages of its commands, with this tool's own options).
--
--   skopeo [options] COMMAND [options] OPERANDS
--
-- Of an option that is given more than once the last value counts.
use Rattle.std.specs.Prelude.{◌≡◌, ℕ, List, ◌∷◌, true, Some, ◌⊎◌, Contains}
use Rattle.std.specs.List.{All}
use Rattle.skopeo_words.specs.Asked.{AsksFor}
use Rattle.skopeo_words.specs.Fields.{HasFields, Fits}
use Rattle.skopeo_words.specs.Found.{Placed, operands_of}
use Rattle.skopeo_words.specs.Line.{IsRowOf, IsLine}
use Rattle.skopeo_words.specs.Parts.{Part, plain, given, lacking, mark, unknown}
use Rattle.skopeo_words.specs.Table.{Row, command_named}
use Rattle.skopeo_words.specs.Values.{is_value}
use Rattle.skopeo_words.specs.declared.command.Command.{Command}
use Rattle.skopeo_words.specs.declared.command.CommandName.{CommandName}
use Rattle.skopeo_words.specs.declared.table.OptionName.{OptionName}

-- the option takes this value, by its row in the table
pub record TakesValue (name : OptionName) (value : List ℕ) : Type 0 where
  pub entry : Row
  pub of_name : IsRowOf entry name
  pub takes : is_value entry.kind value ≡ true

-- the option is for this command, by its row in the table
pub record IsForCommand (name : OptionName) (command : CommandName) : Type 0 where
  pub entry : Row
  pub of_name : IsRowOf entry name
  pub has : Contains entry.commands command

-- a part that is an operand, the mark, or an option with a value that it takes
abbrev pub IsGood : Part → Type 0
IsGood (plain place word) = Unit {0}
IsGood (given place name value) = TakesValue name value
IsGood (lacking name) = ⊥
IsGood mark = Unit {0}
IsGood (unknown place word) = ⊥

-- a part that is no option of other commands alone
abbrev pub IsFor : CommandName → Part → Type 0
IsFor command (plain place word) = Unit {0}
IsFor command (given place name value) = IsForCommand name command
IsFor command (lacking name) = Unit {0}
IsFor command mark = Unit {0}
IsFor command (unknown place word) = Unit {0}

-- the first operand names a command, and these follow it
pub record IsNamed (parts : List Part) (name : CommandName) (operands : List Placed) : Type 0 where
  pub first : Placed
  pub are_operands : operands_of parts ≡ first ∷ operands
  pub named : command_named first.text ≡ Some name

-- the parts are a command's name, then its operands, among options that are all in order
pub record AreInOrder (parts : List Part) (name : CommandName) (operands : List Placed) : Type 0 where
  pub is_named : IsNamed parts name operands
  pub good : All IsGood parts
  pub own : All (IsFor name) parts

-- the parts are this command
pub record IsCommand (parts : List Part) (command : Command) : Type 0 where
  pub name : CommandName
  pub operands : List Placed
  pub in_order : AreInOrder parts name operands
  pub fields : HasFields name parts operands command
  pub fits : Fits command

-- the words ask for this: for help or version, or for a command
pub record CommandOf (words : List (List ℕ)) (command : Command) : Type 0 where
  pub parts : List Part
  pub are_parts : IsLine parts 1 words
  pub gives : AsksFor parts command ⊎ IsCommand parts command
