-- The first fault of words that ask for nothing: six classes in this order, each over all words. A
-- fault of an earlier class comes before every one of a later class, wherever it stands.
use Rattle.std.specs.Prelude.{◌≡◌, ℕ, ◌+◌, ◌<◌, List, [], ◌∷◌, ◌++◌, length, None, ◌⊎◌}
use Rattle.std.specs.List.{All}
use Rattle.skopeo_words.specs.Asked.{AsksFor}
use Rattle.skopeo_words.specs.CommandOf.{TakesValue, IsForCommand, IsGood, IsFor, IsNamed}
use Rattle.skopeo_words.specs.Found.{Placed, operands_of, IsLast}
use Rattle.skopeo_words.specs.Line.{IsLine}
use Rattle.skopeo_words.specs.PairFault.{IsPairFault}
use Rattle.skopeo_words.specs.Parts.{Part, plain, given, lacking, mark, unknown}
use Rattle.skopeo_words.specs.Table.{command_named}
use Rattle.skopeo_words.specs.declared.command.Command.{Command}
use Rattle.skopeo_words.specs.declared.command.CommandName.{CommandName}
use Rattle.skopeo_words.specs.declared.command.CommandName.TheVariants.{Copy, Sync, Inspect, ListTags, Delete, MakeImages}
use Rattle.skopeo_words.specs.declared.fault.WordsFault.{WordsFault}
use Rattle.skopeo_words.specs.declared.fault.WordsFault.TheVariants.{At}
use Rattle.skopeo_words.specs.declared.fault.WordsKind.TheVariants as kind
use Rattle.skopeo_words.specs.declared.table.OptionName.{OptionName}
use Rattle.skopeo_words.specs.declared.table.OptionName.TheVariants as option

-- a part has this fault, and the parts before it are fine
pub record IsFirst (Fine : Part → Type 0) (Bad : Part → WordsFault → Type 0) (parts : List Part) (fault : WordsFault)
    : Type 0 where
  pub before : List Part
  pub part : Part
  pub after : List Part
  pub joined : parts ≡ before ++ (part ∷ after)
  pub fine_before : All Fine before
  pub bad : Bad part fault

-- class 1: a value that is none, an option without its value, a word that is no option. `past` is the
-- place one past the last word
abbrev pub IsPartFault : ℕ → Part → WordsFault → Type 0
IsPartFault past (plain place word) fault = ⊥
IsPartFault past (given place name value) fault =
    (TakesValue name value → ⊥) × (fault ≡ At place kind.BadValue)
IsPartFault past (lacking name) fault = fault ≡ At past kind.MissingValue
IsPartFault past mark fault = ⊥
IsPartFault past (unknown place word) fault = fault ≡ At place kind.UnknownOption

-- class 2: there is no command, or none of that name
abbrev pub LacksName : ℕ → List Placed → WordsFault → Type 0
LacksName past [] fault = fault ≡ At past kind.MissingOperand
LacksName past (first ∷ operands) fault =
    (command_named first.text ≡ None) × (fault ≡ At first.at kind.UnknownCommand)

-- class 3: an option of other commands
abbrev pub IsOtherFault : CommandName → Part → WordsFault → Type 0
IsOtherFault command (plain place word) fault = ⊥
IsOtherFault command (given place name value) fault =
    (IsForCommand name command → ⊥) × (fault ≡ At place kind.NotForCommand)
IsOtherFault command (lacking name) fault = ⊥
IsOtherFault command mark fault = ⊥
IsOtherFault command (unknown place word) fault = ⊥

-- how many operands a command has
abbrev pub wanted : CommandName → ℕ
wanted Copy = 2
wanted Sync = 2
wanted Inspect = 1
wanted ListTags = 1
wanted Delete = 1
wanted MakeImages = 2

-- an operand stands behind those that are wanted
pub record HasExtra (count : ℕ) (operands : List Placed) (fault : WordsFault) : Type 0 where
  pub before : List Placed
  pub extra : Placed
  pub after : List Placed
  pub joined : operands ≡ before ++ (extra ∷ after)
  pub enough : length before ≡ count
  pub place : fault ≡ At extra.at kind.ExtraOperand

-- class 4: too few operands, or one too many
abbrev pub IsCountFault : ℕ → ℕ → List Placed → WordsFault → Type 0
IsCountFault past count operands fault =
    ((length operands < count) × (fault ≡ At past kind.MissingOperand)) ⊎ HasExtra count operands fault

-- the option is given
abbrev pub IsThere : OptionName → List Part → Type 0
IsThere name parts = (value : Placed) × IsLast name parts value

-- `sync` is told both of its ends
abbrev pub HasEnds : CommandName → List Part → Type 0
HasEnds Sync parts = IsThere option.Src parts × IsThere option.Dest parts
HasEnds _ parts = Unit {0}

-- classes 3 to 6, of a command and the operands behind it
abbrev pub IsCommandFault : ℕ → CommandName → List Part → List Placed → WordsFault → Type 0
IsCommandFault past name parts operands fault =
    IsFirst (IsFor name) (IsOtherFault name) parts fault
    ⊎ (All (IsFor name) parts
    × (IsCountFault past (wanted name) operands fault
    ⊎ ((length operands ≡ wanted name)
    × (((HasEnds name parts → ⊥) × (fault ≡ At past kind.MissingOption))
    ⊎ (HasEnds name parts × IsPairFault name parts operands fault)))))

-- a command has this fault
abbrev pub HasFault : ℕ → List Part → WordsFault → Type 0
HasFault past parts fault =
    (name : CommandName) × (operands : List Placed)
    × IsNamed parts name operands × IsCommandFault past name parts operands fault

-- classes 1 and 2, and what follows them
abbrev pub IsTableFault : ℕ → List Part → WordsFault → Type 0
IsTableFault past parts fault =
    IsFirst IsGood (IsPartFault past) parts fault
    ⊎ (All IsGood parts × (LacksName past (operands_of parts) fault ⊎ HasFault past parts fault))

-- the words ask for nothing, and this is their first fault
pub record FirstFaultOf (words : List (List ℕ)) (fault : WordsFault) : Type 0 where
  pub parts : List Part
  pub are_parts : IsLine parts 1 words
  pub not_asked : (command : Command) → AsksFor parts command → ⊥
  pub is_fault : IsTableFault (length words + 1) parts fault
