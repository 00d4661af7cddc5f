-- Help and version: a word asks for them that is the only one, or that follows the command at once.
-- Behind `--` no word does.
use Rattle.std.specs.Prelude.{◌≡◌, ℕ, List, [], ◌∷◌, ◌++◌, ◌||◌, Option, Some, None, ◌⊎◌, if◌then◌else◌, codes}
use Rattle.std.specs.List.{All}
use Rattle.std.specs.Str.{bytes_eq}
use Rattle.skopeo_words.specs.Parts.{Part, plain, given, lacking, mark, unknown}
use Rattle.skopeo_words.specs.Table.{command_named}
use Rattle.skopeo_words.specs.declared.command.Command.{Command}
use Rattle.skopeo_words.specs.declared.command.Command.TheVariants as command
use Rattle.skopeo_words.specs.declared.command.CommandName.{CommandName}

-- what a word asks for in place of a command
abbrev pub asks : Option CommandName → List ℕ → Option Command
asks name word =
    if bytes_eq word (codes "--help") || bytes_eq word (codes "-h") then Some (command.Help name)
    else if bytes_eq word (codes "--version") || bytes_eq word (codes "-v")
    then Some command.Version
    else None

-- a part that is no operand
abbrev pub IsNoOperand : Part → Type 0
IsNoOperand (plain place word) = ⊥
IsNoOperand (given place name value) = Unit {0}
IsNoOperand (lacking name) = Unit {0}
IsNoOperand mark = Unit {0}
IsNoOperand (unknown place word) = Unit {0}

-- the word at once behind the first operand, a command's name, asks for this
pub record AsksBehind (parts : List Part) (command : Command) : Type 0 where
  pub before : List Part
  pub place : ℕ
  pub first : List ℕ
  pub at : ℕ
  pub word : List ℕ
  pub after : List Part
  pub joined : parts ≡ before ++ (plain place first ∷ unknown at word ∷ after)
  pub none_before : All IsNoOperand before
  pub name : CommandName
  pub named : command_named first ≡ Some name
  pub asked : asks (Some name) word ≡ Some command

-- the only word asks for this
pub record AsksAlone (parts : List Part) (command : Command) : Type 0 where
  pub at : ℕ
  pub word : List ℕ
  pub joined : parts ≡ unknown at word ∷ []
  pub asked : asks None word ≡ Some command

-- the parts ask for help or version
abbrev pub AsksFor : List Part → Command → Type 0
AsksFor parts command = AsksAlone parts command ⊎ AsksBehind parts command
