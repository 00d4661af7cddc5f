-- Class 6 of what is wrong with words: options or operands that do not go together, a row for each
-- command. Options count by their last values.
use Rattle.std.specs.Prelude.{◌≡◌, ℕ, max, List, [], ◌∷◌, true, false, Some, None, ◌⊎◌, codes}
use Rattle.skopeo_words.specs.Fields.{IsFlag, Begins}
use Rattle.skopeo_words.specs.Found.{Placed, IsLast}
use Rattle.skopeo_words.specs.Parts.{Part}
use Rattle.skopeo_words.specs.Values.{truth_value, number_upto}
use Rattle.skopeo_words.specs.declared.command.CommandName.{CommandName}
use Rattle.skopeo_words.specs.declared.command.CommandName.TheVariants.{Copy, Sync, Inspect, ListTags, Delete, MakeImages}
use Rattle.skopeo_words.specs.declared.fault.WordsFault.{WordsFault}
use Rattle.skopeo_words.specs.declared.fault.WordsFault.TheVariants.{At}
use Rattle.skopeo_words.specs.declared.fault.WordsKind.TheVariants as kind
use Rattle.skopeo_words.specs.declared.table.OptionName.{OptionName}
use Rattle.skopeo_words.specs.declared.table.OptionName.TheVariants as option

-- the option's last value is this text, and its word stands at this place
pub record HasText (name : OptionName) (parts : List Part) (text : List ℕ) (at : ℕ) : Type 0 where
  pub value : Placed
  pub last : IsLast name parts value
  pub same : value.text ≡ text
  pub place : at ≡ value.at

-- the option's last value is a word for yes, and its word stands at this place
pub record IsOn (name : OptionName) (parts : List Part) (at : ℕ) : Type 0 where
  pub value : Placed
  pub last : IsLast name parts value
  pub says : truth_value value.text ≡ Some true
  pub place : at ≡ value.at

-- `--dest dir`, or else `--scoped`
abbrev pub IsOther : List Part → ℕ → Type 0
IsOther parts at =
    HasText option.Dest parts (codes "dir") at
    ⊎ (((there : ℕ) → HasText option.Dest parts (codes "dir") there → ⊥) × IsOn option.Scoped parts at)

-- the first text is no place at a registry
abbrev pub IsNoDocker : List Placed → WordsFault → Type 0
IsNoDocker [] fault = ⊥
IsNoDocker (operand ∷ more) fault =
    (Begins (codes "docker://") operand.text → ⊥) × (fault ≡ At operand.at kind.NotDocker)

-- the second text is a place of a layout
abbrev pub IsLayout : List Placed → Type 0
IsLayout [] = ⊥
IsLayout (first ∷ []) = ⊥
IsLayout (first ∷ second ∷ more) = Begins (codes "oci:") second.text

-- the first text is no number from 1 to 1,000
abbrev pub IsNoNumber : List Placed → WordsFault → Type 0
IsNoNumber [] fault = ⊥
IsNoNumber (operand ∷ more) fault =
    (number_upto 1000 operand.text ≡ None) × (fault ≡ At operand.at kind.BadNumber)

-- the row of the command
abbrev pub IsPairFault : CommandName → List Part → List Placed → WordsFault → Type 0
IsPairFault Copy parts operands fault =
    (at : ℕ) × HasText option.Format parts (codes "v2s2") at × IsLayout operands
    × (fault ≡ At at kind.FormatForPlace)
IsPairFault Sync parts operands fault =
    (src : ℕ) × (other : ℕ) × HasText option.Src parts (codes "dir") src × IsOther parts other
    × (fault ≡ At (max src other) kind.BadPair)
IsPairFault Inspect parts operands fault =
    (at : ℕ) × IsOn option.Config parts at × IsFlag option.Raw parts false
    × (fault ≡ At at kind.NeedsRaw)
IsPairFault ListTags parts operands fault = IsNoDocker operands fault
IsPairFault Delete parts operands fault = IsNoDocker operands fault
IsPairFault MakeImages parts operands fault = IsNoNumber operands fault
