-- What is found in the parts of words: the operands in order, and the last value of an option, which
-- is the one that counts.
use Rattle.std.specs.Prelude.{◌≡◌, ◌≢◌, ℕ, List, [], ◌∷◌, ◌++◌, Option, Some, None, ◌⊎◌}
use Rattle.std.specs.List.{All}
use Rattle.skopeo_words.specs.Parts.{Part, plain, given, lacking, mark, unknown}
use Rattle.skopeo_words.specs.declared.table.OptionName.{OptionName}

-- an operand or a value, with the place of its word, or of its option's word
pub record Placed : Type 0 where
  pub at : ℕ
  pub text : List ℕ

-- the operands in order
abbrev pub operands_of : List Part → List Placed
operands_of [] = []
operands_of (plain place word ∷ more) = record { at = place; text = word } ∷ operands_of more
operands_of (given place name value ∷ more) = operands_of more
operands_of (lacking name ∷ more) = operands_of more
operands_of (mark ∷ more) = operands_of more
operands_of (unknown place word ∷ more) = operands_of more

-- the part does not give the option a value
abbrev pub GivesNone : OptionName → Part → Type 0
GivesNone option (plain place word) = Unit {0}
GivesNone option (given place name value) = name ≢ option
GivesNone option (lacking name) = Unit {0}
GivesNone option mark = Unit {0}
GivesNone option (unknown place word) = Unit {0}

-- no part gives the option a value
abbrev pub IsAbsent : OptionName → List Part → Type 0
IsAbsent option parts = All (GivesNone option) parts

-- a part gives the option this value, and no part behind gives it one
pub record IsLast (option : OptionName) (parts : List Part) (value : Placed) : Type 0 where
  pub before : List Part
  pub after : List Part
  pub joined : parts ≡ before ++ (given value.at option value.text ∷ after)
  pub none_behind : IsAbsent option after

-- how a text is read that stands for itself
abbrev pub as_written : List ℕ → Option (List ℕ)
as_written text = Some text

-- the last value of the option, read so, is this
pub record Says {A : Type 0} (read : List ℕ → Option A) (option : OptionName) (parts : List Part) (x : A)
    : Type 0 where
  pub value : Placed
  pub last : IsLast option parts value
  pub says : read value.text ≡ Some x

-- the last value of the option, read so; None where it is not given
abbrev pub IsGiven : {A : Type 0} → (List ℕ → Option A) → OptionName → List Part → Option A → Type 0
IsGiven read option parts None = IsAbsent option parts
IsGiven read option parts (Some x) = Says read option parts x

-- the last value of the option, read so; another where it is not given
abbrev pub IsOr : {A : Type 0} → (List ℕ → Option A) → A → OptionName → List Part → A → Type 0
IsOr read other option parts x = Says read option parts x ⊎ (IsAbsent option parts × (x ≡ other))
