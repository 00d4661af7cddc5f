-- What words are, by the table of options.
--
--   line   = {part} ["--" {operand}]
--   part   = operand | option with its value | option, then a word that is its value
--   option = "--" name ["=" value] | "-a" | "-q" | "-n" | "-f" | "-s" | "-d"
--
-- A truth option without "=" has the value `true`; another takes the next word, whatever it is. A word
-- of one byte, and one that begins with no dash, is an operand.
use Rattle.std.specs.Prelude.{◌≡◌, ◌≢◌, ℕ, ◌+◌, List, [], ◌∷◌, ◌++◌, Some, Contains, ◌⊎◌, codes}
use Rattle.skopeo_words.specs.Fields.{Begins}
use Rattle.skopeo_words.specs.Forms.{short_named}
use Rattle.skopeo_words.specs.Parts.{Part, plain, given, lacking, mark, unknown, operands_from}
use Rattle.skopeo_words.specs.Table.{Row, options}
use Rattle.skopeo_words.specs.declared.table.Kind.TheVariants.{Truth}
use Rattle.skopeo_words.specs.declared.table.OptionName.{OptionName}

-- the table has this row for the option
pub record IsRowOf (r : Row) (name : OptionName) : Type 0 where
  pub there : Contains options r
  pub same : r.name ≡ name

-- the word is the option of the row, by its name or by its letter
abbrev pub IsBare : List ℕ → Row → Type 0
IsBare word r = (word ≡ codes "--" ++ r.text) ⊎ (short_named word ≡ Some r.name)

-- the word is the option of the row with `=` and this
abbrev pub IsWith : List ℕ → Row → List ℕ → Type 0
IsWith word r value = word ≡ codes "--" ++ (r.text ++ (61 ∷ value))

-- the word is the option with its value
pub record HasValue (word : List ℕ) (name : OptionName) (value : List ℕ) : Type 0 where
  pub entry : Row
  pub of_name : IsRowOf entry name
  pub has : IsWith word entry value
      ⊎ (IsBare word entry × (entry.kind ≡ Truth) × (value ≡ codes "true"))

-- the word is the option, whose value is the next word
pub record TakesNext (word : List ℕ) (name : OptionName) : Type 0 where
  pub entry : Row
  pub of_name : IsRowOf entry name
  pub bare : IsBare word entry
  pub no_truth : entry.kind ≢ Truth

-- a word that begins with a dash, and is more than that
abbrev pub IsDashed : List ℕ → Type 0
IsDashed word = Begins (codes "-") word × (word ≢ codes "-")

-- the word begins with a dash and is no option of the table
pub record IsNoOption (word : List ℕ) : Type 0 where
  pub dashed : IsDashed word
  pub no_mark : word ≢ codes "--"
  pub not_bare : (r : Row) → Contains options r → IsBare word r → ⊥
  pub not_with : (r : Row) (value : List ℕ) → Contains options r → IsWith word r value → ⊥

-- the words, from a place on, are these parts one after the other
abbrev pub IsLine : List Part → ℕ → List (List ℕ) → Type 0
IsLine [] at words = words ≡ []
IsLine (plain place word ∷ more) at words =
    (rest : List (List ℕ)) × (words ≡ word ∷ rest) × (place ≡ at)
    × (IsDashed word → ⊥) × IsLine more (at + 1) rest
IsLine (given place name value ∷ more) at words =
    (word : List ℕ) × (rest : List (List ℕ)) × (place ≡ at)
    × (((words ≡ word ∷ rest) × HasValue word name value × IsLine more (at + 1) rest)
    ⊎ ((words ≡ word ∷ value ∷ rest) × TakesNext word name × IsLine more (at + 1 + 1) rest))
IsLine (lacking name ∷ more) at words =
    (word : List ℕ) × (words ≡ word ∷ []) × TakesNext word name × (more ≡ [])
IsLine (mark ∷ more) at words =
    (word : List ℕ) × (rest : List (List ℕ)) × (words ≡ word ∷ rest)
    × (word ≡ codes "--") × (more ≡ operands_from (at + 1) rest)
IsLine (unknown place word ∷ more) at words =
    (rest : List (List ℕ)) × (words ≡ word ∷ rest) × (place ≡ at)
    × IsNoOption word × IsLine more (at + 1) rest
