-- The words that the program knows.
use Rattle.std.specs.Prelude.{◌≡◌, ◌<◌, ◌^◌, ℕ, List, [], ◌∷◌, codes, Option, MatchOption}
use Rattle.std.specs.Str.Parse.{IsNumeral, digits_value, without_leading_plus}
use Rattle.lab_registry.specs.declared.words.Task.{Task}
use Rattle.lab_registry.specs.declared.words.Task.TheVariants.{Verifier, Registry}

-- the word writes this number in decimal digits, and may have a plus in front
pub record IsNumber (word : List ℕ) (n : ℕ) : Type 0 where
  pub digits : IsNumeral 10 (without_leading_plus word)
  pub value : digits_value 10 (without_leading_plus word) ≡ n

-- the word is a port: a number from 1 to 65,535
pub record IsPort (word : List ℕ) (port : ℕ) : Type 0 where
  pub number : IsNumber word port
  pub some : 0 < port
  pub fits : port < 2 ^ 16

-- the word is a count: a number below 2^32
pub record IsCount (word : List ℕ) (count : ℕ) : Type 0 where
  pub number : IsNumber word count
  pub fits : count < 2 ^ 32

-- no words ask for a verifier, and `registry PORT COUNT` asks for a registry
abbrev pub Asks : List (List ℕ) → Task → Type 0
Asks words Verifier = words ≡ []
Asks words (Registry port count) =
    (p : List ℕ) × (c : List ℕ) × (words ≡ codes "registry" ∷ p ∷ c ∷ [])
    × IsPort p port × IsCount c count

-- a word is read as the port that it is, and as none where it is no port
pub record ReadsPort (word : List ℕ) (answer : Option ℕ) : Type 0 where
  pub port : MatchOption answer ((port : ℕ) → ¬ IsPort word port) (λ port. IsPort word port)

-- a word is read as the count that it is, and as none where it is no count
pub record ReadsCount (word : List ℕ) (answer : Option ℕ) : Type 0 where
  pub count : MatchOption answer ((count : ℕ) → ¬ IsCount word count) (λ count. IsCount word count)

-- words are read as what they ask for, and as nothing where they ask for nothing that is known
pub record ReadsTask (words : List (List ℕ)) (answer : Option Task) : Type 0 where
  pub task : MatchOption answer ((task : Task) → ¬ Asks words task) (λ task. Asks words task)
