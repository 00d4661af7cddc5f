-- Words have one row of parts by their forms, and it is the one that is read.
use Rattle.std.proofs.Common.{◌≡◌, ℕ, ◌+◌, ◌⊎◌, List, [], ◌∷◌, refl, ap, inl, inr}
use Rattle.skopeo_words.specs.Forms.{Form, form_of, operand, end_mark, no_option, gives, takes}
use Rattle.skopeo_words.specs.Parts.{Part, plain, given, lacking, mark, unknown, operands_from}
use Rattle.skopeo_words.specs.Scan.{step, step_of, then_parts, parts_from, parts_of}
use Rattle.skopeo_words.specs.declared.parts.State.TheVariants.{Reading, Ended}

-- the words, from a place on, are these parts one after the other, by the forms of words
abbrev pub AreParts : List Part → ℕ → List (List ℕ) → Type 0
AreParts [] at words = words ≡ []
AreParts (plain place word ∷ more) at words =
    (rest : List (List ℕ)) × (words ≡ word ∷ rest) × (place ≡ at)
    × (form_of word ≡ operand) × AreParts more (at + 1) rest
AreParts (given place name value ∷ more) at words =
    (word : List ℕ) × (rest : List (List ℕ)) × (place ≡ at)
    × (((words ≡ word ∷ rest) × (form_of word ≡ gives name value) × AreParts more (at + 1) rest)
    ⊎ ((words ≡ word ∷ value ∷ rest) × (form_of word ≡ takes name)
    × AreParts more (at + 1 + 1) rest))
AreParts (lacking name ∷ more) at words =
    (word : List ℕ) × (words ≡ word ∷ []) × (form_of word ≡ takes name) × (more ≡ [])
AreParts (mark ∷ more) at words =
    (word : List ℕ) × (rest : List (List ℕ)) × (words ≡ word ∷ rest)
    × (form_of word ≡ end_mark) × (more ≡ operands_from (at + 1) rest)
AreParts (unknown place word ∷ more) at words =
    (rest : List (List ℕ)) × (words ≡ word ∷ rest) × (place ≡ at)
    × (form_of word ≡ no_option) × AreParts more (at + 1) rest

-- behind the mark
ended : (words : List (List ℕ)) (at : ℕ) → parts_from words Ended at ≡ operands_from at words
unfolding step
ended [] at = refl
ended (word ∷ more) at = ap (λ (ps : List Part). plain at word ∷ ps) (ended more (at + 1))

abbrev Reads : List (List ℕ) → Type 0
Reads words = (at : ℕ) → AreParts (parts_from words Reading at) at words

abbrev tail_of : List (List ℕ) → List (List ℕ)
tail_of [] = []
tail_of (word ∷ more) = more

-- a word of a form, and what follows it
by_form : (word : List ℕ) (more : List (List ℕ)) (form : Form) → form_of word ≡ form → Reads more → Reads (tail_of more) → (at : ℕ) → AreParts (then_parts (step_of at word form) (at + 1) (parts_from more)) at (word ∷ more)
unfolding step
by_form word more operand e p q at = (more, refl, refl, e, p (at + 1))
by_form word more end_mark e p q at = (word, more, refl, e, ended more (at + 1))
by_form word more no_option e p q at = (more, refl, refl, e, p (at + 1))
by_form word more (gives name text) e p q at = (word, more, refl, inl (refl, e, p (at + 1)))
by_form word [] (takes name) e p q at = (word, refl, e, refl)
by_form word (value ∷ rest) (takes name) e p q at = (word, rest, refl, inr (refl, e, q (at + 1 + 1)))

both : (words : List (List ℕ)) → Reads words × Reads (tail_of words)
unfolding step
both [] = (λ at. refl, λ at. refl)
both (word ∷ more) =
    let later = both more in
    (λ at. by_form word more (form_of word) refl later.0 later.1 at, later.0)

pub parts_are : (words : List (List ℕ)) → AreParts (parts_of words) 1 words
parts_are words = (both words).0 1

pub parts_once : (parts : List Part) (at : ℕ) (words : List (List ℕ)) → AreParts parts at words → parts_from words Reading at ≡ parts
unfolding step
parts_once [] at words e = rw e refl
parts_once (plain place word ∷ more) at words (rest, e, same, f, h) =
    rw (e, f, same) (ap (λ (ps : List Part). plain at word ∷ ps) (parts_once more (at + 1) rest h))
parts_once (given place name value ∷ more) at words (word, rest, same, inl (e, f, h)) =
    rw (e, f, same) (ap (λ (ps : List Part). given at name value ∷ ps) (parts_once more (at + 1) rest h))
parts_once (given place name value ∷ more) at words (word, rest, same, inr (e, f, h)) =
    rw (e, f, same) (ap (λ (ps : List Part). given at name value ∷ ps) (parts_once more (at + 1 + 1) rest h))
parts_once (lacking name ∷ more) at words (word, e, f, none) = rw (e, f, none) refl
parts_once (mark ∷ more) at words (word, rest, e, f, behind) =
    rw (e, f, behind) (ap (λ (ps : List Part). mark ∷ ps) (ended rest (at + 1)))
parts_once (unknown place word ∷ more) at words (rest, e, same, f, h) =
    rw (e, f, same) (ap (λ (ps : List Part). unknown at word ∷ ps) (parts_once more (at + 1) rest h))
