-- Words, read from left to right into their parts, and the end of a text without its last slashes.
use Rattle.std.specs.Prelude.{ℕ, ◌+◌, List, [], ◌∷◌, ◌++◌, ◌==◌, if◌then◌else◌, Option, Some, None, option_map}
use Rattle.image_ref.specs.Characters.{slash}
use Rattle.skopeo_words.specs.Forms.{Form, form_of, operand, end_mark, no_option, gives, takes}
use Rattle.skopeo_words.specs.Parts.{Part, plain, given, lacking, mark, unknown}
use Rattle.skopeo_words.specs.declared.form.Form as Code
use Rattle.skopeo_words.specs.declared.form.Form.TheVariants as form
use Rattle.skopeo_words.specs.declared.parts.Part as CodePart
use Rattle.skopeo_words.specs.declared.parts.Part.TheVariants as part
use Rattle.skopeo_words.specs.declared.parts.State.{State}
use Rattle.skopeo_words.specs.declared.parts.State.TheVariants.{Reading, Ended, Waiting}

-- the form that the code sees
abbrev pub seen_form : Code.Form → Form
seen_form form.Operand = operand
seen_form form.Ends = end_mark
seen_form form.Unknown = no_option
seen_form (form.Gives name text) = gives name text.now
seen_form (form.Takes name) = takes name

-- the part that the code sees
abbrev pub seen_part : CodePart.Part → Part
seen_part (part.Operand at text) = plain at text.now
seen_part (part.Given at name text) = given at name text.now
seen_part (part.Lacking name) = lacking name
seen_part part.Ends = mark
seen_part (part.Unknown at text) = unknown at text.now

-- how the next word is read, and the part that the word completes
abbrev pub Step : Type 0
Step = State × Option Part

-- a word of a form, where options are read
abbrev pub step_of : ℕ → List ℕ → Form → Step
step_of at word operand = (Reading, Some (plain at word))
step_of at word end_mark = (Ended, Some mark)
step_of at word no_option = (Reading, Some (unknown at word))
step_of at word (gives name text) = (Reading, Some (given at name text))
step_of at word (takes name) = (Waiting at name, None)

-- a word, by what stands before it
unfoldable pub step : State → ℕ → List ℕ → Step
step Reading at word = step_of at word (form_of word)
step Ended at word = (Ended, Some (plain at word))
step (Waiting place name) at word = (Reading, Some (given place name word))

-- the step that the code sees
abbrev pub seen_step : State × Option CodePart.Part → Step
seen_step s = (s.0, option_map (λ p. seen_part p) s.1)

-- a part where there is one
abbrev pub optional : Option Part → List Part
optional None = []
optional (Some p) = p ∷ []

-- what is left at the end of the words
abbrev pub left_of : State → List Part
left_of (Waiting place name) = lacking name ∷ []
left_of _ = []

-- the parts of words from a place on, by what stands before them
abbrev pub Rest : Type 0
Rest = State → ℕ → List Part

-- the part that a step completes, and those behind it
abbrev pub then_parts : Step → ℕ → Rest → List Part
then_parts step at rest = optional step.1 ++ rest step.0 at

-- the parts of words, by how they are read
abbrev pub parts_from : List (List ℕ) → Rest
parts_from [] = λ s at. left_of s
parts_from (word ∷ more) = λ s at. then_parts (step s at word) (at + 1) (parts_from more)

-- the parts of the words
abbrev pub parts_of : List (List ℕ) → List Part
parts_of words = parts_from words Reading 1

-- where a text ends without the slashes at its end, as it is read from the left: after so many
-- bytes, with this end so far
abbrev pub end_from : ℕ → ℕ → List ℕ → ℕ
end_from at end [] = end
end_from at end (b ∷ rest) = end_from (at + 1) (if b == slash then end else at + 1) rest
