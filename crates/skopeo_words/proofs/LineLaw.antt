-- The parts of words as they are read, and as the table has them.
use Rattle.std.proofs.Common.{◌≡◌, ℕ, ◌+◌, List, [], ◌∷◌, subst, inl, inr}
use Rattle.skopeo_words.specs.Line.{IsLine}
use Rattle.skopeo_words.specs.Parts.{Part, plain, given, lacking, mark, unknown}
use Rattle.skopeo_words.specs.Scan.{parts_of}
use Rattle.skopeo_words.proofs.FormLaw.{IsForm, form_is, value_form, takes_form, mark_form, none_form, operand_form}
use Rattle.skopeo_words.proofs.PartsLaw.{AreParts, parts_are, parts_once}

line_of : (parts : List Part) (at : ℕ) (words : List (List ℕ)) → AreParts parts at words → IsLine parts at words
line_of [] at words h = h
line_of (plain place word ∷ more) at words (rest, e, same, f, h) =
    (rest, e, same, subst (IsForm word) f (form_is word), line_of more (at + 1) rest h)
line_of (given place name value ∷ more) at words (word, rest, same, inl (e, f, h)) =
    (word, rest, same, inl (e, subst (IsForm word) f (form_is word), line_of more (at + 1) rest h))
line_of (given place name value ∷ more) at words (word, rest, same, inr (e, f, h)) =
    (word, rest, same, inr (e, subst (IsForm word) f (form_is word), line_of more (at + 1 + 1) rest h))
line_of (lacking name ∷ more) at words (word, e, f, none) = (word, e, subst (IsForm word) f (form_is word), none)
line_of (mark ∷ more) at words (word, rest, e, f, behind) = (word, rest, e, subst (IsForm word) f (form_is word), behind)
line_of (unknown place word ∷ more) at words (rest, e, same, f, h) =
    (rest, e, same, subst (IsForm word) f (form_is word), line_of more (at + 1) rest h)

of_line : (parts : List Part) (at : ℕ) (words : List (List ℕ)) → IsLine parts at words → AreParts parts at words
of_line [] at words h = h
of_line (plain place word ∷ more) at words (rest, e, same, f, h) =
    (rest, e, same, operand_form word f, of_line more (at + 1) rest h)
of_line (given place name value ∷ more) at words (word, rest, same, inl (e, f, h)) =
    (word, rest, same, inl (e, value_form word name value f, of_line more (at + 1) rest h))
of_line (given place name value ∷ more) at words (word, rest, same, inr (e, f, h)) =
    (word, rest, same, inr (e, takes_form word name f, of_line more (at + 1 + 1) rest h))
of_line (lacking name ∷ more) at words (word, e, f, none) = (word, e, takes_form word name f, none)
of_line (mark ∷ more) at words (word, rest, e, f, behind) = (word, rest, e, mark_form word f, behind)
of_line (unknown place word ∷ more) at words (rest, e, same, f, h) =
    (rest, e, same, none_form word f, of_line more (at + 1) rest h)

-- words are the line of the parts that are read
pub line_is : (words : List (List ℕ)) → IsLine (parts_of words) 1 words
line_is words = line_of (parts_of words) 1 words (parts_are words)

-- and of no others
pub line_once : (parts : List Part) (words : List (List ℕ)) → IsLine parts 1 words → parts_of words ≡ parts
line_once parts words h = parts_once parts 1 words (of_line parts 1 words h)
