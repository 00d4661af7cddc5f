-- Where a text is cut into the parts of a reference.
use Rattle.std.specs.Prelude.{ℕ, List, [], ◌∷◌, ◌++◌, Bool, ◌&&◌, ◌==◌, not, if◌then◌else◌, Option, Some, None}
use Rattle.std.specs.List.{list_all}
use Rattle.image_ref.specs.Characters.{slash, colon}

-- what stands before a cut, and what stands after it where there is one
abbrev pub Cut : Type 0
Cut = List ℕ × Option (List ℕ)

-- a text put in front of a cut
abbrev pub in_front : List ℕ → Cut → Cut
in_front front cut = (front ++ cut.0, cut.1)

-- a byte put in front of a cut
abbrev pub behind : ℕ → Cut → Cut
behind b cut = (b ∷ cut.0, cut.1)

-- cut at the first c
abbrev pub cut_at : ℕ → List ℕ → Cut
cut_at c [] = ([], None)
cut_at c (b ∷ rest) = if b == c then ([], Some rest) else behind b (cut_at c rest)

-- the text does not hold c
abbrev pub lacks : ℕ → List ℕ → Bool
lacks c text = list_all (λ b. not (b == c)) text

-- cut at the first `:` past the last `/`
abbrev pub cut_tag : List ℕ → Cut
cut_tag [] = ([], None)
cut_tag (b ∷ rest) =
    if (b == colon) && lacks slash rest then ([], Some rest) else behind b (cut_tag rest)
