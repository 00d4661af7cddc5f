-- A head that is written line by line.
use Rattle.std.proofs.Common.{◌≡◌, ℕ, List, [], ◌∷◌, ◌++◌, refl, ap, sym, ◌∙◌, append_assoc, codes, Option, Some}
use Rattle.http_message.specs.Requests.{type_line}
use Rattle.http_message.specs.Sent.{with_head}
use Rattle.http_message.specs.Written.{written}

written_then : (ms ls : List (List ℕ)) → written ms ++ with_head ls [] ≡ with_head (ms ++ ls) []
written_then [] ls = refl
written_then (m ∷ ms) ls =
    append_assoc m (13 ∷ 10 ∷ written ms) (with_head ls []) ∙ ap (λ (w : List ℕ). m ++ (13 ∷ 10 ∷ w)) (written_then ms ls)

-- some lines more, and then those that are still to come
pub lines_more : (before after : List ℕ) (ms ls : List (List ℕ)) → after ≡ before ++ written ms
    → after ++ with_head ls [] ≡ before ++ with_head (ms ++ ls) []
lines_more before after ms ls e =
    ap (λ (w : List ℕ). w ++ with_head ls []) e ∙ append_assoc before (written ms) (with_head ls [])
    ∙ ap (λ (w : List ℕ). before ++ w) (written_then ms ls)

-- the line of a type that is there
pub type_written : (before after s t : List ℕ) (o : Option (List ℕ)) → after ≡ before ++ written ((codes "Content-Type: " ++ s) ∷ [])
    → s ≡ t → o ≡ Some t → after ≡ before ++ written (type_line o)
type_written before after s t o e same is =
    e ∙ ap (λ (w : List ℕ). before ++ written ((codes "Content-Type: " ++ w) ∷ [])) same
    ∙ ap (λ (w : Option (List ℕ)). before ++ written (type_line w)) (sym is)
