-- The labels of a host, cut at its dots one by one.
use Rattle.std.proofs.Common.{◌≡◌, ℕ, List, [], ◌∷◌, ◌++◌, codes, Some, None, refl, sym, ap, ◌∙◌, append_assoc}
use Rattle.std.specs.List.{join_with_byte}
use Rattle.std.proofs.lemmas.List.Splits.{join_with_byte-slice_split}
use Rattle.image_ref.specs.Characters.{dot}
use Rattle.image_ref.specs.Cuts.{Cut, cut_at}
use Rattle.image_ref.proofs.PartLemmas.{parts, parts_after, parts-cut}
use Rattle.image_ref.proofs.DomainLaw.{parts-some}
use Rattle.policy_scope.specs.Scopes.{wildcards_of}

alone : (cut : Cut) → None ≡ cut.1 → wildcards_of (parts_after dot cut) ≡ []
alone (first, None) e = refl
alone (first, Some rest) e = cc e

behind_label : (label : List ℕ) (more : List (List ℕ)) → (more ≡ [] → ⊥) → wildcards_of (label ∷ more) ≡ (codes "*." ++ join_with_byte dot more) ∷ wildcards_of more
behind_label label [] some = absurd (some refl)
behind_label label (next ∷ more) some = refl

cut_once : (cut : Cut) (rest : List ℕ) → Some rest ≡ cut.1 → wildcards_of (parts_after dot cut) ≡ (codes "*." ++ rest) ∷ wildcards_of (parts dot rest)
cut_once (first, None) rest e = cc e
cut_once (first, Some after) rest e =
    let same : rest ≡ after = cc e in
    rw same (behind_label first (parts dot after) (parts-some dot after) ∙ ap (λ t. (codes "*." ++ t) ∷ wildcards_of (parts dot after)) (join_with_byte-slice_split dot after))

-- without a dot there is none
pub wildcards-last : (text : List ℕ) → None ≡ (cut_at dot text).1 → wildcards_of (parts dot text) ≡ []
wildcards-last text e = ap wildcards_of (parts-cut dot text) ∙ alone (cut_at dot text) e

-- the first is of what stands behind the first dot
pub wildcards-next : (text rest : List ℕ) → Some rest ≡ (cut_at dot text).1 → wildcards_of (parts dot text) ≡ (codes "*." ++ rest) ∷ wildcards_of (parts dot rest)
wildcards-next text rest e = ap wildcards_of (parts-cut dot text) ∙ cut_once (cut_at dot text) rest e

-- one more was found, and the rest of the text is left
pub wildcards-more : (names more whole : List (List ℕ)) (w text rest : List ℕ) → more ≡ names ++ (w ∷ []) → w ≡ codes "*." ++ rest → Some rest ≡ (cut_at dot text).1
    → names ++ wildcards_of (parts dot text) ≡ whole → more ++ wildcards_of (parts dot rest) ≡ whole
wildcards-more names more whole w text rest pushed is cut h =
    rw pushed (append_assoc names (w ∷ []) (wildcards_of (parts dot rest)) ∙ ap (λ t. names ++ t) (ap (λ t. t ∷ wildcards_of (parts dot rest)) is ∙ sym (wildcards-next text rest cut)) ∙ h)
