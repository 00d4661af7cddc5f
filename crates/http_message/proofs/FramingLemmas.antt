-- One coding among header lines settles that they are encoded.
use Rattle.std.proofs.Common.{◌≡◌, ℕ, ◌<◌, true, List, length, get_or, map, ap, sym, subst, ◌∙◌}
use Rattle.std.proofs.lemmas.List.{get_or-map, length-map}
use Rattle.std.proofs.lemmas.List.Folds.{list_any_at}
use Rattle.http_message.specs.declared.head.Field.{Field}
use Rattle.http_message.specs.Framing.{is_coding, is_encoded}
use Rattle.http_message.specs.Shown.{field_bytes}

pub encoded_at : (fields : List Field) (i : ℕ) (x : Field) → i < length fields → get_or fields i x ≡ x
    → true ≡ is_coding (field_bytes x) → true ≡ is_encoded (map field_bytes fields)
encoded_at fields i x inside e h =
    sym (list_any_at is_coding (map field_bytes fields) i (field_bytes x) (subst (λ (n : ℕ). i < n) (sym (length-map fields field_bytes)) inside)
    (ap is_coding (get_or-map field_bytes fields i x (field_bytes x) inside ∙ ap field_bytes e) ∙ sym h))
