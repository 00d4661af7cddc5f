-- Parts that are kept, one after another.
use Rattle.std.proofs.Common.{◌≡◌, ℕ, List, Some, None, ap, ◌∙◌}
use Rattle.std.specs.List.{fold}
use Rattle.image_ref.specs.Characters.{slash}
use Rattle.image_ref.specs.Cuts.{cut_at}
use Rattle.image_ref.specs.Path.{keep, parts_of}
use Rattle.image_ref.proofs.PartLemmas.{parts_after, parts-cut, pair_is}

pub kept_last : (kept : List (List ℕ)) (rest part : List ℕ) → part ≡ (cut_at slash rest).0 → None ≡ (cut_at slash rest).1 → fold keep kept (parts_of rest) ≡ keep kept part
kept_last kept rest part e f = ap (fold keep kept) (parts-cut slash rest ∙ ap (parts_after slash) (pair_is (cut_at slash rest) part None e f))

pub kept_next : (kept : List (List ℕ)) (rest part more : List ℕ) → part ≡ (cut_at slash rest).0 → Some more ≡ (cut_at slash rest).1 → fold keep kept (parts_of rest) ≡ fold keep (keep kept part) (parts_of more)
kept_next kept rest part more e f = ap (fold keep kept) (parts-cut slash rest ∙ ap (parts_after slash) (pair_is (cut_at slash rest) part (Some more) e f))
