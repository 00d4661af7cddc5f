-- What a text is cut into before any of it is judged, and where the pieces begin.
--
--   text = head ["@" digest]
--   head = name [":" tag]
--   name = [host "/"] path
--
-- The first `@` counts, then the first `:` past the last `/` of what stands before it, and the
-- part before the first `/` is a host only where it looks like one.
use Rattle.std.specs.Prelude.{◌≡◌, ℕ, ◌+◌, List, ◌++◌, ◌∷◌, length, true, false, Option, Some, None, IfSome, ◌==◌}
use Rattle.std.specs.List.{slice_split}
use Rattle.image_ref.specs.Characters.{slash, colon, at_sign}
use Rattle.image_ref.specs.Cuts.{lacks}
use Rattle.image_ref.specs.Domain.{after, looks_like_host}
use Rattle.image_ref.specs.Reference.{before_slash, IsNoHost}

pub record Pieces : Type 0 where
  pub host : Option (List ℕ)
  pub path : List ℕ
  pub tag : Option (List ℕ)
  pub digest : Option (List ℕ)

-- host and path as they were written
abbrev pub name_of : Pieces → List ℕ
name_of p = before_slash p.host ++ p.path

-- the name and the tag
abbrev pub head_of : Pieces → List ℕ
head_of p = name_of p ++ after colon p.tag

-- where the path begins
abbrev pub path_at : Pieces → ℕ
path_at p = length (before_slash p.host)

-- where the tag begins
abbrev pub tag_at : Pieces → ℕ
tag_at p = length (name_of p) + 1

-- where the digest begins
abbrev pub digest_at : Pieces → ℕ
digest_at p = length (head_of p) + 1

-- the parts of a path, between its slashes
abbrev pub components_of : List ℕ → List (List ℕ)
components_of path = slice_split (λ b. b == slash) path

-- each `:` of the name has a `/` behind it
abbrev pub HasNoTag : List ℕ → Type 0
HasNoTag name = (front back : List ℕ) → name ≡ front ++ (colon ∷ back) → lacks slash back ≡ false

-- what stands before the first slash is a host where it looks like one
abbrev pub IsHostCut : Option (List ℕ) → List ℕ → Type 0
IsHostCut None path = IsNoHost (components_of path)
IsHostCut (Some host) path = (lacks slash host ≡ true) × (looks_like_host host ≡ true)

-- the text is cut into these pieces
pub record AreCut (text : List ℕ) (p : Pieces) : Type 0 where
  pub joined : text ≡ head_of p ++ after at_sign p.digest
  pub first_at : lacks at_sign (head_of p) ≡ true
  pub past_slash : IfSome p.tag (λ t. lacks slash t ≡ true)
  pub first_colon : HasNoTag (name_of p)
  pub host : IsHostCut p.host p.path
