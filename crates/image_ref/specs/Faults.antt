-- The first fault of a text that names no reference: a table of rows, of which the first that
-- holds counts. An offset is that of the first byte of what is wrong.
use Rattle.std.specs.Prelude.{◌≡◌, ℕ, ◌+◌, ◌<◌, List, [], ◌∷◌, ◌++◌, length, true, not, Option, Some, None, IsSome, ◌⊎◌}
use Rattle.std.specs.List.{All, list_all, flat_map}
use Rattle.image_ref.specs.Characters.{is_upper, slash}
use Rattle.image_ref.specs.Component.{IsComponent}
use Rattle.image_ref.specs.Digest.{IsDigestText}
use Rattle.image_ref.specs.Domain.{IsDomain}
use Rattle.image_ref.specs.Pieces.{Pieces, AreCut, path_at, tag_at, digest_at, components_of}
use Rattle.image_ref.specs.Reference.{Reference, Named, IsTag, is_hex_name, normal, repository_of}
use Rattle.image_ref.specs.declared.fault.RefFault.{RefFault}
use Rattle.image_ref.specs.declared.fault.RefFault.TheVariants.{Empty, HexName, BadDigest, BadTag, BadHost, UpperCase, BadPath, TooLong, TagAndDigest, Memory}

-- the piece is there, and not in its grammar
abbrev pub IsWrong : (List ℕ → Type 0) → Option (List ℕ) → Type 0
IsWrong Grammar None = ⊥
IsWrong Grammar (Some text) = Grammar text → ⊥

-- the first upper-case letter stands behind so many bytes
pub record IsFirstUpper (path : List ℕ) (found : ℕ) : Type 0 where
  pub before : List ℕ
  pub letter : ℕ
  pub after : List ℕ
  pub joined : path ≡ before ++ (letter ∷ after)
  pub none_before : list_all (λ b. not (is_upper b)) before ≡ true
  pub upper : is_upper letter ≡ true
  pub place : found ≡ length before

-- the first part that is no component stands behind so many bytes: those of the parts before it,
-- each with its slash
pub record IsFirstBad (parts : List (List ℕ)) (found : ℕ) : Type 0 where
  pub before : List (List ℕ)
  pub part : List ℕ
  pub after : List (List ℕ)
  pub joined : parts ≡ before ++ (part ∷ after)
  pub none_before : All IsComponent before
  pub bad : IsComponent part → ⊥
  pub place : found ≡ length (flat_map (λ c. c ++ (slash ∷ [])) before)

-- when the row of a fault holds of a text with these pieces
abbrev pub Holds : List ℕ → Pieces → RefFault → Type 0
Holds text p Empty = text ≡ []
Holds text p HexName = is_hex_name text ≡ true
Holds text p (BadDigest at) = IsWrong IsDigestText p.digest × (at ≡ digest_at p)
Holds text p (BadTag at) = IsWrong IsTag p.tag × (at ≡ tag_at p)
Holds text p (BadHost at) = IsWrong IsDomain p.host × (at ≡ 0)
Holds text p (UpperCase at) = (k : ℕ) × IsFirstUpper p.path k × (at ≡ path_at p + k)
Holds text p (BadPath at) = (k : ℕ) × IsFirstBad (components_of p.path) k × (at ≡ path_at p + k)
Holds text p TooLong = 255 < length (repository_of (normal p.host p.path None None))
Holds text p TagAndDigest = ⊥
Holds text p Memory = ⊥

-- the order of the rows
abbrev pub row : RefFault → ℕ
row Empty = 0
row HexName = 1
row (BadDigest at) = 2
row (BadTag at) = 3
row (BadHost at) = 4
row (UpperCase at) = 5
row (BadPath at) = 6
row TooLong = 7
row TagAndDigest = 8
row Memory = 9

-- the row holds of the text's pieces, and none before it does
pub record IsFirstFault (text : List ℕ) (fault : RefFault) : Type 0 where
  pub pieces : Pieces
  pub cut : AreCut text pieces
  pub holds : Holds text pieces fault
  pub first : (other : RefFault) → row other < row fault → Holds text pieces other → ⊥

-- the text names a reference with both a tag and a digest
abbrev pub NamesBoth : List ℕ → Type 0
NamesBoth text = (r : Reference) × Named text r × IsSome r.tag × IsSome r.digest

-- the last row, of a text that is to name an image
abbrev pub IsFirstImageFault : List ℕ → RefFault → Type 0
IsFirstImageFault text fault = IsFirstFault text fault ⊎ ((fault ≡ TagAndDigest) × NamesBoth text)
