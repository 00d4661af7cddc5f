-- The reference that a text spells, or its first fault, as a function: the pieces are found and the
-- rows of the table tried in order. The laws beside it say that it has a value just where the text
-- names one, and else the first fault.
use Rattle.std.specs.Prelude.{◌≡◌, ℕ, ◌+◌, List, [], ◌∷◌, length, option_map, Bool, true, false, ◌==◌, not, nat_lt, Option, Some, None, Result, Ok, Err, if◌then◌else◌, codes}
use Rattle.std.specs.List.{position_or_len}
use Rattle.image_ref.specs.Characters.{is_upper, slash, at_sign}
use Rattle.image_ref.specs.ComponentTest.{is_component}
use Rattle.image_ref.specs.Cuts.{Cut, cut_at, cut_tag}
use Rattle.image_ref.specs.Digest.{digest_of}
use Rattle.image_ref.specs.Domain.{is_domain, looks_like_host, passes_or_none}
use Rattle.image_ref.specs.Pieces.{Pieces, path_at, tag_at, digest_at, components_of}
use Rattle.image_ref.specs.Reference.{Reference, is_tag, is_hex_name, normal, repository_of, full}
use Rattle.image_ref.specs.declared.split.Split.{Split}
use Rattle.image_ref.specs.declared.fault.RefFault.{RefFault}
use Rattle.image_ref.specs.declared.fault.RefFault.TheVariants.{Empty, HexName, BadDigest, BadTag, BadHost, UpperCase, BadPath, TooLong, TagAndDigest}

-- the host where the part before the first slash is one, and the path
abbrev pub host_and_path : Cut → List ℕ → Option (List ℕ) × List ℕ
host_and_path (first, None) name = (None, name)
host_and_path (first, Some rest) name =
    if looks_like_host first then (Some first, rest) else (None, name)

-- the host and the path of a name
abbrev pub split_name : List ℕ → Option (List ℕ) × List ℕ
split_name name = host_and_path (cut_at slash name) name

-- the pieces of a text
abbrev pub pieces_of : List ℕ → Pieces
pieces_of text =
    let digest = cut_at at_sign text in
    let tag = cut_tag digest.0 in
    let name = split_name tag.0 in
    record {
      host = name.0;
      path = name.1;
      tag = tag.1;
      digest = digest.1;
    }

-- the same, as the code holds it
abbrev pub seen : Split → Pieces
seen s = record {
  host = option_map (λ t. t.now) s.host;
  path = s.path.now;
  tag = option_map (λ t. t.now) s.tag;
  digest = option_map (λ t. t.now) s.digest;
}

-- the places that the code holds are those of the pieces
pub record HasPlaces (s : Split) : Type 0 where
  pub path : s.path_at ≡ path_at (seen s)
  pub tag : s.tag_at ≡ tag_at (seen s)
  pub digest : s.digest_at ≡ digest_at (seen s)

-- where the first component begins that is not in its grammar
abbrev pub bad_component : ℕ → List (List ℕ) → Option ℕ
bad_component at [] = None
bad_component at (part ∷ parts) =
    if is_component part then bad_component (at + length part + 1) parts else Some at

-- where the first upper-case letter stands
abbrev pub upper_at : List ℕ → Option ℕ
upper_at path =
    if nat_lt (position_or_len is_upper path) (length path)
    then Some (position_or_len is_upper path) else None

-- a bad component is the fault, and without one the next row counts
abbrev pub path_checked : Pieces → Option ℕ → Result Reference RefFault → Result Reference RefFault
path_checked p None wanted = wanted
path_checked p (Some at) wanted = Err (BadPath at)

-- a reference that is not too long
abbrev pub fits : Reference → Result Reference RefFault
fits r = if nat_lt 255 (length (repository_of r)) then Err TooLong else Ok r

-- the digest that the text spells
abbrev pub digest_value : Option (List ℕ) → Option (List ℕ)
digest_value None = None
digest_value (Some text) = digest_of text

-- there is a value
abbrev pub is_there : Option (List ℕ) → Bool
is_there None = false
is_there (Some _) = true

-- the digest is in its grammar, where there is one
abbrev pub digest_passes : Option (List ℕ) → Bool
digest_passes text = passes_or_none (λ t. is_there (digest_of t)) text

-- the normal form of the pieces
abbrev pub value_of : Pieces → Reference
value_of p = normal p.host p.path p.tag (digest_value p.digest)

-- the rows, as far as they speak of the pieces
unfoldable pub judged : Pieces → Result Reference RefFault
judged p =
    if not (digest_passes p.digest) then Err (BadDigest (digest_at p))
    else if not (passes_or_none is_tag p.tag) then Err (BadTag (tag_at p))
    else if not (passes_or_none is_domain p.host) then Err (BadHost 0)
    else if nat_lt (position_or_len is_upper p.path) (length p.path)
    then Err (UpperCase (path_at p + position_or_len is_upper p.path))
    else path_checked p (bad_component (path_at p) (components_of p.path)) (fits (value_of p))

-- the reading of a text
unfoldable pub reading_of : List ℕ → Result Reference RefFault
reading_of text =
    if length text == 0 then Err Empty
    else if is_hex_name text then Err HexName
    else judged (pieces_of text)

-- the full text of a reference is read as it
abbrev pub IsReference : Reference → Type 0
IsReference r = reading_of (full r) ≡ Ok r

-- with `:latest` where there is neither tag nor digest; both are refused
abbrev pub tagged : Reference → Option (List ℕ) → Option (List ℕ) → Result Reference RefFault
tagged r (Some t) (Some d) = Err TagAndDigest
tagged r None None = Ok (record r { tag = Some (codes "latest") })
tagged r (Some t) None = Ok r
tagged r None (Some d) = Ok r

-- what was read, with its tag
abbrev pub then_tagged : Result Reference RefFault → Result Reference RefFault
then_tagged (Ok r) = tagged r r.tag r.digest
then_tagged (Err e) = Err e

-- the image that a text names
unfoldable pub docker_of : List ℕ → Result Reference RefFault
docker_of text = then_tagged (reading_of text)

-- where a fault lies
abbrev pub offset : RefFault → ℕ
offset (BadDigest at) = at
offset (BadTag at) = at
offset (BadHost at) = at
offset (UpperCase at) = at
offset (BadPath at) = at
offset _ = 0
