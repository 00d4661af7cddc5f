-- The policy scopes of an image, most specific first, after containers-policy.json(5), "SCOPES".
--
--   docker     the full reference; the repository; each parent namespace; the host with its port;
--              from the host without its port, "*." and what follows each dot from the left
--   dir, oci   the path; each parent of it but the root
--
-- and last the empty scope, which every image has. The tag of an `oci` place is part of no scope.
use Rattle.std.specs.Prelude.{ℕ, zero, suc, List, [], ◌∷◌, ◌++◌, length, take, map, ◌==◌, not, codes}
use Rattle.std.specs.List.{filter, join_with_byte, slice_split}
use Rattle.std.specs.Str.{bytes_eq}
use Rattle.image_ref.specs.Characters.{slash, dot, colon}
use Rattle.image_ref.specs.Cuts.{cut_at}
use Rattle.image_ref.specs.Path.{parts_of}
use Rattle.image_ref.specs.Pieces.{components_of}
use Rattle.image_ref.specs.Reference.{Reference, full, repository_of}
use Rattle.image_ref.specs.declared.place.Place.{Place}
use Rattle.image_ref.specs.declared.place.Place.TheVariants.{Docker, Dir, Oci}

-- the numbers below n, falling to 0
abbrev pub falling : ℕ → List ℕ
falling zero = []
falling (suc n) = n ∷ falling n

-- the first part with k of the parts behind it, joined by slashes
abbrev pub front : List ℕ → List (List ℕ) → ℕ → List ℕ
front first rest k = join_with_byte slash (first ∷ take k rest)

-- the first part with so many of the parts behind it, from one fewer than all down to none
abbrev pub fronts : List ℕ → List (List ℕ) → List (List ℕ)
fronts first rest = map (front first rest) (falling (length rest))

-- of labels, `*.` and what follows each dot between them, from the left
abbrev pub wildcards_of : List (List ℕ) → List (List ℕ)
wildcards_of [] = []
wildcards_of (label ∷ []) = []
wildcards_of (label ∷ next ∷ more) =
    (codes "*." ++ join_with_byte dot (next ∷ more)) ∷ wildcards_of (next ∷ more)

-- the labels of a host, without its port
abbrev pub labels_of : List ℕ → List (List ℕ)
labels_of host = slice_split (λ b. b == dot) (cut_at colon host).0

-- the scopes with `*.` of a host
abbrev pub wildcards : List ℕ → List (List ℕ)
wildcards host = wildcards_of (labels_of host)

-- the parent namespaces of a reference, longest first, and last its host
abbrev pub namespaces : Reference → List (List ℕ)
namespaces r = fronts r.host (components_of r.path)

-- the scopes of a reference
abbrev pub image_scopes : Reference → List (List ℕ)
image_scopes r =
    full r ∷ repository_of r ∷ (namespaces r ++ (wildcards r.host ++ ([] ∷ [])))

-- the parents of a path of such parts, longest first; the root, whose text is empty, is left out
abbrev pub parents_of : List (List ℕ) → List (List ℕ)
parents_of [] = []
parents_of (first ∷ rest) = filter (λ t. not (bytes_eq t [])) (fronts first rest)

-- the scopes of a path
abbrev pub path_scopes : List ℕ → List (List ℕ)
path_scopes path = path ∷ (parents_of (parts_of path) ++ ([] ∷ []))

-- the scopes of a place
abbrev pub scopes : Place → List (List ℕ)
scopes (Docker r) = image_scopes r
scopes (Dir path) = path_scopes path
scopes (Oci path tag) = path_scopes path
