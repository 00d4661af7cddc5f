-- Paths, made absolute against a folder and cleaned by their text alone: empty parts and `.`
-- vanish, and `..` removes the part before it, if there is one. No symbolic link is followed.
--
--   path  = part {"/" part}
--   clean = "/" | "/" name {"/" name}
--   name  = a part that is neither empty nor "." nor ".."
use Rattle.std.specs.Prelude.{◌≡◌, ℕ, List, [], ◌∷◌, ◌++◌, length, take, ◌-◌, Bool, ◌&&◌, ◌||◌, ◌==◌, not, if◌then◌else◌, codes, slice_index, true}
use Rattle.std.specs.List.{fold, slice_split, flat_map, list_all}
use Rattle.std.specs.Str.{bytes_eq}
use Rattle.image_ref.specs.Characters.{slash}
use Rattle.image_ref.specs.Cuts.{lacks}

-- the parts of a path, between its slashes
abbrev pub parts_of : List ℕ → List (List ℕ)
parts_of path = slice_split (λ b. b == slash) path

-- a part that names nothing: it is empty or `.`
abbrev pub is_here : List ℕ → Bool
is_here part = bytes_eq part [] || bytes_eq part (codes ".")

-- the part `..`
abbrev pub is_up : List ℕ → Bool
is_up part = bytes_eq part (codes "..")

-- the names that are kept, after one part more
abbrev pub keep : List (List ℕ) → List ℕ → List (List ℕ)
keep kept part =
    if is_here part then kept
    else if is_up part then take (length kept - 1) kept
    else kept ++ (part ∷ [])

-- a path that begins at the root
abbrev pub is_absolute : List ℕ → Bool
is_absolute path = slice_index path 0 == slash

-- the parts of a path as seen from the root: those of the folder, then its own
abbrev pub parts_from : List ℕ → List ℕ → List (List ℕ)
parts_from cwd path = (if is_absolute path then [] else parts_of cwd) ++ parts_of path

-- each name behind a slash
abbrev pub behind_slashes : List (List ℕ) → List ℕ
behind_slashes names = flat_map (λ name. slash ∷ name) names

-- the path of these names, from the root
abbrev pub path_text : List (List ℕ) → List ℕ
path_text [] = slash ∷ []
path_text (name ∷ more) = behind_slashes (name ∷ more)

-- the clean absolute path that a path means, seen from a folder
unfoldable pub cleaned : List ℕ → List ℕ → List ℕ
cleaned cwd path = path_text (fold keep [] (parts_from cwd path))

-- a part that is neither empty nor `.` nor `..`, and holds no slash
abbrev pub is_name : List ℕ → Bool
is_name part = (not (is_here part) && not (is_up part)) && lacks slash part

-- a path that is the root or names, each behind a slash
pub record IsClean (path : List ℕ) : Type 0 where
  pub names : List (List ℕ)
  pub are_names : list_all is_name names ≡ true
  pub written : path ≡ path_text names
