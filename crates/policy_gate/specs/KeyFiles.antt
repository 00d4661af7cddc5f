-- The keys of a `signedBy`: their decoded data, or the bytes of the files at their paths, in order. A key file may not be
-- too long, and neither may be all keys of one requirement.
use Rattle.std.specs.Prelude.{◌≡◌, ◌++◌, MatchOption, IfSome, ℕ, ◌+◌, ◌-◌, List, [], ◌∷◌, length, nat_lt, if◌then◌else◌, Option}
use Rattle.skopeo_outside.specs.Tree.{Tree, file_at}
use Rattle.skopeo_outside.specs.declared.words.What.TheVariants as what
use Rattle.image_ref.specs.Path.{cleaned}
use Rattle.layouts.specs.Bounds.{limit, limited}
use Rattle.layouts.specs.declared.read.Limited.{Limited}
use Rattle.layouts.specs.declared.read.Limited.TheVariants as file
use Rattle.policy_file.specs.declared.requirement.Keys.{Keys}
use Rattle.policy_file.specs.declared.requirement.Keys.TheVariants.{Paths, Bytes}
use Rattle.policy_gate.specs.declared.keys.KeysRead.{KeysRead}
use Rattle.policy_gate.specs.declared.keys.KeysRead.TheVariants.{Absent, TooLarge, Read}

-- the most bytes that the keys of one requirement may have
unfoldable pub most_key_bytes : ℕ
most_key_bytes = 67108864

-- one key more in front of those that were read
abbrev pub with_key : List ℕ → KeysRead → KeysRead
with_key key (Read keys) = Read (key ∷ keys)
with_key key Absent = Absent
with_key key (TooLarge of length) = TooLarge of length

-- a key, for which so much room is left, and the keys behind it, by the room that it leaves
abbrev pub then_keys : ℕ → (ℕ → KeysRead) → Limited → KeysRead
then_keys room rest file.Absent = Absent
then_keys room rest file.TooLong = TooLarge what.Key (limit + 1)
then_keys room rest (file.Whole key) =
    if nat_lt room (length key) then TooLarge what.Keys (most_key_bytes + 1) else with_key key (rest (room - length key))

-- the keys at some paths, for which so much room is left; the first that is absent or too long counts
abbrev pub keys_at : (List ℕ → Option (List ℕ)) → List (List ℕ) → ℕ → KeysRead
keys_at files [] room = Read []
keys_at files (path ∷ more) room = then_keys room (keys_at files more) (limited (files path))

-- the one key of these bytes
abbrev pub own_key : List ℕ → KeysRead
own_key key = if nat_lt most_key_bytes (length key) then TooLarge what.Keys (most_key_bytes + 1) else Read (key ∷ [])

-- the file at a path that is seen from a folder
abbrev pub seen_from : List ℕ → Tree → List ℕ → Option (List ℕ)
seen_from cwd t path = file_at t (cleaned cwd path)

-- so much was read of the keys of a requirement. Of key paths this says something only where the files told their tree
abbrev pub AreRead : List ℕ → Option Tree → Keys → KeysRead → Type 0
AreRead cwd tree (Paths paths) read = IfSome tree (λ t. read ≡ keys_at (seen_from cwd t) paths most_key_bytes)
AreRead cwd tree (Bytes key) read = read ≡ own_key key

-- the keys are in files
abbrev pub AreFiles : Keys → Type 0
AreFiles (Paths paths) = Unit {0}
AreFiles (Bytes key) = ⊥

-- keys that were found in front of those that were read
abbrev pub with_keys : List (List ℕ) → KeysRead → KeysRead
with_keys found (Read keys) = Read (found ++ keys)
with_keys found Absent = Absent
with_keys found (TooLarge of length) = TooLarge of length

-- a file was added to the keys that were found, or that is why there are none
abbrev pub Adds : Limited → List (List ℕ) → List (List ℕ) → ℕ → ℕ → Option KeysRead → Type 0
Adds file old new room left stop = (rest : ℕ → KeysRead)
    → MatchOption stop (with_keys old (then_keys room rest file) ≡ with_keys new (rest left)) (λ keys. with_keys old (then_keys room rest file) ≡ keys)
