-- Places: a transport and what it names, after containers-transports(5).
--
--   place  = "docker://" reference | "dir:" path | "oci:" path [":" ociref]
--   ociref = 1 to 255 of letters, digits and "-._:@/+", the first of which is not "@"
--
-- The path of `oci` ends at its first `:`. Paths are cleaned against a folder.
use Rattle.std.specs.Prelude.{◌≡◌, ℕ, ◌+◌, List, [], ◌∷◌, ◌++◌, length, take, Bool, true, ◌&&◌, ◌||◌, ◌==◌, not, nat_le, Option, IfSome, ◌<◌, codes, slice_index, false, ◌⊎◌}
use Rattle.std.specs.List.{list_all, list_any}
use Rattle.std.specs.Str.{bytes_eq}
use Rattle.image_ref.specs.Characters.{is_alphanumeric, dot, dash, underscore, colon, slash, at_sign, plus}
use Rattle.image_ref.specs.Cuts.{lacks}
use Rattle.image_ref.specs.Domain.{after}
use Rattle.image_ref.specs.Path.{cleaned}
use Rattle.image_ref.specs.Reference.{ImageNamed}
use Rattle.image_ref.specs.Faults.{IsFirstImageFault}
use Rattle.image_ref.specs.declared.fault.RefFault.{RefFault}
use Rattle.image_ref.specs.declared.fault.RefFault.TheVariants as ref
use Rattle.image_ref.specs.declared.fault.PlaceFault.{PlaceFault}
use Rattle.image_ref.specs.declared.fault.PlaceFault.TheVariants.{NoTransport, UnknownTransport, LeftOut, Slashes, EmptyPath, BadOciRef, Reference as OfReference, Memory}
use Rattle.image_ref.specs.declared.place.Place.{Place}
use Rattle.image_ref.specs.declared.place.Place.TheVariants.{Docker, Dir, Oci}

-- a byte of an ociref
abbrev pub is_oci_byte : ℕ → Bool
is_oci_byte b =
    (is_alphanumeric b || ((b == dash) || (b == dot)))
    || (((b == underscore) || (b == colon)) || ((b == at_sign) || ((b == slash) || (b == plus))))

-- an ociref, as a test
abbrev pub is_oci_ref : List ℕ → Bool
is_oci_ref text =
    (list_all is_oci_byte text && not (slice_index text 0 == at_sign))
    && (nat_le 1 (length text) && nat_le (length text) 255)

-- transports that the original tool has and this one leaves out
abbrev pub is_left_out : List ℕ → Bool
is_left_out name =
    list_any (bytes_eq name)
    (codes "docker-archive" ∷ codes "oci-archive" ∷ codes "containers-storage"
    ∷ codes "docker-daemon" ∷ codes "sif" ∷ codes "ostree" ∷ codes "tarball" ∷ [])

-- a fault in the text behind so many bytes
abbrev pub moved : ℕ → RefFault → RefFault
moved n (ref.BadDigest at) = ref.BadDigest (at + n)
moved n (ref.BadTag at) = ref.BadTag (at + n)
moved n (ref.BadHost at) = ref.BadHost (at + n)
moved n (ref.UpperCase at) = ref.UpperCase (at + n)
moved n (ref.BadPath at) = ref.BadPath (at + n)
moved n ref.Empty = ref.Empty
moved n ref.HexName = ref.HexName
moved n ref.TooLong = ref.TooLong
moved n ref.TagAndDigest = ref.TagAndDigest
moved n ref.Memory = ref.Memory

-- the text is a transport and what it names, seen from a folder
abbrev pub PlaceOf : List ℕ → List ℕ → Place → Type 0
PlaceOf cwd text (Docker r) =
    (ref : List ℕ) × (text ≡ codes "docker://" ++ ref) × ImageNamed ref r
PlaceOf cwd text (Dir p) =
    (path : List ℕ) × (text ≡ codes "dir:" ++ path) × (0 < length path) × (p ≡ cleaned cwd path)
PlaceOf cwd text (Oci p name) =
    (path : List ℕ) × (text ≡ codes "oci:" ++ (path ++ after colon name))
    × (0 < length path) × (lacks colon path ≡ true)
    × IfSome name (λ n. is_oci_ref n ≡ true) × (p ≡ cleaned cwd path)

-- one of the transports that a text can have, or that are left out
abbrev pub is_known : List ℕ → Bool
is_known name =
    (bytes_eq name (codes "docker") || bytes_eq name (codes "dir"))
    || (bytes_eq name (codes "oci") || is_left_out name)

-- a text that names no place, and why; offsets count in the whole text
abbrev pub PlaceFaultOf : List ℕ → PlaceFault → Type 0
PlaceFaultOf text NoTransport = lacks colon text ≡ true
PlaceFaultOf text UnknownTransport =
    (name : List ℕ) × (rest : List ℕ) × (text ≡ name ++ (colon ∷ rest))
    × (lacks colon name ≡ true) × (is_known name ≡ false)
PlaceFaultOf text LeftOut =
    (name : List ℕ) × (rest : List ℕ) × (text ≡ name ++ (colon ∷ rest))
    × (lacks colon name ≡ true) × (is_left_out name ≡ true)
PlaceFaultOf text Slashes =
    (rest : List ℕ) × (text ≡ codes "docker:" ++ rest) × (take 2 rest ≡ codes "//" → ⊥)
PlaceFaultOf text EmptyPath =
    (text ≡ codes "dir:")
    ⊎ ((name : Option (List ℕ)) × (text ≡ codes "oci:" ++ after colon name))
PlaceFaultOf text BadOciRef =
    (path : List ℕ) × (name : List ℕ) × (text ≡ codes "oci:" ++ (path ++ (colon ∷ name)))
    × (0 < length path) × (lacks colon path ≡ true) × (is_oci_ref name ≡ false)
PlaceFaultOf text (OfReference fault) =
    (ref : List ℕ) × (found : RefFault) × (text ≡ codes "docker://" ++ ref)
    × IsFirstImageFault ref found × (fault ≡ moved 9 found)
PlaceFaultOf text Memory = ⊥
