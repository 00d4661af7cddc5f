-- The entry of an index that is asked for (OCI Image Specification 1.1, "Pre-Defined Annotation Keys"; docs/layouts.md, "OCI layouts").
use Rattle.std.specs.Prelude.{◌≡◌, ℕ, ◌-◌, ◌^◌, min, codes, List, [], ◌∷◌, length, filter, Bool, true, false, if◌then◌else◌, Option, Some, None, Result, Ok, Err}
use Rattle.std.specs.Str.{bytes_eq}
use Rattle.skopeo_outside.specs.declared.pair.Pair.{Pair}
use Rattle.manifest_v2s2.specs.declared.descriptor.Descriptor.{Descriptor}
use Rattle.oci_index.specs.declared.choice.ChoiceFault.{ChoiceFault}
use Rattle.oci_index.specs.declared.choice.ChoiceFault.TheVariants.{Absent, Ambiguous, Memory}

-- the annotation that names an entry
abbrev pub ref_key : List ℕ
ref_key = codes "org.opencontainers.image.ref.name"

-- the value of that name
abbrev pub value_of : List ℕ → List Pair → Option (List ℕ)
value_of name [] = None
value_of name (p ∷ ps) = if bytes_eq p.name name then Some p.value else value_of name ps

-- a text that is there and is this one
abbrev pub is_text : List ℕ → Option (List ℕ) → Bool
is_text name None = false
is_text name (Some text) = bytes_eq text name

-- an entry fits where it has the name that is asked for; without one each does
abbrev pub fits : Option (List ℕ) → Descriptor → Bool
fits None x = true
fits (Some name) x = is_text name (value_of ref_key x.annotations)

-- the one of some entries; of none there is none, and of several their number is told, up to 4,294,967,295
abbrev pub one_of : List Descriptor → Result Descriptor ChoiceFault
one_of [] = Err Absent
one_of (x ∷ []) = Ok x
one_of (x ∷ y ∷ more) = Err (Ambiguous (min (length (x ∷ y ∷ more)) (2 ^ 32 - 1)))

-- the one entry that fits
abbrev pub chosen : Option (List ℕ) → List Descriptor → Result Descriptor ChoiceFault
chosen name entries = one_of (filter (fits name) entries)

-- a call answered so, unless memory was wanting
abbrev pub Chooses : Result Descriptor ChoiceFault → Result Descriptor ChoiceFault → Type 0
Chooses (Ok x) wanted = wanted ≡ Ok x
Chooses (Err Absent) wanted = wanted ≡ Err Absent
Chooses (Err (Ambiguous count)) wanted = wanted ≡ Err (Ambiguous count)
Chooses (Err Memory) wanted = Unit {0}
