-- The instance of a list that is chosen for a platform (docs/manifests.md, "Lists").
use Rattle.std.specs.Prelude.{◌≡◌, ◌≢◌, ◌⊎◌, ℕ, suc, ◌<◌, List, [], ◌∷◌, All, take, Bool, true, false, ◌&&◌, ◌||◌, if◌then◌else◌, Option, Some, None, slice_get}
use Rattle.std.specs.Str.{bytes_eq}
use Rattle.manifest_v2s2.specs.Media.{media_of}
use Rattle.manifest_v2s2.specs.declared.kind.Kind.TheVariants.{V2s2, Oci}
use Rattle.manifest_list.specs.declared.list.ListEntry.{ListEntry}
use Rattle.manifest_list.specs.declared.platform.Platform.{Platform}
use Rattle.manifest_list.specs.Platform.{os_of, arch_of, variant_of}

-- what is asked for: an operating system, an architecture, and maybe a variant
pub record Asked : Type 0 where
  pub os : List ℕ
  pub arch : List ℕ
  pub variant : Option (List ℕ)

-- these three
abbrev pub asked : List ℕ → List ℕ → Option (List ℕ) → Asked
asked os arch variant = record { os = os; arch = arch; variant = variant }

-- an image's media type
abbrev pub IsImageType : List ℕ → Type 0
IsImageType media = (media ≡ media_of V2s2) ⊎ (media ≡ media_of Oci)

-- where a variant is asked for, it is the platform's
abbrev pub HasVariant : Option (List ℕ) → Option (List ℕ) → Type 0
HasVariant None variant = Unit {0}
HasVariant (Some asked) variant = variant ≡ Some asked

-- the platform has what is asked for
pub record Suits (asked : Asked) (p : Platform) : Type 0 where
  pub os : os_of p ≡ asked.os
  pub arch : arch_of p ≡ asked.arch
  pub variant : HasVariant asked.variant (variant_of p)

-- an entry of an image, with such a platform
pub record Fits (asked : Asked) (e : ListEntry) : Type 0 where
  pub image : IsImageType e.target.media
  pub platform : Platform
  pub there : e.platform ≡ Some platform
  pub suits : Suits asked platform

-- the entry at that place, counted from 0, is the first that fits
pub record IsInstance (asked : Asked) (es : List ListEntry) (place : ℕ) : Type 0 where
  pub entry : ListEntry
  pub there : slice_get es place ≡ Some entry
  pub fits : Fits asked entry
  pub none_before : All (λ e. Fits asked e → ⊥) (take place es)

-- the place of the first entry that fits, or none does
abbrev pub IsChosen : Asked → List ListEntry → Option ℕ → Type 0
IsChosen asked es (Some place) = IsInstance asked es place
IsChosen asked es None = All (λ e. Fits asked e → ⊥) es

-- as the code finds it

-- one of the two media types of images
abbrev pub is_image_type : List ℕ → Bool
is_image_type media = bytes_eq media (media_of V2s2) || bytes_eq media (media_of Oci)

-- the text is there
abbrev pub is_there : List ℕ → Option (List ℕ) → Bool
is_there text None = false
is_there text (Some other) = bytes_eq other text

-- the variant, where one is asked for
abbrev pub has_variant : Option (List ℕ) → Option (List ℕ) → Bool
has_variant None variant = true
has_variant (Some asked) variant = is_there asked variant

-- the platform has what is asked for
abbrev pub suits : Asked → Platform → Bool
suits asked p = bytes_eq (os_of p) asked.os && (bytes_eq (arch_of p) asked.arch && has_variant asked.variant (variant_of p))

-- a platform is there, and has it
abbrev pub suits_there : Asked → Option Platform → Bool
suits_there asked None = false
suits_there asked (Some p) = suits asked p

-- an entry of an image, with such a platform
abbrev pub fits : Asked → ListEntry → Bool
fits asked e = is_image_type e.target.media && suits_there asked e.platform

-- the place of the first entry that fits, the first of all at place i
abbrev pub instance_from : Asked → ℕ → List ListEntry → Option ℕ
instance_from asked i [] = None
instance_from asked i (e ∷ es) = if fits asked e then Some i else instance_from asked (suc i) es
