-- What an OCI layout is as a source. Its file `oci-layout` is not looked at.
use Rattle.std.specs.Prelude.{◌≡◌, ◌+◌, ◌==◌, ℕ, List, [], length, Bool, true, false, if◌then◌else◌, Option, Some, None, ◌⊎◌, IfErr, Result, Ok, Err}
use Rattle.std.specs.Str.{bytes_eq}
use Rattle.skopeo_outside.specs.Tree.{Tree, file_at}
use Rattle.skopeo_outside.specs.declared.words.Fetched.{Fetched}
use Rattle.skopeo_outside.specs.declared.words.What.TheVariants as what
use Rattle.digest_reader.specs.Digests.{digest}
use Rattle.json_tree.specs.Checked.{Checked}
use Rattle.json_tree.specs.Tree.{tree, pointer}
use Rattle.manifest_v2s2.specs.declared.descriptor.Descriptor.{Descriptor}
use Rattle.layouts.specs.declared.fault.LayoutFault.{LayoutFault}
use Rattle.layouts.specs.declared.fault.LayoutFault.TheVariants.{LayoutInvalid, RefAbsent, RefAmbiguous, TooLarge}
use Rattle.layouts.specs.declared.fault.LayoutFault.TheVariants as fault
use Rattle.layouts.specs.declared.read.Limited.{Limited}
use Rattle.layouts.specs.declared.read.Limited.TheVariants.{Absent, TooLong, Whole}
use Rattle.layouts.specs.Bounds.{limit, limited}
use Rattle.oci_index.specs.declared.choice.ChoiceFault.{ChoiceFault}
use Rattle.oci_index.specs.declared.choice.ChoiceFault.TheVariants as choice
use Rattle.oci_index.specs.Chosen.{chosen}
use Rattle.oci_index.specs.Reading.{index_of}
use Rattle.oci_layout.specs.Layout.{index_path, blob_path}

-- what follows where nothing is refused
abbrev pub followed : {A B : Type 0} → Result A LayoutFault → (A → Result B LayoutFault) → Result B LayoutFault
followed (Ok x) next = next x
followed (Err e) next = Err e

-- a call answered so, unless memory was wanting
abbrev pub Tells : {A : Type 0} → Result A LayoutFault → Result A LayoutFault → Type 0
Tells wanted (Ok x) = wanted ≡ Ok x
Tells wanted (Err e) = (e ≡ fault.Memory) ⊎ (wanted ≡ Err e)

-- faults that need no files, and that a layout may have
abbrev pub is_of_bytes : LayoutFault → Bool
is_of_bytes fault.NotAnImageDir = false
is_of_bytes fault.Files = false
is_of_bytes _ = true

-- what bytes alone decide
pub record Finds {A : Type 0} (wanted result : Result A LayoutFault) : Type 0 where
  pub answer : Tells wanted result
  pub of_bytes : IfErr result (λ e. is_of_bytes e ≡ true)

-- a bad member is told by its pointer
abbrev pub told : {A : Type 0} → Checked A → Result A LayoutFault
told (Ok x) = Ok x
told (Err p) = Err (LayoutInvalid (pointer p))

-- the entries of an index file, or why there are none
abbrev pub source_index : Limited → Result (List Descriptor) LayoutFault
source_index Absent = Err (LayoutInvalid [])
source_index TooLong = Err (TooLarge what.Index (limit + 1))
source_index (Whole bytes) = told (index_of (tree bytes))

-- the fault that a choice is
abbrev pub by_choice : ChoiceFault → LayoutFault
by_choice choice.Absent = RefAbsent
by_choice (choice.Ambiguous count) = RefAmbiguous count
by_choice choice.Memory = fault.Memory

-- the one entry of the name, or the one entry where none is asked for
abbrev pub by_name : Result Descriptor ChoiceFault → Result Descriptor LayoutFault
by_name (Ok x) = Ok x
by_name (Err e) = Err (by_choice e)

-- bytes that have the digest
abbrev pub compared : List ℕ → List ℕ → List ℕ → Result Fetched LayoutFault
compared expected media bytes =
    if bytes_eq (digest bytes) expected then Ok (record { bytes = bytes; content_type = media })
    else Err (fault.Digest expected (digest bytes))

-- the manifest that a blob is, by its digest, or why there is none
abbrev pub fetched : List ℕ → List ℕ → Limited → Result Fetched LayoutFault
fetched expected media Absent = Err (LayoutInvalid [])
fetched expected media TooLong = Err (TooLarge what.Manifest (limit + 1))
fetched expected media (Whole bytes) = compared expected media bytes

-- the manifest of this digest in a layout, with a content type
abbrev pub manifest_at : Tree → List ℕ → List ℕ → List ℕ → Result Fetched LayoutFault
manifest_at t folder media digest = fetched digest media (limited (file_at t (blob_path folder digest)))

-- the entry of the name in a layout
abbrev pub entry_in : Tree → List ℕ → Option (List ℕ) → Result Descriptor LayoutFault
entry_in t folder name =
    followed (source_index (limited (file_at t (index_path folder)))) (λ entries. by_name (chosen name entries))

-- the manifest of a layout's entry, with the entry's media type
abbrev pub IsManifest : Tree → List ℕ → Option (List ℕ) → Result Fetched LayoutFault → Type 0
IsManifest t folder name answer =
    answer ≡ followed (entry_in t folder name) (λ x. manifest_at t folder x.media x.digest)

-- the manifest of an instance, without a content type
abbrev pub IsInstance : Tree → List ℕ → List ℕ → Result Fetched LayoutFault → Type 0
IsInstance t folder digest answer = answer ≡ manifest_at t folder [] digest

-- a file that is there and has so many bytes
abbrev pub is_sized : ℕ → Option (List ℕ) → Bool
is_sized size None = false
is_sized size (Some bytes) = length bytes == size

-- faults that a layout may have; the other one is that of folder images
abbrev pub is_of_oci : LayoutFault → Bool
is_of_oci fault.NotAnImageDir = false
is_of_oci _ = true
