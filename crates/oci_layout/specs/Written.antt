-- What is written into an OCI layout beside the blobs of an image: its manifest's blob, and then the index.
use Rattle.std.specs.Prelude.{◌≡◌, ◌≢◌, ◌⊎◌, ◌+◌, ℕ, List, length, nat_le, if◌then◌else◌, Option, Some, None, Result, Ok, Err, ⊤}
use Rattle.serde_json.specs.Written.{compact_text}
use Rattle.skopeo_outside.specs.Tree.{Tree, file_at}
use Rattle.skopeo_outside.specs.declared.words.What.TheVariants as what
use Rattle.digest_reader.specs.Digests.{digest}
use Rattle.layouts.specs.declared.fault.LayoutFault.{LayoutFault}
use Rattle.layouts.specs.declared.fault.LayoutFault.TheVariants.{TooLarge}
use Rattle.layouts.specs.declared.read.Limited.{Limited}
use Rattle.layouts.specs.Bounds.{limit, limited}
use Rattle.layouts.specs.Trees.{OnlyAt, IsPut}
use Rattle.oci_index.specs.declared.edit.NewEntry.{NewEntry}
use Rattle.oci_index.specs.Edited.{edited}
use Rattle.oci_layout.specs.Layout.{index_path, index_part, blob_path, manifest_part}
use Rattle.oci_layout.specs.Source.{followed}
use Rattle.oci_layout.specs.Destination.{kept_index}

-- the entry of a manifest, by its bytes
abbrev pub entry_for : Option (List ℕ) → List ℕ → List ℕ → NewEntry
entry_for name media bytes = record { name = name; media = media; digest = digest bytes; size = length bytes }

-- a text that an index file may have
abbrev pub index_fitting : List ℕ → Result (List ℕ) LayoutFault
index_fitting text = if nat_le (length text) limit then Ok text else Err (TooLarge what.Index (limit + 1))

-- the text of an index file with one more entry, or why there is none
abbrev pub index_after : NewEntry → Limited → Result (List ℕ) LayoutFault
index_after entry file = followed (kept_index file) (λ old. index_fitting (compact_text (edited old entry)))

-- the text of a layout's index with one more entry
abbrev pub new_index_in : Tree → List ℕ → NewEntry → Result (List ℕ) LayoutFault
new_index_in t folder entry = index_after entry (limited (file_at t (index_path folder)))

-- a manifest enters the index exactly where there is such a text
abbrev pub JudgesManifest : Tree → List ℕ → NewEntry → Result ⊤ LayoutFault → Type 0
JudgesManifest t folder entry (Ok _) = (text : List ℕ) × (new_index_in t folder entry ≡ Ok text)
JudgesManifest t folder entry (Err e) = new_index_in t folder entry ≡ Err e

-- an instance does not enter it
abbrev pub JudgesPut : Tree → List ℕ → Option (List ℕ) → NewEntry → Result ⊤ LayoutFault → Type 0
JudgesPut t folder None entry answer = JudgesManifest t folder entry answer
JudgesPut t folder (Some instance) entry answer = answer ≡ Ok tt

-- none of the paths that a manifest of this digest takes, the index apart
pub record IsApart (folder digest other : List ℕ) : Type 0 where
  pub blob : other ≢ blob_path folder digest
  pub blob_part : other ≢ manifest_part folder digest
  pub part : other ≢ index_part folder

-- the manifest's blob stands, and the index with this text; of their parts nothing is left, and all else is as it was
pub record AreBothPut (folder digest bytes text : List ℕ) (old new : Tree) : Type 0 where
  pub index : file_at new (index_path folder) ≡ Some text
  pub blob : file_at new (blob_path folder digest) ≡ Some bytes
  pub blob_gone : file_at new (manifest_part folder digest) ≡ None
  pub index_gone : file_at new (index_part folder) ≡ None
  pub others : (q : List ℕ) → IsApart folder digest q → q ≢ index_path folder → file_at new q ≡ file_at old q
  pub folders : new.folders ≡ old.folders

-- the index is as it was, and so is the manifest's blob, or it stands; all else but their parts is as it was
pub record IsNotEntered (folder digest bytes : List ℕ) (old new : Tree) : Type 0 where
  pub index : file_at new (index_path folder) ≡ file_at old (index_path folder)
  pub blob : (file_at new (blob_path folder digest) ≡ file_at old (blob_path folder digest))
      ⊎ (file_at new (blob_path folder digest) ≡ Some bytes)
  pub others : (q : List ℕ) → IsApart folder digest q → file_at new q ≡ file_at old q
  pub folders : new.folders ≡ old.folders

-- a manifest stands, with its entry as the last one of the index
pub record IsEntered (folder : List ℕ) (entry : NewEntry) (bytes : List ℕ) (old new : Tree) : Type 0 where
  pub text : List ℕ
  pub text_is : new_index_in old folder entry ≡ Ok text
  pub put : AreBothPut folder entry.digest bytes text old new

-- the manifest's blob stands, of its part nothing is left, and all else is as it was
abbrev pub IsBlobPut : List ℕ → List ℕ → List ℕ → Tree → Tree → Type 0
IsBlobPut folder digest bytes = IsPut (manifest_part folder digest) (blob_path folder digest) bytes

-- a manifest was written: with an entry of the index, and without one where it is that of an instance
abbrev pub IsManifestPut : List ℕ → Option (List ℕ) → NewEntry → List ℕ → Tree → Tree → Type 0
IsManifestPut folder None entry bytes = IsEntered folder entry bytes
IsManifestPut folder (Some instance) entry bytes = IsBlobPut folder entry.digest bytes
