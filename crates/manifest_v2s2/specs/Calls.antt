-- What a reader of manifest bytes answers, and what a writer finds.
use Rattle.std.specs.Prelude.{◌≡◌, All, Result, Ok, Err}
use Rattle.image_ref.specs.Digest.{IsDigest}
use Rattle.json_tree.specs.First.{Path, IsFirst}
use Rattle.json_tree.specs.Tree.{pointer}
use Rattle.json_tree.specs.Checked.{Checked}
use Rattle.manifest_v2s2.specs.declared.descriptor.Descriptor.{Descriptor}
use Rattle.manifest_v2s2.specs.declared.image.Image.{Image}
use Rattle.manifest_v2s2.specs.declared.fault.ManifestFault.{ManifestFault}
use Rattle.manifest_v2s2.specs.declared.fault.ManifestFault.TheVariants.{Member, Memory}

-- the fault is the pointer of the reading's, unless memory ran out
abbrev pub IsFaultOf : {A : Type 0} → Checked A → ManifestFault → Type 0
IsFaultOf read (Member text) = (p : Path) × (read ≡ Err p) × (text ≡ pointer p)
IsFaultOf read Memory = Unit {0}

-- the answer is the reading's value or the pointer of its fault, unless memory ran out
abbrev pub Reads : {A : Type 0} → Result A ManifestFault → Checked A → Type 0
Reads (Ok x) read = read ≡ Ok x
Reads (Err e) read = IsFaultOf read e

-- no member is bad, or the answer is the pointer of the first bad one, unless memory ran out
abbrev pub NamesFirstBad : {A : Type 0} → Result A ManifestFault → (Path → Type 0) → Type 0
NamesFirstBad (Ok x) B = (p : Path) → B p → ⊥
NamesFirstBad (Err (Member text)) B = (p : Path) × IsFirst B p × (text ≡ pointer p)
NamesFirstBad (Err Memory) B = Unit {0}

-- the one value that is said, or a member where none is, unless memory ran out
abbrev pub TellsOnly : {A : Type 0} → (A → Type 0) → Result A ManifestFault → Type 0
TellsOnly {A} Says (Ok x) = Says x × ((y : A) → Says y → y ≡ x)
TellsOnly {A} Says (Err (Member text)) = (y : A) → Says y → ⊥
TellsOnly Says (Err Memory) = Unit {0}

-- its digest is one
abbrev pub HasDigest : Descriptor → Type 0
HasDigest x = IsDigest x.digest

-- so are those of all its descriptors
pub record HaveDigests (i : Image) : Type 0 where
  pub config : HasDigest i.config
  pub layers : All HasDigest i.layers
