-- What a source gives of an image between two told states of a lane. Each relation has one case a kind of source; all
-- that stands above knows of them only these laws:
--   what a step came to between two states it came to between wider ones (`Spares` before it, anything behind it);
--   `Spares` is a preorder, and what is done at a destination apart from the source spares the source.
use Rattle.std.specs.Prelude.{◌≡◌, ◌+◌, ◌≤◌, false, List, [], ℕ, Option, Some, None, Result, Ok, Err, IfSome, length, take}
use Rattle.skopeo_outside.specs.Tree.{Tree, file_at}
use Rattle.skopeo_outside.specs.Folders.{joined}
use Rattle.skopeo_outside.specs.Outside.{Told}
use Rattle.skopeo_outside.specs.LaneTold.{LaneTold, IsLater}
use Rattle.skopeo_outside.specs.declared.words.Fetched.{Fetched}
use Rattle.skopeo_outside.specs.declared.words.What.TheVariants as what
use Rattle.digest_reader.specs.declared.job.Job.{Job}
use Rattle.layouts.specs.Bounds.{limited, limit}
use Rattle.layouts.specs.declared.read.Limited.{Limited}
use Rattle.layouts.specs.declared.read.Limited.TheVariants.{Absent, TooLong, Whole}
use Rattle.layouts.specs.Names.{manifest_name, prefix_of}
use Rattle.layouts.specs.Paths.{IsIn, blob_path}
use Rattle.layouts.specs.Source.{numbered, signatures_in}
use Rattle.layouts.specs.declared.fault.LayoutFault.{LayoutFault}
use Rattle.layouts.specs.declared.fault.LayoutFault.TheVariants as layout
use Rattle.copy_workers.specs.declared.cause.Cause.{Cause}
use Rattle.transports.specs.declared.blob.Blob.{Blob}
use Rattle.transports.specs.declared.blob.Blob.TheVariants as blob
use Rattle.transports.specs.declared.source.Source.{Source}
use Rattle.transports.specs.declared.source.Source.TheVariants.{Folder, Registry}
use Rattle.transports.specs.declared.refusal.Refusal.{Refusal}
use Rattle.transports.specs.declared.refusal.Refusal.TheVariants.{NotAnImageDir, TooLarge, Memory}
use Rattle.transports.specs.Blobs.{looked_at}
use Rattle.transports.specs.Registries.{request_of, LeadsTo, HasBody, BeginsWith, BlobAt, IsReading}
use Rattle.transports.specs.Tried.{AsksManifest}
use Rattle.transports.specs.Stores.{StoreAt, AreStored}
use Rattle.transports.specs.Within.{Within}

-- the files directly in a folder are as they were
abbrev pub SameIn : List ℕ → Tree → Tree → Type 0
SameIn folder old new = (q : List ℕ) → IsIn folder q → file_at new q ≡ file_at old q

-- the source is as it was; what was said to it is still told
unfoldable pub Spares : Source → LaneTold → LaneTold → Type 0
Spares (Folder path) old new = Told (SameIn path) old.files.tree new.files.tree
Spares (Registry r) old new = IsLater old new

-- ---- manifests and signatures

-- a folder's manifest: the image's, or that of an instance by its digest
abbrev pub manifest_in : List ℕ → Limited → Result Fetched Refusal
manifest_in folder Absent = Err (NotAnImageDir folder)
manifest_in folder TooLong = Err (TooLarge what.Manifest (limit + 1))
manifest_in folder (Whole bytes) = Ok (record { bytes = bytes; content_type = [] })

-- how the reading of a manifest ends: the image's own, or that of an instance by its digest. Why a registry gave none is told
-- of the attempts. (Place for instances at a registry.)
unfoldable pub ManifestEnds : Source → Option (List ℕ) → LaneTold → LaneTold → Result Fetched Refusal → Type 0
ManifestEnds (Folder path) part old new r = IfSome old.files.tree (λ t. r ≡ manifest_in path (limited (file_at t (joined path (manifest_name part)))))
ManifestEnds (Registry reference) None old new (Ok fetched) = Within (λ a b. AsksManifest reference a b (Ok fetched)) old new
ManifestEnds (Registry reference) None old new (Err e) = ⊥
ManifestEnds (Registry reference) (Some digest) old new r = ⊥

-- the refusal that a fault of a folder image is; it answers no fault of another layout
abbrev pub refusal_of : List ℕ → LayoutFault → Refusal
refusal_of folder layout.NotAnImageDir = NotAnImageDir folder
refusal_of folder (layout.TooLarge kind length) = TooLarge kind length
refusal_of folder _ = Memory

abbrev pub by_folder : {A : Type 0} → List ℕ → Result A LayoutFault → Result A Refusal
by_folder folder (Ok x) = Ok x
by_folder folder (Err fault) = Err (refusal_of folder fault)

-- what a store gives, where there is one; without one there are no signatures
abbrev pub StoredEnd : Option StoreAt → LaneTold → LaneTold → Result (List (List ℕ)) Refusal → Type 0
StoredEnd None old new r = (r ≡ Ok []) × IsLater old new
StoredEnd (Some store) old new r = Within (λ a b. AreStored store a b r) old new

-- how the reading of the signatures ends: those that stand in a folder, or those that are stored of an image at a registry
unfoldable pub SignaturesEnd : Source → Option StoreAt → Option (List ℕ) → LaneTold → LaneTold → Result (List (List ℕ)) Refusal → Type 0
SignaturesEnd (Folder path) store part old new r = IfSome old.files.tree (λ t. r ≡ by_folder path (signatures_in (numbered t path (prefix_of part))))
SignaturesEnd (Registry reference) store part old new r = StoredEnd store old new r

-- ---- blobs

-- how the reading of a job's blob ends: its bytes, whole, or the cause
unfoldable pub BlobEnds : Source → Job → LaneTold → LaneTold → Result (List ℕ) Cause → Type 0
BlobEnds (Folder path) job old new r = IfSome old.files.tree (λ t. r ≡ looked_at job (file_at t (blob_path path job.digest)))
BlobEnds (Registry reference) job old new r = Within (λ a b. BlobAt (request_of reference job) job a.from.talks b.from.talks r) old new

-- these are first bytes of a file, which is as it was
pub record IsFrontIn (path given : List ℕ) (old new : Tree) : Type 0 where
  pub bytes : List ℕ
  pub was : file_at old path ≡ Some bytes
  pub is : file_at new path ≡ Some bytes
  pub within : length given ≤ length bytes
  pub front : given ≡ take (length given) bytes

-- and they are all of it
pub record IsAllIn (path given : List ℕ) (old new : Tree) : Type 0 where
  pub was : file_at old path ≡ Some given
  pub is : file_at new path ≡ Some given

-- the source gave these first bytes of the job's blob
unfoldable pub GaveFront : Source → Job → LaneTold → LaneTold → List ℕ → Type 0
GaveFront (Folder path) job old new given = Told (IsFrontIn (blob_path path job.digest) given) old.files.tree new.files.tree
GaveFront (Registry reference) job old new given = Within (λ a b. LeadsTo (request_of reference job) (BeginsWith given) a.from.talks b.from.talks) old new

-- and no others are left
unfoldable pub GaveAll : Source → Job → LaneTold → LaneTold → List ℕ → Type 0
GaveAll (Folder path) job old new given = Told (IsAllIn (blob_path path job.digest) given) old.files.tree new.files.tree
GaveAll (Registry reference) job old new given = Within (λ a b. LeadsTo (request_of reference job) (HasBody given) a.from.talks b.from.talks) old new

-- how many bytes a blob that is being read has given
abbrev pub count_of : Blob → ℕ
count_of (blob.File path count) = count
count_of (blob.Answer a count) = count

-- a blob that is being read is this job's at this source, which gave these first bytes of it
unfoldable pub IsReadAt : Source → Job → Blob → LaneTold → LaneTold → List ℕ → Type 0
IsReadAt (Folder path) job (blob.File at count) old new given = at ≡ blob_path path job.digest
IsReadAt (Folder path) job (blob.Answer a count) old new given = ⊥
IsReadAt (Registry reference) job (blob.File at count) old new given = ⊥
IsReadAt (Registry reference) job (blob.Answer a count) old new given = IsReading reference job a given old new

-- the blob gave these first bytes, and gives the next ones behind them
pub record HasGiven (source : Source) (job : Job) (b : Blob) (old new : LaneTold) (given : List ℕ) : Type 0 where
  pub reads : IsReadAt source job b old new given
  pub count : count_of b ≡ length given
  pub front : GaveFront source job old new given
  pub later : IsLater old new

-- the source holds no connection open
unfoldable pub Rests : Source → LaneTold → Type 0
Rests (Folder path) now = Unit {0}
Rests (Registry reference) now = now.from.is_open ≡ false
