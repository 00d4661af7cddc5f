-- What becomes of an OCI layout before its first blob. Nothing is removed: what is there stays, and `oci-layout` is written
-- where it is absent.
use Rattle.std.specs.Prelude.{◌≡◌, ◌≢◌, ◌⊎◌, ◌+◌, ℕ, List, [], codes, Bool, true, false, if◌then◌else◌, Option, Some, None, unwrap_or, Contains, Result, Ok, Err, ⊤}
use Rattle.std.specs.Option.{option_and_then}
use Rattle.serde_json.specs.Data.{Data}
use Rattle.skopeo_outside.specs.Tree.{Tree, file_at}
use Rattle.skopeo_outside.specs.declared.words.What.TheVariants as what
use Rattle.json_tree.specs.declared.tree.Parsed.{Parsed}
use Rattle.json_tree.specs.Parsed.{tree_of}
use Rattle.json_tree.specs.Tree.{tree}
use Rattle.layouts.specs.declared.fault.LayoutFault.{LayoutFault}
use Rattle.layouts.specs.declared.fault.LayoutFault.TheVariants.{LayoutInvalid, TooLarge}
use Rattle.layouts.specs.declared.fault.LayoutFault.TheVariants as fault
use Rattle.layouts.specs.declared.read.Limited.{Limited}
use Rattle.layouts.specs.declared.read.Limited.TheVariants.{Absent, TooLong, Whole}
use Rattle.layouts.specs.Bounds.{limit, limited}
use Rattle.layouts.specs.Trees.{SameOrGone, MakesOnly}
use Rattle.oci_index.specs.Reading.{index_of}
use Rattle.oci_index.specs.Edited.{IsWritableThere}
use Rattle.oci_index.specs.Version.{layout_text, says_version}
use Rattle.oci_layout.specs.Layout.{layout_path, layout_part, index_path, blobs_folder}
use Rattle.oci_layout.specs.Source.{followed, told}

-- bytes of a file `oci-layout` have the version
abbrev pub layout_judged_bytes : List ℕ → Result Bool LayoutFault
layout_judged_bytes bytes =
    if says_version (tree bytes) then Ok false else Err (LayoutInvalid (codes "/imageLayoutVersion"))

-- a file `oci-layout` may be absent, and else has the version; whether it is absent
abbrev pub layout_judged : Limited → Result Bool LayoutFault
layout_judged Absent = Ok true
layout_judged TooLong = Err (TooLarge what.Index (limit + 1))
layout_judged (Whole bytes) = layout_judged_bytes bytes

-- the tree that was parsed, where there was one
abbrev pub kept_tree : Option Parsed → Option Data
kept_tree parsed = option_and_then tree_of parsed

-- the tree of the bytes of an index, or why they are none
abbrev pub kept_bytes : List ℕ → Result (Option Data) LayoutFault
kept_bytes bytes = followed (told (index_of (tree bytes))) (λ entries. Ok (tree bytes))

-- the tree of an index file, which may be absent, or why it is none
abbrev pub kept_index : Limited → Result (Option Data) LayoutFault
kept_index Absent = Ok None
kept_index TooLong = Err (TooLarge what.Index (limit + 1))
kept_index (Whole bytes) = kept_bytes bytes

-- a call kept that tree, which is written again as it is
abbrev pub Keeps : Result (Option Data) LayoutFault → Result (Option Parsed) LayoutFault → Type 0
Keeps wanted (Ok parsed) = (wanted ≡ Ok (kept_tree parsed)) × IsWritableThere (kept_tree parsed)
Keeps wanted (Err e) = (e ≡ fault.Memory) ⊎ (wanted ≡ Err e)

-- whether the folder may become a destination: first its `oci-layout` is looked at, which may be absent, then its index
abbrev pub destination_judged : Tree → List ℕ → Result Bool LayoutFault
destination_judged t folder =
    followed (layout_judged (limited (file_at t (layout_path folder))))
    (λ absent. followed (kept_index (limited (file_at t (index_path folder)))) (λ index. Ok absent))

-- whether it may, as an answer
abbrev pub JudgesDestination : Tree → List ℕ → Result ⊤ LayoutFault → Type 0
JudgesDestination t folder answer = answer ≡ followed (destination_judged t folder) (λ absent. Ok tt)

-- the folder may become a destination
abbrev pub MayReplace : Tree → List ℕ → Type 0
MayReplace t folder = JudgesDestination t folder (Ok tt)

-- the folder of blobs stands, and all else is as it was, but for an `oci-layout` that was absent, which is written
pub record IsMade (folder : List ℕ) (absent : Bool) (old new : Tree) : Type 0 where
  pub made : Contains new.folders (blobs_folder folder)
  pub folders : MakesOnly (blobs_folder folder) old new
  pub written : absent ≡ true → file_at new (layout_path folder) ≡ Some layout_text
  pub gone : absent ≡ true → file_at new (layout_part folder) ≡ None
  pub kept : absent ≡ false → (q : List ℕ) → file_at new q ≡ file_at old q
  pub others : (q : List ℕ) → q ≢ layout_path folder → q ≢ layout_part folder → file_at new q ≡ file_at old q

-- the folder of blobs stands, the layout has its version, and all else is as it was
pub record IsReady (folder : List ℕ) (old new : Tree) : Type 0 where
  pub made : Contains new.folders (blobs_folder folder)
  pub layout : file_at new (layout_path folder) ≡ Some (unwrap_or (file_at old (layout_path folder)) layout_text)
  pub part : SameOrGone old new (layout_part folder)
  pub others : (q : List ℕ) → q ≢ layout_path folder → q ≢ layout_part folder → file_at new q ≡ file_at old q
  pub folders : MakesOnly (blobs_folder folder) old new

-- a layout that was given up on: of its `oci-layout` there is at most the part, and all other files are as they were
pub record IsHalfReady (folder : List ℕ) (old new : Tree) : Type 0 where
  pub files : (q : List ℕ) → q ≢ layout_part folder → file_at new q ≡ file_at old q
  pub folders : MakesOnly (blobs_folder folder) old new
