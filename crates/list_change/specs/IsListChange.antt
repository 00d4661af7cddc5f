-- The conversion of a list, as a relation by the rows of the table (docs/manifests.md, "Conversion").
use Rattle.std.specs.Prelude.{◌≡◌, ◌⊎◌, ℕ, ◌+◌, List, [], ◌∷◌, ◌++◌, All, length, Option, Some, None, Result, Ok, Err}
use Rattle.serde_json.specs.Written.{compact_text}
use Rattle.manifest_v2s2.specs.declared.kind.Kind.{Kind}
use Rattle.manifest_v2s2.specs.declared.kind.Kind.TheVariants.{V2s2List}
use Rattle.manifest_change.specs.IsChange.{AreEach}
use Rattle.manifest_change.specs.Rows.{IsManifestRow, Becomes, BecomesNone, BecomesSome}
use Rattle.manifest_change.specs.declared.fault.ConvertFault.{ConvertFault}
use Rattle.manifest_change.specs.declared.fault.ConvertFault.TheVariants.{Layer, Config, NotAnImage, NoPlatform, Memory}
use Rattle.manifest_list.specs.Written.{list_data}
use Rattle.manifest_list.specs.declared.list.ListEntry.{ListEntry}
use Rattle.manifest_list.specs.declared.list.List as listed
use Rattle.list_change.specs.Changed.{paired}
use Rattle.list_change.specs.declared.entry.Written.{Written}

-- on the way to a list of schema 2 the entry has no platform
abbrev pub Lacks : Kind → ListEntry → Type 0
Lacks to e = (to ≡ V2s2List) × (e.platform ≡ None)

-- the entry, whose instance is written so, becomes the other: its type goes by the row of images, digest and size are those
-- that were written, URLs and platform stay, and it has no annotations
pub record IsEntryChanged (to : Kind) (p : ListEntry × Written) (new : ListEntry) : Type 0 where
  pub media : Becomes IsManifestRow to p.0.target.media new.target.media
  pub digest : new.target.digest ≡ p.1.digest
  pub size : new.target.size ≡ p.1.size
  pub urls : new.target.urls ≡ p.0.target.urls
  pub annotations : new.target.annotations ≡ []
  pub platform : new.platform ≡ p.0.platform
  pub has_one : Lacks to p.0 → ⊥

-- the new list is of that kind, and has the entries of the old one in their order, each as its instance is written
pub record IsListChange (to : Kind) (old : listed.List) (written : List Written) (new : listed.List) : Type 0 where
  pub kind : new.kind ≡ to
  pub entries : AreEach (IsEntryChanged to) (paired old.entries written) new.entries

-- the bytes are the text of a list that the old one becomes
pub record IsTextOf (to : Kind) (old : listed.List) (written : List Written) (bytes : List ℕ) : Type 0 where
  pub new : listed.List
  pub change : IsListChange to old written new
  pub text : bytes ≡ compact_text (list_data new)

-- it is an image's, and does not lack a platform
abbrev pub IsFit : Kind → ListEntry × Written → Type 0
IsFit to p = BecomesSome IsManifestRow to p.0.target.media × (Lacks to p.0 → ⊥)

-- the entry of that number is the first that is unfit, and this is why
pub record IsFirstUnfit (to : Kind) (es : List (ListEntry × Written)) (place : ℕ) (Why : ListEntry → Type 0) : Type 0 where
  pub before : List (ListEntry × Written)
  pub entry : ListEntry × Written
  pub after : List (ListEntry × Written)
  pub stands : es ≡ before ++ entry ∷ after
  pub counted : place ≡ length before + 1
  pub others : All (IsFit to) before
  pub why : Why entry.0

-- no image's entry, or one of an image that lacks a platform
abbrev pub IsFirst : Kind → List (ListEntry × Written) → ConvertFault → Type 0
IsFirst to es (NotAnImage place) = IsFirstUnfit to es place (λ e. BecomesNone IsManifestRow to e.target.media)
IsFirst to es (NoPlatform place) = IsFirstUnfit to es place (λ e. BecomesSome IsManifestRow to e.target.media × Lacks to e)
IsFirst to es (Layer place media) = ⊥
IsFirst to es (Config media) = ⊥
IsFirst to es Memory = Unit {0}

-- the answer is the text of a list that the old one becomes, or its first entry that is unfit, unless memory ran out
abbrev pub ByRows : Kind → listed.List → List Written → Result (List ℕ) ConvertFault → Type 0
ByRows to old written (Ok bytes) = IsTextOf to old written bytes
ByRows to old written (Err fault) = IsFirst to (paired old.entries written) fault
