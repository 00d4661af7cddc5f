-- The conversion of a list as the code makes it: the value, or the fault of the first entry that has none.
use Rattle.std.specs.Prelude.{ℕ, List, [], ◌∷◌, Bool, true, false, if◌then◌else◌, Option, Some, None, Ok, Err}
use Rattle.std.specs.Option.{is_none}
use Rattle.serde_json.specs.Written.{compact_text}
use Rattle.manifest_v2s2.specs.declared.kind.Kind.{Kind}
use Rattle.manifest_v2s2.specs.declared.kind.Kind.TheVariants.{V2s2, V2s2List, Oci, OciIndex}
use Rattle.manifest_change.specs.Changed.{Converted, each, ◌>>=◌}
use Rattle.manifest_change.specs.Found.{manifest_type}
use Rattle.manifest_change.specs.declared.fault.ConvertFault.TheVariants.{NotAnImage, NoPlatform}
use Rattle.manifest_list.specs.Written.{list_data}
use Rattle.manifest_list.specs.declared.list.ListEntry.{ListEntry}
use Rattle.manifest_list.specs.declared.list.List as listed
use Rattle.list_change.specs.declared.entry.Written.{Written}

-- the two lists item by item, as far as both go
abbrev pub paired : {A B : Type 0} → List A → List B → List (A × B)
paired [] ys = []
paired (x ∷ xs) [] = []
paired (x ∷ xs) (y ∷ ys) = (x, y) ∷ paired xs ys

-- the entry of a media type, for its instance as it is written, and without annotations
abbrev pub entry_with : List ℕ → ListEntry → Written → ListEntry
entry_with media e w = record {
  target = record { media = media; digest = w.digest; size = w.size; urls = e.target.urls; annotations = [] };
  platform = e.platform;
}

-- a list of schema 2 asks for a platform, and the entry has none
abbrev pub lacks_platform : Kind → ListEntry → Bool
lacks_platform V2s2 e = false
lacks_platform V2s2List e = is_none e.platform
lacks_platform Oci e = false
lacks_platform OciIndex e = false

-- the entry with the type that was found, or its fault
abbrev pub entry_by : Option (List ℕ) → Bool → ℕ → ListEntry → Written → Converted ListEntry
entry_by None lacks n e w = Err (NotAnImage n)
entry_by (Some media) lacks n e w = if lacks then Err (NoPlatform n) else Ok (entry_with media e w)

-- the entry of a number, with its instance as it is written
abbrev pub entry_changed : Kind → ℕ → ListEntry × Written → Converted ListEntry
entry_changed to n p = entry_by (manifest_type to p.0.target.media) (lacks_platform to p.0) n p.0 p.1

-- a list, as one of that kind
unfoldable pub list_changed : Kind → listed.List → List Written → Converted listed.List
list_changed to l written = each (entry_changed to) 1 (paired l.entries written) >>= (λ es. Ok (record { kind = to; entries = es }))

-- the text of a list, as one of that kind
unfoldable pub list_converted : Kind → listed.List → List Written → Converted (List ℕ)
list_converted to l written = list_changed to l written >>= (λ new. Ok (compact_text (list_data new)))
