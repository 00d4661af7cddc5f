-- The index that is written for one more manifest (docs/layouts.md, "OCI layouts").
use Rattle.std.specs.Prelude.{◌≡◌, ◌≤◌, ℕ, codes, List, [], ◌∷◌, ◌++◌, filter, Bool, false, not, ◌&&◌, Option, Some, None}
use Rattle.std.specs.Option.{is_some, option_and_then}
use Rattle.std.specs.Str.{bytes_eq}
use Rattle.serde_json.specs.Data.{Data, number, string, array, object, unsigned, Items, no_items, item, Members, no_members, put, depth}
use Rattle.serde_json.specs.Read.{max_depth}
use Rattle.serde_json.specs.Written.{has_float}
use Rattle.serde_json.specs.Find.{get}
use Rattle.serde_json.specs.View.{items_of}
use Rattle.image_ref.specs.Digest.{digest_text}
use Rattle.oci_index.specs.Chosen.{ref_key}
use Rattle.oci_index.specs.declared.edit.NewEntry.{NewEntry}

-- a list's items
abbrev pub list_of : Items → List Data
list_of no_items = []
list_of (item d ds) = d ∷ list_of ds

-- the items of a list, and none of what is no list
abbrev pub items_at : Option Data → List Data
items_at (Some (array ds)) = list_of ds
items_at _ = []

-- what is that text
abbrev pub is_string : List ℕ → Option Data → Bool
is_string text (Some (string s)) = bytes_eq s text
is_string text _ = false

-- the ref name of an entry
abbrev pub ref_in : Data → Option Data
ref_in d = option_and_then (get ref_key) (get (codes "annotations") d)

-- an entry that the new one replaces: one of its name, or, where it has none, one of its digest's text without a name
abbrev pub is_replaced : Option (List ℕ) → List ℕ → Data → Bool
is_replaced (Some name) digest d = is_string name (ref_in d)
is_replaced None digest d = is_string digest (get (codes "digest") d) && not (is_some (ref_in d))

-- one that stays
abbrev pub stays : Option (List ℕ) → List ℕ → Data → Bool
stays name digest d = not (is_replaced name digest d)

-- the ref name as annotations, where there is one
abbrev pub put_name : Option (List ℕ) → Members → Members
put_name None ms = ms
put_name (Some name) ms = put (codes "annotations") (object (put ref_key (string name) no_members)) ms

-- the entry's object
unfoldable pub entry_data : NewEntry → Data
entry_data e =
    object (put (codes "size") (number (unsigned e.size)) (put (codes "mediaType") (string e.media)
    (put (codes "digest") (string (digest_text e.digest)) (put_name e.name no_members))))

-- the members of an index without entries
abbrev pub no_index : Members
no_index = put (codes "schemaVersion") (number (unsigned 2)) no_members

-- the members of an index that is there, or of one that is begun
abbrev pub members_in : Option Data → Members
members_in (Some (object ms)) = ms
members_in _ = no_index

-- the entries of an index that is there
abbrev pub manifests_in : Option Data → Option Data
manifests_in old = option_and_then (get (codes "manifests")) old

-- the entries that stay, in order, and then the new one
abbrev pub entries_after : Option Data → NewEntry → List Data
entries_after manifests e = filter (stays e.name (digest_text e.digest)) (items_at manifests) ++ entry_data e ∷ []

-- the index with one more entry; its other members are as they were
unfoldable pub edited : Option Data → NewEntry → Data
edited old e = object (put (codes "manifests") (array (items_of (entries_after (manifests_in old) e))) (members_in old))

-- a tree that is written again as it is: each number is whole, and nothing is nested too deep to be read again
pub record IsWritable (d : Data) : Type 0 where
  pub whole : has_float d ≡ false
  pub shallow : depth d ≤ max_depth

-- so it is, where there is one
abbrev pub IsWritableThere : Option Data → Type 0
IsWritableThere None = Unit {0}
IsWritableThere (Some d) = IsWritable d
