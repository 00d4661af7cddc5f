-- A descriptor as it is read from a tree: the value, or its first bad member (docs/manifests.md, "Descriptors").
use Rattle.std.specs.Prelude.{ℕ, codes, List, [], ◌∷◌, if◌then◌else◌, Option, Some, None, Ok, Err}
use Rattle.serde_json.specs.Data.{Data, string, object}
use Rattle.serde_json.specs.Find.{get}
use Rattle.skopeo_outside.specs.declared.pair.Pair.{Pair}
use Rattle.image_ref.specs.Digest.{digest_of}
use Rattle.json_tree.specs.declared.path.Step.TheVariants.{Name}
use Rattle.json_tree.specs.Checked.{Checked, under, both, checked_map}
use Rattle.json_tree.specs.Leaf.{bad, text_of, whole_of, optional_list, optional_object}
use Rattle.manifest_v2s2.specs.Known.{first_size, agrees}
use Rattle.manifest_v2s2.specs.declared.descriptor.Descriptor.{Descriptor}
use Rattle.manifest_v2s2.specs.declared.sizes.Known.{Known}

-- a value where there is one, else the member is at fault
abbrev pub checked_some : {A : Type 0} → Option A → Checked A
checked_some (Some x) = Ok x
checked_some None = bad

-- a digest text
abbrev pub digest_checked : Option Data → Checked (List ℕ)
digest_checked (Some (string s)) = checked_some (digest_of s)
digest_checked _ = bad

-- an annotation is a name with a text
abbrev pub annotation_of : List ℕ → Option Data → Checked Pair
annotation_of name value = checked_map (λ t. record { name = name; value = t }) (text_of value)

-- the size, where its digest is read and the first size of that digest is another, is at fault
abbrev pub agreeing : List Known → Checked (List ℕ) → Checked ℕ → Checked ℕ
agreeing known (Ok digest) (Ok size) = if agrees (first_size known digest) size then Ok size else bad
agreeing known (Ok digest) (Err p) = Err p
agreeing known (Err q) size = size

-- the size of a descriptor behind those that are known
abbrev pub size_agreeing : List Known → Checked (List ℕ) → Option Data → Checked ℕ
size_agreeing known digest size = agreeing known digest (whole_of size)

-- a digest and a size that are both read
abbrev pub known_by : Checked (List ℕ) → Checked ℕ → List Known
known_by (Ok digest) (Ok size) = record { digest = digest; size = size } ∷ []
known_by (Ok digest) (Err p) = []
known_by (Err q) size = []

-- the digest and the size of a descriptor that has both
abbrev pub known_of : Option Data → List Known
known_of None = []
known_of (Some d) = known_by (digest_checked (get (codes "digest") d)) (whole_of (get (codes "size") d))

-- the member of that name by a reading
abbrev pub at : {A : Type 0} → List ℕ → (Option Data → Checked A) → Data → Checked A
at name read d = under (Name name) (read (get name d))

-- annotations, digest, media type, size and urls
abbrev pub Members : Type 0
Members = List Pair × (List ℕ × (List ℕ × (ℕ × List (List ℕ))))

-- the descriptor of these members
abbrev pub made : Members → Descriptor
made p = record { annotations = p.0; digest = p.1.0; media = p.1.1.0; size = p.1.1.1.0; urls = p.1.1.1.1 }

-- the members of a descriptor behind those that are known, in byte order of their names
abbrev pub members_of : List Known → Data → Checked Descriptor
members_of known d =
    checked_map made
    (both (at (codes "annotations") (optional_object annotation_of) d)
    (both (at (codes "digest") digest_checked d)
    (both (at (codes "mediaType") text_of d)
    (both (at (codes "size") (size_agreeing known (digest_checked (get (codes "digest") d))) d)
    (at (codes "urls") (optional_list text_of) d)))))

-- the descriptor that a member is, behind those that are known
abbrev pub descriptor_of : List Known → Option Data → Checked Descriptor
descriptor_of known (Some (object ms)) = members_of known (object ms)
descriptor_of known _ = bad
