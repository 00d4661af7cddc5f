-- What a platform shows, and how it is read of a tree (docs/manifests.md, "Lists").
use Rattle.std.specs.Prelude.{◌≡◌, ℕ, codes, List, [], ◌∷◌, Option, Some, None, Ok, Err}
use Rattle.serde_json.specs.Data.{Data, string, array, object, Members, no_members, member}
use Rattle.serde_json.specs.Find.{get}
use Rattle.json_tree.specs.Checked.{Checked, both, checked_map}
use Rattle.json_tree.specs.Leaf.{bad, text_of, items_by}
use Rattle.manifest_v2s2.specs.Descriptor.{at}
use Rattle.manifest_list.specs.declared.platform.MemberValue.{MemberValue}
use Rattle.manifest_list.specs.declared.platform.MemberValue.TheVariants.{One, Several}
use Rattle.manifest_list.specs.declared.platform.PlatformMember.{PlatformMember}
use Rattle.manifest_list.specs.declared.platform.Platform.{Platform}

-- the text of its member `os`
abbrev pub os_of : Platform → List ℕ
os_of platform = platform.os

-- the text of its member `architecture`
abbrev pub arch_of : Platform → List ℕ
arch_of platform = platform.arch

-- the text of its member `variant`, where that is one
abbrev pub variant_of : Platform → Option (List ℕ)
variant_of platform = platform.variant

-- its members that are texts or lists of texts
abbrev pub members_of : Platform → List PlatformMember
members_of platform = platform.members

-- the text that stands there, where one does
abbrev pub text_there : Option Data → Option (List ℕ)
text_there (Some (string s)) = Some s
text_there _ = None

-- the texts of a list of nothing but texts
abbrev pub several : Checked (List (List ℕ)) → Option MemberValue
several (Ok ts) = Some (Several ts)
several (Err p) = None

-- a text, or a list of texts
abbrev pub value_kept : Data → Option MemberValue
value_kept (string s) = Some (One s)
value_kept (array ds) = several (items_by text_of 0 ds)
value_kept _ = None

-- in front of the others, where it is kept
abbrev pub with_member : List ℕ → Option MemberValue → List PlatformMember → List PlatformMember
with_member name (Some value) rest = record { name = name; value = value } ∷ rest
with_member name None rest = rest

-- the members that are texts or lists of texts
abbrev pub kept : Members → List PlatformMember
kept no_members = []
kept (member name d ms) = with_member name (value_kept d) (kept ms)

-- the platform of an object with this architecture and this operating system
abbrev pub platform_with : Members → List ℕ × List ℕ → Platform
platform_with ms p = record { arch = p.0; os = p.1; variant = text_there (get (codes "variant") (object ms)); members = kept ms }

-- the platform that an object is
abbrev pub platform_in : Members → Checked Platform
platform_in ms = checked_map (platform_with ms) (both (at (codes "architecture") text_of (object ms)) (at (codes "os") text_of (object ms)))

-- a platform, which may be absent
abbrev pub platform_of : Option Data → Checked (Option Platform)
platform_of None = Ok None
platform_of (Some (object ms)) = checked_map (λ p. Some p) (platform_in ms)
platform_of _ = bad
