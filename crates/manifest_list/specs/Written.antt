-- The tree that is written for a list (docs/manifests.md, "Writing").
use Rattle.std.specs.Prelude.{ℕ, codes, List, [], ◌∷◌, map, Option, Some, None}
use Rattle.serde_json.specs.Data.{Data, number, string, array, object, unsigned, Members, no_members, put}
use Rattle.serde_json.specs.View.{items_of}
use Rattle.manifest_v2s2.specs.Media.{media_of}
use Rattle.manifest_v2s2.specs.Written.{texts_data, descriptor_data}
use Rattle.manifest_list.specs.declared.platform.MemberValue.{MemberValue}
use Rattle.manifest_list.specs.declared.platform.MemberValue.TheVariants.{One, Several}
use Rattle.manifest_list.specs.declared.platform.PlatformMember.{PlatformMember}
use Rattle.manifest_list.specs.declared.platform.Platform.{Platform}
use Rattle.manifest_list.specs.declared.list.ListEntry.{ListEntry}
use Rattle.manifest_list.specs.declared.list.List as listed
use Rattle.manifest_list.specs.Platform.{members_of}

-- a text, or a list of texts
abbrev pub value_data : MemberValue → Data
value_data (One text) = string text
value_data (Several texts) = texts_data texts

-- the members, with these put in
abbrev pub put_members : List PlatformMember → Members → Members
put_members [] ms = ms
put_members (m ∷ more) ms = put_members more (put m.name (value_data m.value) ms)

-- a platform's object: the members that are kept of it
abbrev pub platform_data : Platform → Data
platform_data p = object (put_members (members_of p) no_members)

-- `platform` stands only where there is one
abbrev pub with_platform : Option Platform → Data → Data
with_platform (Some p) (object ms) = object (put (codes "platform") (platform_data p) ms)
with_platform _ d = d

-- an entry's object: its descriptor's, with its platform
abbrev pub entry_data : ListEntry → Data
entry_data e = with_platform e.platform (descriptor_data e.target)

-- a list's object, with the media type of its kind
unfoldable pub list_data : listed.List → Data
list_data l =
    object (put (codes "schemaVersion") (number (unsigned 2)) (put (codes "mediaType") (string (media_of l.kind))
    (put (codes "manifests") (array (items_of (map entry_data l.entries))) no_members)))
