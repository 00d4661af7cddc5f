-- What is written of a list has no float and nests little, so it is read again as the same tree.
use Rattle.std.proofs.Common.{◌≡◌, ℕ, suc, ◌≤◌, codes, List, [], ◌∷◌, map, Option, Some, None, refl, arith}
use Rattle.serde_json.specs.Data.{Data, null, boolean, number, string, array, object, unsigned, Members, no_members, put, depth}
use Rattle.serde_json.specs.View.{items_of}
use Rattle.manifest_v2s2.specs.Media.{media_of}
use Rattle.manifest_v2s2.specs.Written.{descriptor_data}
use Rattle.manifest_v2s2.proofs.WrittenLemmas.{IsPlain, MembersArePlain, no_plain, plain_put, plain_object, plain_text, plain_number, plain_items, plain_array, plain_descriptor, deeper}
use Rattle.manifest_list.specs.declared.platform.MemberValue.{MemberValue}
use Rattle.manifest_list.specs.declared.platform.MemberValue.TheVariants.{One, Several}
use Rattle.manifest_list.specs.declared.platform.PlatformMember.{PlatformMember}
use Rattle.manifest_list.specs.declared.platform.Platform.{Platform}
use Rattle.manifest_list.specs.declared.list.ListEntry.{ListEntry}
use Rattle.manifest_list.specs.declared.list.List as listed
use Rattle.manifest_list.specs.Platform.{members_of}
use Rattle.manifest_list.specs.Written.{value_data, put_members, platform_data, with_platform, entry_data, list_data}

plain_value : (v : MemberValue) → IsPlain 1 (value_data v)
plain_value (One text) = plain_text 1 text
plain_value (Several texts) = plain_array 0 _ (plain_items 0 string (λ s. plain_text 0 s) texts)

plain_members : (all : List PlatformMember) (ms : Members) → MembersArePlain 1 ms → MembersArePlain 1 (put_members all ms)
plain_members [] ms h = h
plain_members (m ∷ more) ms h = plain_members more (put m.name (value_data m.value) ms) (plain_put 1 m.name (value_data m.value) ms (plain_value m.value) h)

plain_platform : (p : Platform) → IsPlain 2 (platform_data p)
plain_platform p = plain_object 1 _ (plain_members (members_of p) no_members (no_plain 1))

object-members : (ms : Members) → IsPlain 2 (object ms) → MembersArePlain 2 ms
object-members ms h = record { whole = h.whole; shallow = omega (arith, h.shallow) }

plain_with : (o : Option Platform) (d : Data) → IsPlain 2 d → IsPlain 3 (with_platform o d)
plain_with None d h = deeper 2 d h
plain_with (Some p) null h = deeper 2 null h
plain_with (Some p) (boolean b) h = deeper 2 (boolean b) h
plain_with (Some p) (number n) h = deeper 2 (number n) h
plain_with (Some p) (string s) h = deeper 2 (string s) h
plain_with (Some p) (array ds) h = deeper 2 (array ds) h
plain_with (Some p) (object ms) h = plain_object 2 _ (plain_put 2 (codes "platform") (platform_data p) ms (plain_platform p) (object-members ms h))

plain_entry : (e : ListEntry) → IsPlain 3 (entry_data e)
plain_entry e = plain_with e.platform (descriptor_data e.target) (plain_descriptor e.target)

pub plain_list : (l : listed.List) → IsPlain 5 (list_data l)
unfolding list_data
plain_list l =
    plain_object 4 _ (plain_put 4 (codes "schemaVersion") (number (unsigned 2)) _ (plain_number 4 2) (plain_put 4 (codes "mediaType") (string (media_of l.kind)) _ (plain_text 4 (media_of l.kind))
    (plain_put 4 (codes "manifests") _ no_members (plain_array 3 _ (plain_items 3 entry_data plain_entry l.entries)) (no_plain 4))))

pub shallow_list : (d : Data) → IsPlain 5 d → depth d ≤ 127
shallow_list d h = omega (arith, h.shallow)
