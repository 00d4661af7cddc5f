-- Loops over the members of platforms, over entries that are chosen from, and over entries that are read.
use Rattle.std.proofs.Common.{◌≡◌, ℕ, suc, ◌+◌, ◌<◌, ◌≤◌, cond, Bool, true, false, List, [], ◌∷◌, ◌++◌, length, drop, get_or, Option, Some, None, Result, Ok, String, Global, string_bytes, refl, sym, ap, ◌∙◌, add-one, append_assoc, append-nil}
use Rattle.std.proofs.lemmas.List.{drop_more, drop_all, at_drop_more, at_drop_all}
use Rattle.serde_json.specs.Data.{Data, Members, put}
use Rattle.serde_json.specs.View.{view, items_view, members_view}
use Rattle.serde_json.specs.declared.value.Value.{Value}
use Rattle.json_tree.specs.declared.path.Step.TheVariants.{Place}
use Rattle.json_tree.specs.declared.fault.Fault.{Fault}
use Rattle.json_tree.specs.Checked.{Checked, Gives, under, joined, with_last}
use Rattle.json_tree.proofs.CheckedLemmas.{joined-with_last, joined-nothing, joined-end}
use Rattle.manifest_v2s2.specs.Descriptor.{known_of}
use Rattle.manifest_v2s2.specs.Known.{AreFirstSizes}
use Rattle.manifest_v2s2.specs.declared.sizes.Sizes.{Sizes}
use Rattle.manifest_v2s2.specs.declared.sizes.Known.{Known}
use Rattle.manifest_list.specs.declared.platform.MemberValue.{MemberValue}
use Rattle.manifest_list.specs.declared.platform.PlatformMember.{PlatformMember}
use Rattle.manifest_list.specs.declared.list.ListEntry.{ListEntry}
use Rattle.manifest_list.specs.Platform.{value_kept, with_member, kept}
use Rattle.manifest_list.specs.Written.{value_data, put_members}
use Rattle.manifest_list.specs.Choice.{Asked, fits, instance_from}
use Rattle.manifest_list.specs.Entry.{entry_of, entries_by}

-- ---- members that are put in

pub one_member_more : (all : List PlatformMember) (i : ℕ) (m : PlatformMember) (ms next whole : Members) → put_members (drop i all) ms ≡ whole → i < length all → m ≡ get_or all i m → next ≡ put m.name (value_data m.value) ms → put_members (drop (i + 1) all) next ≡ whole
one_member_more all i m ms next whole h lt e is =
    ap (put_members (drop (i + 1) all)) is ∙ sym (ap (λ qs. put_members qs ms) (drop_more all i m lt ∙ ap (λ q. q ∷ drop (i + 1) all) (sym e))) ∙ h

pub all_members : (all : List PlatformMember) (i : ℕ) (ms whole : Members) → put_members (drop i all) ms ≡ whole → length all ≤ i → ms ≡ whole
all_members all i ms whole h le = sym (ap (λ qs. put_members qs ms) (drop_all i all le)) ∙ h

-- ---- members that are kept

in_front : (name : List ℕ) (o : Option MemberValue) (rest : List PlatformMember) → with_member name o rest ≡ with_member name o [] ++ rest
in_front name (Some value) rest = refl
in_front name None rest = refl

-- those of the entries before rest are kept
abbrev pub IsKeptUpTo : List PlatformMember → List (String Global × Value) → List (String Global × Value) → Type 0
IsKeptUpTo all rest whole = all ++ kept (members_view rest) ≡ kept (members_view whole)

pub kept_none : (rest whole : List (String Global × Value)) (all : List PlatformMember) → all ≡ [] → rest ≡ whole → IsKeptUpTo all rest whole
kept_none rest whole all e same = rw (e, same) refl

pub kept_more : (rest after whole : List (String Global × Value)) (k : String Global) (v : Value) (name : List ℕ) (all next : List PlatformMember) (value : Option MemberValue)
    → IsKeptUpTo all rest whole → rest ≡ (k, v) ∷ after → name ≡ string_bytes k → value ≡ value_kept (view v) → next ≡ all ++ with_member name value [] → IsKeptUpTo next after whole
kept_more rest after whole k v name all next value h e same is pushed =
    ap (λ list. list ++ kept (members_view after)) (pushed ∙ ap (λ o. all ++ with_member name o []) is ∙ ap (λ n. all ++ with_member n (value_kept (view v)) []) same)
    ∙ append_assoc all (with_member (string_bytes k) (value_kept (view v)) []) (kept (members_view after))
    ∙ ap (λ list. all ++ list) (sym (in_front (string_bytes k) (value_kept (view v)) (kept (members_view after))))
    ∙ sym (ap (λ es. all ++ kept (members_view es)) e) ∙ h

pub kept_all : (rest whole : List (String Global × Value)) (all : List PlatformMember) → IsKeptUpTo all rest whole → rest ≡ [] → all ≡ kept (members_view whole)
kept_all rest whole all h none = sym (append-nil all) ∙ sym (ap (λ es. all ++ kept (members_view es)) none) ∙ h

-- ---- the entry that is chosen

-- none of the entries before place i fits
abbrev pub IsLeft : Asked → ℕ → List ListEntry → Type 0
IsLeft asked i es = instance_from asked i (drop i es) ≡ instance_from asked 0 es

left_is : (asked : Asked) (es : List ListEntry) (i : ℕ) (e : ListEntry) → i < length es → e ≡ get_or es i e
    → instance_from asked i (drop i es) ≡ cond (fits asked e) (Some i) (instance_from asked (i + 1) (drop (i + 1) es))
left_is asked es i e lt is =
    at_drop_more (λ ws. instance_from asked i ws) es i e lt
    ∙ ap (λ v. instance_from asked i (v ∷ drop (i + 1) es)) (sym is)
    ∙ ap (λ n. cond (fits asked e) (Some i) (instance_from asked n (drop (i + 1) es))) (sym (add-one i))

pub left_more : (asked : Asked) (es : List ListEntry) (i : ℕ) (e : ListEntry) → IsLeft asked i es → i < length es → e ≡ get_or es i e → fits asked e ≡ false → IsLeft asked (i + 1) es
left_more asked es i e h lt is not = sym (left_is asked es i e lt is ∙ ap (λ b. cond b (Some i) (instance_from asked (i + 1) (drop (i + 1) es))) not) ∙ h

pub left_found : (asked : Asked) (es : List ListEntry) (i : ℕ) (e : ListEntry) → IsLeft asked i es → i < length es → e ≡ get_or es i e → fits asked e ≡ true → Some i ≡ instance_from asked 0 es
left_found asked es i e h lt is fit = sym (left_is asked es i e lt is ∙ ap (λ b. cond b (Some i) (instance_from asked (i + 1) (drop (i + 1) es))) fit) ∙ h

pub left_none : (asked : Asked) (es : List ListEntry) (i : ℕ) → IsLeft asked i es → length es ≤ i → None ≡ instance_from asked 0 es
left_none asked es i h le = sym (at_drop_all (λ ws. instance_from asked i ws) es i le) ∙ h

-- ---- entries that are read

-- the entries before place i are read, and the sizes are those of the descriptors before them
pub record IsReadSoFar (all : Result (List ListEntry) Fault) (sizes : Sizes) (first : List Known) (i : ℕ) (vs : List Value) : Type 0 where
  pub known : List Known
  pub sizes_are : AreFirstSizes sizes known
  pub front : Checked (List ListEntry)
  pub gives : Gives all front
  pub whole : joined front (entries_by known i (items_view (drop i vs))) ≡ entries_by first 0 (items_view vs)

pub read_nothing : (sizes : Sizes) (first : List Known) (vs : List Value) (all : List ListEntry) → AreFirstSizes sizes first → all ≡ [] → IsReadSoFar (Ok all) sizes first 0 vs
read_nothing sizes first vs all are e = record {
  known = first;
  sizes_are = are;
  front = Ok all;
  gives = refl;
  whole = rw e (joined-nothing (entries_by first 0 (items_view vs)));
}

pub read_one : (sizes next_sizes : Sizes) (first : List Known) (vs : List Value) (i : ℕ) (v : Value) (all next : Result (List ListEntry) Fault)
    → IsReadSoFar all sizes first i vs → i < length vs → v ≡ get_or vs i v
    → ((known : List Known) → AreFirstSizes sizes known → AreFirstSizes next_sizes (known ++ known_of (Some (view v))))
    → ((known : List Known) (x : Checked (List ListEntry)) → AreFirstSizes sizes known → Gives all x → Gives next (with_last x (under (Place i) (entry_of known (Some (view v))))))
    → IsReadSoFar next next_sizes first (i + 1) vs
read_one sizes next_sizes first vs i v all next h lt e learned gives =
    let known = h.known in
    let more = known ++ known_of (Some (view v)) in
    let one = under (Place i) (entry_of known (Some (view v))) in record {
      known = more;
      sizes_are = learned known h.sizes_are;
      front = with_last h.front one;
      gives = gives known h.front h.sizes_are h.gives;
      whole =
          joined-with_last h.front one (entries_by more (i + 1) (items_view (drop (i + 1) vs)))
          ∙ ap (joined h.front) (sym (at_drop_more (λ ws. entries_by known i (items_view ws)) vs i v lt ∙ rw (← e, add-one) refl))
          ∙ h.whole;
    }

pub read_all : (sizes : Sizes) (first : List Known) (vs : List Value) (i : ℕ) (all : Result (List ListEntry) Fault)
    → IsReadSoFar all sizes first i vs → length vs ≤ i → Gives all (entries_by first 0 (items_view vs))
read_all sizes first vs i all h le =
    let e = sym (joined-end h.front) ∙ ap (joined h.front) (sym (at_drop_all (λ ws. entries_by h.known i (items_view ws)) vs i le)) ∙ h.whole in
    rw (← e) h.gives
