-- An index is read exactly where the words of the format say it.
use Rattle.std.proofs.Common.{◌≡◌, ℕ, suc, codes, false, List, [], ◌∷◌, ◌++◌, Option, Some, None, Result, Ok, Err, refl, sym, ap, ◌∙◌}
use Rattle.std.specs.Prelude.{⊤}
use Rattle.serde_json.specs.Data.{Data, null, boolean, number, string, array, object, Items, no_items, item, Members}
use Rattle.serde_json.specs.Find.{get}
use Rattle.json_tree.specs.declared.path.Step.{Step}
use Rattle.json_tree.specs.declared.path.Step.TheVariants.{Name, Place}
use Rattle.json_tree.specs.First.{Path}
use Rattle.json_tree.specs.Tree.{pointer}
use Rattle.json_tree.specs.Checked.{Checked, under, both, checked_map, with_first}
use Rattle.json_tree.specs.Leaf.{text_of, optional_list, optional_object}
use Rattle.manifest_v2s2.specs.Calls.{Reads, TellsOnly}
use Rattle.manifest_v2s2.specs.Descriptor as descriptor
use Rattle.manifest_v2s2.specs.Descriptor.{at, annotation_of, digest_checked, size_agreeing, descriptor_of, known_of}
use Rattle.manifest_v2s2.specs.Image.{layers_by}
use Rattle.manifest_v2s2.specs.IsImage.{AreLayers, AreDescriptors, AllAgree}
use Rattle.manifest_v2s2.specs.declared.descriptor.Descriptor.{Descriptor}
use Rattle.manifest_v2s2.specs.declared.sizes.Known.{Known}
use Rattle.manifest_v2s2.specs.declared.kind.Kind.{Kind}
use Rattle.manifest_v2s2.specs.declared.kind.Kind.TheVariants.{V2s2, V2s2List, Oci, OciIndex}
use Rattle.manifest_v2s2.specs.declared.fault.ManifestFault.{ManifestFault}
use Rattle.manifest_v2s2.specs.declared.fault.ManifestFault.TheVariants.{Member, Memory}
use Rattle.manifest_v2s2.proofs.SizeLemmas.{settled-none}
use Rattle.manifest_v2s2.proofs.Relation.{under_ok, map_ok}
use Rattle.manifest_v2s2.proofs.IsDescriptorLemmas.{NoneDiffers, layers-said, layers-read, behind-all, all-behind}
use Rattle.manifest_convert.specs.Kinds.{kind_of}
use Rattle.manifest_convert.specs.HasKind.{HasKind}
use Rattle.manifest_convert.proofs.KindLemmas.{tells-kind}
use Rattle.oci_index.specs.Entries.{both_checked, platform_members, platform_checked, made, entry_of, entries_by, entries_of}
use Rattle.oci_index.specs.Numbers.{whole_in, whole_there}
use Rattle.oci_index.specs.Reading.{entries_there, where_index, where_whole, index_of}
use Rattle.oci_index.specs.Index.{IsTextThere, IsPlatform, HavePlatforms, HavePlatformsThere, IsIndex, SaysIndex}
use Rattle.oci_index.proofs.NumberLemmas.{whole-no_float, no_float-whole}

-- what is read of two members, the first behind a step
both-ok : {A B : Type 0} (s : Step) (x : Checked A) (y : Checked B) (p : A × B) → both (under s x) y ≡ Ok p → (x ≡ Ok p.0) × (y ≡ Ok p.1)
both-ok {A} {B} s (Ok a) (Ok b) p h =
    let e : (a, b) ≡ p = cc h in (ap (λ (q : A × B). Ok q.0) e, ap (λ (q : A × B). Ok q.1) e)
both-ok s (Ok a) (Err q) p h = cc h
both-ok s (Err r) (Ok b) p h = cc h
both-ok s (Err r) (Err q) p h = cc h

-- ---- platforms

text-there : (o : Option Data) (t : List ℕ) → text_of o ≡ Ok t → IsTextThere o
text-there None t h = cc h
text-there (Some null) t h = cc h
text-there (Some (boolean b)) t h = cc h
text-there (Some (number n)) t h = cc h
text-there (Some (string s)) t h = tt
text-there (Some (array ds)) t h = cc h
text-there (Some (object ms)) t h = cc h

there-text : (o : Option Data) → IsTextThere o → (t : List ℕ) × (text_of o ≡ Ok t)
there-text None h = absurd h
there-text (Some null) h = absurd h
there-text (Some (boolean b)) h = absurd h
there-text (Some (number n)) h = absurd h
there-text (Some (string s)) h = (s, refl)
there-text (Some (array ds)) h = absurd h
there-text (Some (object ms)) h = absurd h

platform-said : (o : Option Data) → platform_checked o ≡ Ok tt → IsPlatform o
platform-said None h = tt
platform-said (Some null) h = cc h
platform-said (Some (boolean b)) h = cc h
platform-said (Some (number n)) h = cc h
platform-said (Some (string s)) h = cc h
platform-said (Some (array ds)) h = cc h
platform-said (Some (object ms)) h =
    let d : Data = object ms in
    let m = map_ok both_checked (both (at (codes "architecture") text_of d) (at (codes "os") text_of d)) tt h in
    let b = both-ok (Name (codes "architecture")) (text_of (get (codes "architecture") d)) (at (codes "os") text_of d) m.0 m.1 in
    let os = under_ok (Name (codes "os")) (text_of (get (codes "os") d)) m.0.1 b.1 in
    (text-there (get (codes "architecture") d) m.0.0 b.0, text-there (get (codes "os") d) m.0.1 os)

platform-read : (o : Option Data) → IsPlatform o → platform_checked o ≡ Ok tt
platform-read None h = refl
platform-read (Some null) h = absurd h
platform-read (Some (boolean b)) h = absurd h
platform-read (Some (number n)) h = absurd h
platform-read (Some (string s)) h = absurd h
platform-read (Some (array ds)) h = absurd h
platform-read (Some (object ms)) h =
    let d : Data = object ms in
    let a = there-text (get (codes "architecture") d) h.0 in
    let o = there-text (get (codes "os") d) h.1 in
    rw (a.1, o.1) refl

-- ---- an entry is a descriptor with a platform

-- the members of a descriptor, each read
five-read : (known : List Known) (ms : Members) (p : descriptor.Members)
    → optional_object annotation_of (get (codes "annotations") (object ms)) ≡ Ok p.0
    → digest_checked (get (codes "digest") (object ms)) ≡ Ok p.1.0
    → text_of (get (codes "mediaType") (object ms)) ≡ Ok p.1.1.0
    → size_agreeing known (digest_checked (get (codes "digest") (object ms))) (get (codes "size") (object ms)) ≡ Ok p.1.1.1.0
    → optional_list text_of (get (codes "urls") (object ms)) ≡ Ok p.1.1.1.1
    → descriptor_of known (Some (object ms)) ≡ Ok (descriptor.made p)
five-read known ms p a d m s u = rw (s, a, d, m, u) refl

-- those of an entry
six-read : (known : List Known) (ms : Members) (p : descriptor.Members)
    → optional_object annotation_of (get (codes "annotations") (object ms)) ≡ Ok p.0
    → digest_checked (get (codes "digest") (object ms)) ≡ Ok p.1.0
    → text_of (get (codes "mediaType") (object ms)) ≡ Ok p.1.1.0
    → platform_checked (get (codes "platform") (object ms)) ≡ Ok tt
    → size_agreeing known (digest_checked (get (codes "digest") (object ms))) (get (codes "size") (object ms)) ≡ Ok p.1.1.1.0
    → optional_list text_of (get (codes "urls") (object ms)) ≡ Ok p.1.1.1.1
    → entry_of known (Some (object ms)) ≡ Ok (descriptor.made p)
six-read known ms p a d m k s u = rw (s, a, d, m, k, u) refl

abbrev as_checked : Descriptor → Checked Descriptor
as_checked x = Ok x

entry-parts : (known : List Known) (d : Data) (x : Descriptor) → entry_of known (Some d) ≡ Ok x → (descriptor_of known (Some d) ≡ Ok x) × (platform_checked (get (codes "platform") d) ≡ Ok tt)
entry-parts known null x h = cc h
entry-parts known (boolean b) x h = cc h
entry-parts known (number n) x h = cc h
entry-parts known (string s) x h = cc h
entry-parts known (array ds) x h = cc h
entry-parts known (object ms) x h =
    let m = map_ok made _ x h in
    let p = m.0 in
    let b1 = both-ok _ _ _ p m.1 in
    let b2 = both-ok _ _ _ p.1 b1.1 in
    let b3 = both-ok _ _ _ p.1.1 b2.1 in
    let b4 = both-ok _ _ _ p.1.1.1 b3.1 in
    let b5 = both-ok _ _ _ p.1.1.1.1 b4.1 in
    let urls = under_ok _ _ _ b5.1 in
    let five : descriptor.Members = (p.0, (p.1.0, (p.1.1.0, (p.1.1.1.1.0, p.1.1.1.1.1)))) in
    (five-read known ms five b1.0 b2.0 b3.0 b5.0 urls ∙ ap (λ (y : Descriptor). as_checked y) m.2, b4.0)

entry-joined : (known : List Known) (d : Data) (x : Descriptor) → descriptor_of known (Some d) ≡ Ok x → platform_checked (get (codes "platform") d) ≡ Ok tt → entry_of known (Some d) ≡ Ok x
entry-joined known null x h k = cc h
entry-joined known (boolean b) x h k = cc h
entry-joined known (number n) x h k = cc h
entry-joined known (string s) x h k = cc h
entry-joined known (array ds) x h k = cc h
entry-joined known (object ms) x h k =
    let m = map_ok descriptor.made _ x h in
    let p = m.0 in
    let b1 = both-ok _ _ _ p m.1 in
    let b2 = both-ok _ _ _ p.1 b1.1 in
    let b3 = both-ok _ _ _ p.1.1 b2.1 in
    let b4 = both-ok _ _ _ p.1.1.1 b3.1 in
    let urls = under_ok _ _ _ b4.1 in
    six-read known ms p b1.0 b2.0 b3.0 k b4.0 urls ∙ ap (λ (y : Descriptor). as_checked y) m.2

-- ---- entries

abbrev as_listed : List Descriptor → Checked (List Descriptor)
as_listed xs = Ok xs

-- one that was read before others that were
first-read : (i : ℕ) (x : Checked Descriptor) (y : Checked (List Descriptor)) (a : Descriptor) (rest xs : List Descriptor) → x ≡ Ok a → y ≡ Ok rest → a ∷ rest ≡ xs → with_first (under (Place i) x) y ≡ Ok xs
first-read i x y a rest xs e f g = rw (e, f) (ap (λ (zs : List Descriptor). as_listed zs) g)

entries-parts : (known : List Known) (i : ℕ) (ds : Items) (xs : List Descriptor) → entries_by known i ds ≡ Ok xs → (layers_by known i ds ≡ Ok xs) × HavePlatforms ds
entries-parts known i no_items xs h = (h, tt)
entries-parts known i (item d ds) xs h =
    let m = map_ok _ _ xs h in
    let b = both-ok (Place i) (entry_of known (Some d)) (entries_by (known ++ known_of (Some d)) (suc i) ds) m.0 m.1 in
    let one = entry-parts known d m.0.0 b.0 in
    let rest = entries-parts (known ++ known_of (Some d)) (suc i) ds m.0.1 b.1 in (
      first-read i (descriptor_of known (Some d)) (layers_by (known ++ known_of (Some d)) (suc i) ds) m.0.0 m.0.1 xs one.0 rest.0 m.2,
      (platform-said (get (codes "platform") d) one.1, rest.1),
    )

entries-joined : (known : List Known) (i : ℕ) (ds : Items) (xs : List Descriptor) → layers_by known i ds ≡ Ok xs → HavePlatforms ds → entries_by known i ds ≡ Ok xs
entries-joined known i no_items xs h p = h
entries-joined known i (item d ds) xs h p =
    let m = map_ok _ _ xs h in
    let b = both-ok (Place i) (descriptor_of known (Some d)) (layers_by (known ++ known_of (Some d)) (suc i) ds) m.0 m.1 in
    let one = entry-joined known d m.0.0 b.0 (platform-read (get (codes "platform") d) p.0) in
    let rest = entries-joined (known ++ known_of (Some d)) (suc i) ds m.0.1 b.1 p.1 in
    first-read i (entry_of known (Some d)) (entries_by (known ++ known_of (Some d)) (suc i) ds) m.0.0 m.0.1 xs one rest m.2

none-none : (xs : List Descriptor) → NoneDiffers [] xs
none-none [] = tt
none-none (x ∷ xs) = (λ d. d, none-none xs)

entries-said : (o : Option Data) (xs : List Descriptor) → entries_of o ≡ Ok xs → AreLayers o xs × HavePlatformsThere o × AllAgree xs
entries-said None xs h = cc h
entries-said (Some null) xs h = let none : xs ≡ [] = sym (cc h) in (none, tt, rw none tt)
entries-said (Some (boolean b)) xs h = cc h
entries-said (Some (number n)) xs h = cc h
entries-said (Some (string s)) xs h = cc h
entries-said (Some (array ds)) xs h =
    let parts = entries-parts [] 0 ds xs h in
    let said = behind-all [] ds xs (layers-said [] settled-none 0 ds xs parts.0) in
    (said.0, parts.1, said.1.1)
entries-said (Some (object ms)) xs h = cc h

entries-read : (o : Option Data) (xs : List Descriptor) → AreLayers o xs → HavePlatformsThere o → AllAgree xs → entries_of o ≡ Ok xs
entries-read None xs h p a = absurd h
entries-read (Some null) xs h p a = rw h refl
entries-read (Some (boolean b)) xs h p a = absurd h
entries-read (Some (number n)) xs h p a = absurd h
entries-read (Some (string s)) xs h p a = absurd h
entries-read (Some (array ds)) xs h p a =
    entries-joined [] 0 ds xs (layers-read [] 0 ds xs (all-behind [] ds xs h (none-none xs) a)) p
entries-read (Some (object ms)) xs h p a = absurd h

-- ---- kinds, as relation and as reading

kind-said : (o : Option Data) (kind : Kind) → kind_of [] o ≡ Ok kind → HasKind [] o kind
kind-said o kind h = (tells-kind [] o (Ok kind) h).0

kind-read : (o : Option Data) (kind : Kind) → HasKind [] o kind → kind_of [] o ≡ Ok kind
kind-read o kind h = by (kind_of [] o) refl
  where
    by : (x : Checked Kind) → kind_of [] o ≡ x → x ≡ Ok kind
    by (Ok k) e = ap Ok (sym ((tells-kind [] o (Ok k) e).1 kind h))
    by (Err p) e = absurd (tells-kind [] o (Err (Member (pointer p))) (p, e, refl) kind h)

-- ---- the index

where-ok : (k : Checked Kind) (e : Checked (List Descriptor)) (w : Checked ⊤) (xs : List Descriptor) → where_whole (where_index k e) w ≡ Ok xs → (k ≡ Ok OciIndex) × (e ≡ Ok xs) × (w ≡ Ok tt)
where-ok (Err p) e w xs h = cc h
where-ok (Ok V2s2) e w xs h = cc h
where-ok (Ok V2s2List) e w xs h = cc h
where-ok (Ok Oci) e w xs h = cc h
where-ok (Ok OciIndex) (Err p) w xs h = cc h
where-ok (Ok OciIndex) (Ok ys) (Err p) xs h = cc h
where-ok (Ok OciIndex) (Ok ys) (Ok x) xs h = (refl, h, refl)

-- what is read of a tree is what the format says of it
pub index-said : (o : Option Data) (xs : List Descriptor) → index_of o ≡ Ok xs → SaysIndex o xs
unfolding index_of
index-said None xs h = let w = where-ok (kind_of [] None) (entries_there None) (whole_there None) xs h in cc w.1
index-said (Some d) xs h =
    let w = where-ok (kind_of [] (Some d)) (entries_there (Some d)) (whole_there (Some d)) xs h in
    let entries = entries-said (get (codes "manifests") d) xs (under_ok (Name (codes "manifests")) (entries_of (get (codes "manifests") d)) xs w.1) in record {
      kind = kind-said (Some d) OciIndex w.0;
      entries = entries.0;
      platforms = entries.1;
      one_size = entries.2;
      whole = whole-no_float d w.2;
    }

-- what the format says of a tree is read of it
pub index-read : (o : Option Data) (xs : List Descriptor) → SaysIndex o xs → index_of o ≡ Ok xs
unfolding index_of
index-read None xs h = absurd h
index-read (Some d) xs h =
    rw (kind-read (Some d) OciIndex h.kind, entries-read (get (codes "manifests") d) xs h.entries h.platforms h.one_size, no_float-whole d h.whole) refl

-- so an answer that is the reading's tells the one list of entries that is said
pub tells-index : (o : Option Data) (r : Result (List Descriptor) ManifestFault) → Reads r (index_of o) → TellsOnly (SaysIndex o) r
tells-index o (Ok xs) h = (index-said o xs h, λ ys s. cc (sym (index-read o ys s) ∙ h))
tells-index o (Err (Member text)) h = λ ys s. cc (sym h.1 ∙ index-read o ys s)
tells-index o (Err Memory) h = tt
