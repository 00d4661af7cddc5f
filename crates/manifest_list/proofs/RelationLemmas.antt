-- A list is read exactly where the words of the format say it.
use Rattle.std.proofs.Common.{◌≡◌, ◌≢◌, ℕ, suc, codes, Bool, true, false, List, [], ◌∷◌, ◌++◌, map, Option, Some, None, Result, Ok, Err, refl, sym, ap, ◌∙◌, subst}
use Rattle.std.specs.Prelude.{⊤}
use Rattle.std.specs.List.{All}
use Rattle.serde_json.specs.Data.{Data, null, boolean, number, string, array, object, Items, no_items, item, Members}
use Rattle.serde_json.specs.Find.{get}
use Rattle.skopeo_outside.specs.declared.pair.Pair.{Pair}
use Rattle.json_tree.specs.declared.path.Step.TheVariants.{Name, Place}
use Rattle.json_tree.specs.Checked.{Checked, under, both, checked_map}
use Rattle.json_tree.specs.Leaf.{text_of}
use Rattle.manifest_v2s2.specs.Media.{is_list}
use Rattle.manifest_v2s2.specs.Descriptor as descriptor
use Rattle.manifest_v2s2.specs.Descriptor.{descriptor_of, known_of}
use Rattle.manifest_v2s2.specs.Image.{layers_by}
use Rattle.manifest_v2s2.specs.IsImage.{IsDescriptor, AreDescriptors, AllAgree}
use Rattle.manifest_v2s2.specs.Writable.{known_as}
use Rattle.manifest_v2s2.specs.Calls.{Reads, TellsOnly}
use Rattle.manifest_v2s2.specs.declared.descriptor.Descriptor.{Descriptor}
use Rattle.manifest_v2s2.specs.declared.kind.Kind.{Kind}
use Rattle.manifest_v2s2.specs.declared.sizes.Known.{Known}
use Rattle.manifest_v2s2.specs.declared.fault.ManifestFault.{ManifestFault}
use Rattle.manifest_v2s2.specs.declared.fault.ManifestFault.TheVariants.{Member}
use Rattle.manifest_v2s2.specs.declared.fault.ManifestFault.TheVariants as fault
use Rattle.manifest_v2s2.proofs.SizeLemmas.{settled-none}
use Rattle.manifest_v2s2.proofs.Relation.{both_ok, under_ok, map_ok, text_ok, with_first_ok}
use Rattle.manifest_v2s2.proofs.IsDescriptorLemmas.{AreBehind, NoneDiffers, descriptor-read, known_of-said, layers-said, behind-all, all-behind}
use Rattle.manifest_v2s2.proofs.IsImageLemmas.{absent-said, version-said, media-said, media-read}
use Rattle.manifest_list.specs.declared.platform.Platform.{Platform}
use Rattle.manifest_list.specs.declared.list.ListEntry.{ListEntry}
use Rattle.manifest_list.specs.declared.list.List as listed
use Rattle.manifest_list.specs.Platform.{text_there, kept, platform_with, platform_in, platform_of}
use Rattle.manifest_list.specs.Entry as entry
use Rattle.manifest_list.specs.Entry.{entry_with, entry_of, entries_by, entries_of, list_with, list_in, list_of}
use Rattle.manifest_list.specs.IsList.{IsVariant, IsPlatform, IsPlatformThere, IsEntry, AreEntries, AreEntriesThere, targets, IsList, SaysList}

-- ---- platforms

variant-said : (o : Option Data) → IsVariant o (text_there o)
variant-said None = λ text e. cc e
variant-said (Some null) = λ text e. cc e
variant-said (Some (boolean b)) = λ text e. cc e
variant-said (Some (number n)) = λ text e. cc e
variant-said (Some (string s)) = refl
variant-said (Some (array ds)) = λ text e. cc e
variant-said (Some (object ms)) = λ text e. cc e

variant-read : (o : Option Data) (v : Option (List ℕ)) → IsVariant o v → text_there o ≡ v
variant-read o (Some text) h = ap text_there h
variant-read None None h = refl
variant-read (Some null) None h = refl
variant-read (Some (boolean b)) None h = refl
variant-read (Some (number n)) None h = refl
variant-read (Some (string s)) None h = absurd (h s refl)
variant-read (Some (array ds)) None h = refl
variant-read (Some (object ms)) None h = refl

platform_in-said : (ms : Members) (p : Platform) → platform_in ms ≡ Ok p → IsPlatform ms p
platform_in-said ms p h =
    let m = map_ok (platform_with ms) _ p h in
    let parts = both_ok _ _ m.0.0 m.0.1 m.1 in
    let said : IsPlatform ms (platform_with ms m.0) = record {
      os = text_ok (get (codes "os") (object ms)) m.0.1 (under_ok _ _ m.0.1 parts.1);
      arch = text_ok (get (codes "architecture") (object ms)) m.0.0 (under_ok _ _ m.0.0 parts.0);
      variant = variant-said (get (codes "variant") (object ms));
      members = refl;
    } in
    subst (IsPlatform ms) m.2 said

platform_in-read : (ms : Members) (p : Platform) → IsPlatform ms p → platform_in ms ≡ Ok p
platform_in-read ms p h =
    let v = variant-read (get (codes "variant") (object ms)) p.variant h.variant in
    let members : kept ms ≡ p.members = sym h.members in
    rw (h.os, h.arch, v, members) refl

platform-said : (o : Option Data) (p : Option Platform) → platform_of o ≡ Ok p → IsPlatformThere o p
platform-said None None h = tt
platform-said None (Some p) h = cc h
platform-said (Some null) p h = cc h
platform-said (Some (boolean b)) p h = cc h
platform-said (Some (number n)) p h = cc h
platform-said (Some (string s)) p h = cc h
platform-said (Some (array ds)) p h = cc h
platform-said (Some (object ms)) p h =
    let m = map_ok (λ (q : Platform). Some q) (platform_in ms) p h in
    let said : IsPlatformThere (Some (object ms)) (Some m.0) = platform_in-said ms m.0 m.1 in
    subst (IsPlatformThere (Some (object ms))) m.2 said

platform-read : (o : Option Data) (p : Option Platform) → IsPlatformThere o p → platform_of o ≡ Ok p
platform-read None None h = refl
platform-read None (Some p) h = absurd h
platform-read (Some null) p h = absurd h
platform-read (Some (boolean b)) p h = absurd h
platform-read (Some (number n)) p h = absurd h
platform-read (Some (string s)) p h = absurd h
platform-read (Some (array ds)) p h = absurd h
platform-read (Some (object ms)) None h = absurd h
platform-read (Some (object ms)) (Some p) h = ap (checked_map (λ (q : Platform). Some q)) (platform_in-read ms p h)

-- ---- an entry is a descriptor and a platform

descriptor-joined : (x1 : Checked (List Pair)) (x2 x3 : Checked (List ℕ)) (x4 : Checked ℕ) (x5 : Checked (List (List ℕ))) (a1 : List Pair) (a2 a3 : List ℕ) (a4 : ℕ) (a5 : List (List ℕ))
    → x1 ≡ Ok a1 → x2 ≡ Ok a2 → x3 ≡ Ok a3 → x4 ≡ Ok a4 → x5 ≡ Ok a5 → checked_map descriptor.made (both x1 (both x2 (both x3 (both x4 x5)))) ≡ Ok (descriptor.made (a1, (a2, (a3, (a4, a5)))))
descriptor-joined x1 x2 x3 x4 x5 a1 a2 a3 a4 a5 e1 e2 e3 e4 e5 = rw (e1, e2, e3, e4, e5) refl

entry-joined : (x1 : Checked (List Pair)) (x2 x3 : Checked (List ℕ)) (x6 : Checked (Option Platform)) (x4 : Checked ℕ) (x5 : Checked (List (List ℕ))) (a1 : List Pair) (a2 a3 : List ℕ) (a6 : Option Platform) (a4 : ℕ) (a5 : List (List ℕ))
    → x1 ≡ Ok a1 → x2 ≡ Ok a2 → x3 ≡ Ok a3 → x6 ≡ Ok a6 → x4 ≡ Ok a4 → x5 ≡ Ok a5 → checked_map entry_with (both x1 (both x2 (both x3 (both x6 (both x4 x5))))) ≡ Ok (entry_with (a1, (a2, (a3, (a6, (a4, a5))))))
entry-joined x1 x2 x3 x6 x4 x5 a1 a2 a3 a6 a4 a5 e1 e2 e3 e6 e4 e5 = rw (e1, e2, e3, e6, e4, e5) refl

abbrev IsReadAs : List Known → Data → ListEntry → Type 0
IsReadAs known d e = (descriptor_of known (Some d) ≡ Ok e.target) × (platform_of (get (codes "platform") d) ≡ Ok e.platform)

entry-parts : (known : List Known) (d : Data) (e : ListEntry) → entry_of known (Some d) ≡ Ok e → IsReadAs known d e
entry-parts known null e h = cc h
entry-parts known (boolean b) e h = cc h
entry-parts known (number n) e h = cc h
entry-parts known (string s) e h = cc h
entry-parts known (array ds) e h = cc h
entry-parts known (object ms) e h =
    let d : Data = object ms in
    let m = map_ok entry_with _ e h in
    let p : entry.Members = m.0 in
    let b1 = both_ok _ _ p.0 p.1 m.1 in
    let b2 = both_ok _ _ p.1.0 p.1.1 b1.1 in
    let b3 = both_ok _ _ p.1.1.0 p.1.1.1 b2.1 in
    let b4 = both_ok _ _ p.1.1.1.0 p.1.1.1.1 b3.1 in
    let b5 = both_ok _ _ p.1.1.1.1.0 p.1.1.1.1.1 b4.1 in
    let target : descriptor_of known (Some d) ≡ Ok (entry_with p).target = descriptor-joined _ _ _ _ _ p.0 p.1.0 p.1.1.0 p.1.1.1.1.0 p.1.1.1.1.1 b1.0 b2.0 b3.0 b5.0 b5.1 in
    let platform : platform_of (get (codes "platform") d) ≡ Ok (entry_with p).platform = under_ok _ _ p.1.1.1.0 b4.0 in
    let parts : IsReadAs known d (entry_with p) = (target, platform) in
    subst (IsReadAs known d) m.2 parts

parts-entry : (known : List Known) (d : Data) (e : ListEntry) → IsReadAs known d e → entry_of known (Some d) ≡ Ok e
parts-entry known null e h = cc h.0
parts-entry known (boolean b) e h = cc h.0
parts-entry known (number n) e h = cc h.0
parts-entry known (string s) e h = cc h.0
parts-entry known (array ds) e h = cc h.0
parts-entry known (object ms) e h =
    let m = map_ok descriptor.made _ e.target h.0 in
    let p : descriptor.Members = m.0 in
    let b1 = both_ok _ _ p.0 p.1 m.1 in
    let b2 = both_ok _ _ p.1.0 p.1.1 b1.1 in
    let b3 = both_ok _ _ p.1.1.0 p.1.1.1 b2.1 in
    let b4 = both_ok _ _ p.1.1.1.0 p.1.1.1.1 b3.1 in
    let whole : Descriptor → Checked ListEntry = λ x. Ok (record { target = x; platform = e.platform }) in
    let platform : under (Name (codes "platform")) (platform_of (get (codes "platform") (object ms))) ≡ Ok e.platform = ap (under (Name (codes "platform"))) h.1 in
    entry-joined _ _ _ _ _ _ p.0 p.1.0 p.1.1.0 e.platform p.1.1.1.0 p.1.1.1.1 b1.0 b2.0 b3.0 platform b4.0 b4.1 ∙ ap whole m.2

-- ---- entries

-- item by item their platforms
abbrev ArePlatforms : Items → List ListEntry → Type 0
ArePlatforms no_items [] = Unit {0}
ArePlatforms no_items (e ∷ es) = ⊥
ArePlatforms (item d ds) [] = ⊥
ArePlatforms (item d ds) (e ∷ es) = IsPlatformThere (get (codes "platform") d) e.platform × ArePlatforms ds es

abbrev AreReadAs : List Known → ℕ → Items → List ListEntry → Type 0
AreReadAs known i ds es = (layers_by known i ds ≡ Ok (targets es)) × ArePlatforms ds es

entries-parts : (known : List Known) (i : ℕ) (ds : Items) (es : List ListEntry) → entries_by known i ds ≡ Ok es → AreReadAs known i ds es
entries-parts known i no_items [] h = (refl, tt)
entries-parts known i no_items (e ∷ es) h = cc h
entries-parts known i (item d ds) es h =
    let w = with_first_ok (under (Place i) (entry_of known (Some d))) (entries_by (known ++ known_of (Some d)) (suc i) ds) es h in
    let one = entry-parts known d w.0 (under_ok _ _ w.0 w.2) in
    let rest = entries-parts (known ++ known_of (Some d)) (suc i) ds w.1 w.3 in
    let read : layers_by known i (item d ds) ≡ Ok (targets (w.0 ∷ w.1)) = rw (one.0, rest.0) refl in
    let parts : AreReadAs known i (item d ds) (w.0 ∷ w.1) = (read, (platform-said (get (codes "platform") d) w.0.platform one.1, rest.1)) in
    subst (AreReadAs known i (item d ds)) (sym w.4) parts

entries-join : (ds : Items) (es : List ListEntry) → AreDescriptors ds (targets es) → ArePlatforms ds es → AreEntries ds es
entries-join no_items [] h k = tt
entries-join no_items (e ∷ es) h k = absurd k
entries-join (item d ds) [] h k = absurd k
entries-join (item d ds) (e ∷ es) h k = (record { target = h.0; platform = k.0 }, entries-join ds es h.1 k.1)

entries-split : (ds : Items) (es : List ListEntry) → AreEntries ds es → AreDescriptors ds (targets es) × ArePlatforms ds es
entries-split no_items [] h = (tt, tt)
entries-split no_items (e ∷ es) h = absurd h
entries-split (item d ds) [] h = absurd h
entries-split (item d ds) (e ∷ es) h = let rest = entries-split ds es h.1 in ((h.0.target, rest.0), (h.0.platform, rest.1))

entries-behind : (known : List Known) (i : ℕ) (ds : Items) (es : List ListEntry) → AreBehind known ds (targets es) → ArePlatforms ds es → entries_by known i ds ≡ Ok es
entries-behind known i no_items [] h k = refl
entries-behind known i no_items (e ∷ es) h k = absurd k
entries-behind known i (item d ds) [] h k = absurd k
entries-behind known i (item d ds) (e ∷ es) h k =
    let one = parts-entry known d e (descriptor-read known d e.target h.0, platform-read (get (codes "platform") d) e.platform k.0) in
    rw (one, known_of-said d e.target h.0.0, entries-behind (known ++ known_as e.target ∷ []) (suc i) ds es h.1 k.1) refl

none-differs : (xs : List Descriptor) → NoneDiffers [] xs
none-differs [] = tt
none-differs (x ∷ xs) = (λ d. d, none-differs xs)

AreSaid : Option Data → List ListEntry → Type 0
AreSaid o es = AreEntriesThere o es × AllAgree (targets es)

entries-said : (o : Option Data) (es : List ListEntry) → entries_of o ≡ Ok es → AreSaid o es
unfolding AreSaid
entries-said None es h = cc h
entries-said (Some null) es h = let none : es ≡ [] = sym (cc h) in (none, rw none tt)
entries-said (Some (boolean b)) es h = cc h
entries-said (Some (number n)) es h = cc h
entries-said (Some (string s)) es h = cc h
entries-said (Some (array ds)) es h =
    let parts = entries-parts [] 0 ds es h in
    let said = behind-all [] ds (targets es) (layers-said [] settled-none 0 ds (targets es) parts.0) in
    (entries-join ds es said.0 parts.1, said.1.1)
entries-said (Some (object ms)) es h = cc h

entries-read : (o : Option Data) (es : List ListEntry) → AreEntriesThere o es → AllAgree (targets es) → entries_of o ≡ Ok es
entries-read None es h a = absurd h
entries-read (Some null) es h a = rw h refl
entries-read (Some (boolean b)) es h a = absurd h
entries-read (Some (number n)) es h a = absurd h
entries-read (Some (string s)) es h a = absurd h
entries-read (Some (array ds)) es h a =
    let parts = entries-split ds es h in
    entries-behind [] 0 ds es (all-behind [] ds (targets es) parts.0 (none-differs (targets es)) a) parts.1
entries-read (Some (object ms)) es h a = absurd h

-- ---- the list

members-said : (kind : Kind) → is_list kind ≡ true → (ms : Members) (l : listed.List) → list_in kind (object ms) ≡ Ok l → IsList kind (object ms) l
unfolding AreSaid
members-said kind of_lists ms l h =
    let d : Data = object ms in
    let m = map_ok (list_with kind) _ l h in
    let p : entry.ListMembers = m.0 in
    let b1 = both_ok _ _ p.0 p.1 m.1 in
    let b2 = both_ok _ _ p.1.0 p.1.1 b1.1 in
    let b3 = both_ok _ _ p.1.1.0 p.1.1.1 b2.1 in
    let b4 = both_ok _ _ p.1.1.1.0 p.1.1.1.1 b3.1 in
    let entries = entries-said (get (codes "manifests") d) p.1.1.0 (under_ok _ _ p.1.1.0 b3.0) in
    let said : IsList kind d (list_with kind p) = record {
      of_lists = of_lists;
      version = version-said (get (codes "schemaVersion") d) p.1.1.1.1 (under_ok _ _ p.1.1.1.1 b4.1);
      media = media-said kind (get (codes "mediaType") d) p.1.1.1.0 (under_ok _ _ p.1.1.1.0 b4.0);
      no_config = absent-said (get (codes "config") d) p.0 (under_ok _ _ p.0 b1.0);
      no_layers = absent-said (get (codes "layers") d) p.1.0 (under_ok _ _ p.1.0 b2.0);
      kind_is = refl;
      entries = entries.0;
      one_size = entries.1;
    } in
    subst (IsList kind d) m.2 said

members-read : (kind : Kind) (ms : Members) (l : listed.List) → IsList kind (object ms) l → list_in kind (object ms) ≡ Ok l
members-read kind ms l h =
    let d : Data = object ms in
    let entries = entries-read (get (codes "manifests") d) l.entries h.entries h.one_size in
    let media = media-read kind (get (codes "mediaType") d) h.media in
    let whole : listed.List → Checked listed.List = λ j. Ok j in
    rw (h.no_config, h.no_layers, entries, media, h.version) (ap (λ (k : Kind). whole (record { kind = k; entries = l.entries })) (sym h.kind_is))

list-said : (kind : Kind) → is_list kind ≡ true → (o : Option Data) (l : listed.List) → list_of kind o ≡ Ok l → SaysList kind o l
unfolding list_of
list-said kind of_lists None l h = cc h
list-said kind of_lists (Some null) l h = cc h
list-said kind of_lists (Some (boolean b)) l h = cc h
list-said kind of_lists (Some (number n)) l h = cc h
list-said kind of_lists (Some (string s)) l h = cc h
list-said kind of_lists (Some (array ds)) l h = cc h
list-said kind of_lists (Some (object ms)) l h = members-said kind of_lists ms l h

pub list-read : (kind : Kind) (o : Option Data) (l : listed.List) → SaysList kind o l → list_of kind o ≡ Ok l
unfolding list_of
list-read kind None l h = absurd h
list-read kind (Some null) l h = cc h.version
list-read kind (Some (boolean b)) l h = cc h.version
list-read kind (Some (number n)) l h = cc h.version
list-read kind (Some (string s)) l h = cc h.version
list-read kind (Some (array ds)) l h = cc h.version
list-read kind (Some (object ms)) l h = members-read kind ms l h

-- so an answer that is the reading's tells the one list that is said
pub tells-list : (kind : Kind) (o : Option Data) (r : Result listed.List ManifestFault) → is_list kind ≡ true → Reads r (list_of kind o) → TellsOnly (SaysList kind o) r
tells-list kind o (Ok l) of_lists h = (list-said kind of_lists o l h, λ j s. cc (sym (list-read kind o j s) ∙ h))
tells-list kind o (Err (Member text)) of_lists h = λ j s. cc (sym h.1 ∙ list-read kind o j s)
tells-list kind o (Err fault.Memory) of_lists h = tt

-- no tree is a list of an image's kind
pub no-list : (kind : Kind) (o : Option Data) (l : listed.List) → is_list kind ≡ false → SaysList kind o l → ⊥
no-list kind None l image h = h
no-list kind (Some d) l image h = cc (sym image ∙ h.of_lists)
