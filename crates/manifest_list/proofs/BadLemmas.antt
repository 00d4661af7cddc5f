-- The readings of a list name the first bad member.
use Rattle.std.proofs.Common.{◌≡◌, ◌≢◌, inl, inr, ℕ, suc, ◌<◌, codes, List, [], ◌∷◌, ◌++◌, Option, Some, None, Result, Ok, Err, refl, arith}
use Rattle.serde_json.specs.Data.{Data, null, boolean, number, string, array, object, Items, no_items, item, Members}
use Rattle.serde_json.specs.Find.{get}
use Rattle.json_tree.specs.declared.path.Step.{Step}
use Rattle.json_tree.specs.declared.path.Step.TheVariants.{Name, Place}
use Rattle.json_tree.specs.Checked.{Checked, under, both}
use Rattle.json_tree.specs.First.{Path, Below, ◌or◌, NamesFirst, BadText, BadOptionalList, BadOptionalObject}
use Rattle.json_tree.specs.Leaf.{text_of, whole_of, optional_list, optional_object}
use Rattle.json_tree.specs.Sorted.{IsSortedThere, IsSorted, ItemsAreSorted}
use Rattle.json_tree.specs.Tree.{tree}
use Rattle.json_tree.proofs.SortedLemmas.{sorted-get, sorted-tree}
use Rattle.json_tree.proofs.FirstLemmas.{StandsBefore, StandsBefore-below, StandsBefore-or, StandsBefore-nothing, NamesFirst-both, NamesFirst-map, NamesFirst-under, NamesFirst-itself, NamesFirst-member, NamesFirst-five, IsInOrder, ahead-below, ahead-or, NamesFirst-more, no_later-refl, NamesFirst-text, NamesFirst-optional_list, NamesFirst-optional_object}
use Rattle.manifest_v2s2.specs.Bad.{BadDigest, BadWhole, BadAgreement, BadSize, BadPresent, BadMedia, BadVersion}
use Rattle.manifest_v2s2.specs.Calls.{Reads, NamesFirstBad}
use Rattle.manifest_v2s2.specs.Descriptor.{digest_checked, annotation_of, size_agreeing, known_of}
use Rattle.manifest_v2s2.specs.Image.{absent, media_checked, version_checked}
use Rattle.manifest_v2s2.specs.declared.sizes.Known.{Known}
use Rattle.manifest_v2s2.specs.declared.kind.Kind.{Kind}
use Rattle.manifest_v2s2.specs.declared.fault.ManifestFault.{ManifestFault}
use Rattle.manifest_v2s2.specs.declared.fault.ManifestFault.TheVariants.{Member, Memory}
use Rattle.manifest_v2s2.proofs.SizeLemmas.{DiffersFirst}
use Rattle.manifest_v2s2.proofs.BadLemmas.{names-digest, names-whole, names-annotation, names-agreeing, names-absent, names-media, names-version}
use Rattle.manifest_list.specs.declared.platform.Platform.{Platform}
use Rattle.manifest_list.specs.declared.list.ListEntry.{ListEntry}
use Rattle.manifest_list.specs.declared.list.List as listed
use Rattle.manifest_list.specs.Platform.{platform_with, platform_in, platform_of}
use Rattle.manifest_list.specs.Entry.{entry_with, entry_in, entry_of, entries_by, entries_of, list_with, list_in, list_of}
use Rattle.manifest_list.specs.BadList.{IsOther, BadPlatform, BadEntry, BadEntriesFrom, BadEntries, BadList}

-- ---- platforms

names-platform_in : (ms : Members) → NamesFirst (platform_in ms) (BadPlatform (Some (object ms)))
names-platform_in ms =
    let s1 = Name (codes "architecture") in
    let s2 = Name (codes "os") in
    let o1 = get (codes "architecture") (object ms) in
    let o2 = get (codes "os") (object ms) in
    NamesFirst-map (Below s1 (BadText o1) or Below s2 (BadText o2)) (platform_with ms) (both (under s1 (text_of o1)) (under s2 (text_of o2)))
    (NamesFirst-member s1 (BadText o1) (Below s2 (BadText o2)) (text_of o1) (under s2 (text_of o2)) (NamesFirst-text o1) (NamesFirst-under s2 (BadText o2) (text_of o2) (NamesFirst-text o2))
    (ahead-below s1 s2 (BadText o2) refl))

names-platform : (o : Option Data) → NamesFirst (platform_of o) (BadPlatform o)
names-platform None = λ q h. h
names-platform (Some null) = NamesFirst-itself (Option Platform)
names-platform (Some (boolean b)) = NamesFirst-itself (Option Platform)
names-platform (Some (number n)) = NamesFirst-itself (Option Platform)
names-platform (Some (string s)) = NamesFirst-itself (Option Platform)
names-platform (Some (array ds)) = NamesFirst-itself (Option Platform)
names-platform (Some (object ms)) = NamesFirst-map (BadPlatform (Some (object ms))) (λ (p : Platform). Some p) (platform_in ms) (names-platform_in ms)

-- ---- sizes

agreement-same : (R S : List ℕ → ℕ → Type 0) → ((d : List ℕ) (n : ℕ) → R d n → S d n) → (x : Checked (List ℕ)) (y : Checked ℕ) (p : Path) → BadAgreement R x y p → BadAgreement S x y p
agreement-same R S h (Ok d) (Ok n) p b = (b.0, h d n b.1)
agreement-same R S h (Ok d) (Err q) p b = b
agreement-same R S h (Err q) y p b = b

first-other : (known : List Known) (d : List ℕ) (n : ℕ) → DiffersFirst known d n → IsOther known d n
first-other known d n h = record { first = h.first; is = h.is; other = h.other }

other-first : (known : List Known) (d : List ℕ) (n : ℕ) → IsOther known d n → DiffersFirst known d n
other-first known d n h = record { first = h.first; is = h.is; other = h.other }

names-size : (known : List Known) (x : Checked (List ℕ)) (o : Option Data) → NamesFirst (size_agreeing known x o) (BadWhole o or BadAgreement (IsOther known) x (whole_of o))
names-size known x o =
    NamesFirst-more (BadWhole o or BadAgreement (DiffersFirst known) x (whole_of o)) (BadWhole o or BadAgreement (IsOther known) x (whole_of o)) (size_agreeing known x o)
    (names-agreeing known x (whole_of o) (BadWhole o) (names-whole o))
    (λ p b. elim b [ inl whole ↦ inl whole | inr other ↦ inr (agreement-same (DiffersFirst known) (IsOther known) (first-other known) x (whole_of o) p other) ])
    (λ q b. (q, elim b [ inl whole ↦ inl whole | inr other ↦ inr (agreement-same (IsOther known) (DiffersFirst known) (other-first known) x (whole_of o) q other) ], no_later-refl q))

-- ---- entries

in_order : IsInOrder (Name (codes "digest")) (Name (codes "mediaType")) (Name (codes "platform")) (Name (codes "size")) (Name (codes "urls"))
in_order = record { h12 = refl; h13 = refl; h14 = refl; h15 = refl; h23 = refl; h24 = refl; h25 = refl; h34 = refl; h35 = refl; h45 = refl }

names-entry_in : (known : List Known) (ms : Members) → IsSorted (object ms) → NamesFirst (entry_in known (object ms)) (BadEntry known (Some (object ms)))
names-entry_in known ms s =
    let d : Data = object ms in
    let o1 = get (codes "annotations") d in
    let o2 = get (codes "digest") d in
    let o3 = get (codes "mediaType") d in
    let o4 = get (codes "platform") d in
    let o5 = get (codes "size") d in
    let o6 = get (codes "urls") d in
    let s1 = Name (codes "annotations") in
    let s2 = Name (codes "digest") in
    let s3 = Name (codes "mediaType") in
    let s4 = Name (codes "platform") in
    let s5 = Name (codes "size") in
    let s6 = Name (codes "urls") in
    let x1 = optional_object annotation_of o1 in
    let x2 = digest_checked o2 in
    let x3 = text_of o3 in
    let x4 = platform_of o4 in
    let x5 = size_agreeing known x2 o5 in
    let x6 = optional_list text_of o6 in
    let b1 = BadOptionalObject BadText o1 in
    let b2 = BadDigest o2 in
    let b3 = BadText o3 in
    let b4 = BadPlatform o4 in
    let b5 = BadSize (IsOther known) d o5 in
    let b6 = BadOptionalList BadText o6 in
    let n1 = NamesFirst-optional_object annotation_of BadText o1 (sorted-get (codes "annotations") d s) (λ k o _. names-annotation k o) in
    let n5 = names-size known x2 o5 in
    let n6 = NamesFirst-optional_list text_of BadText o6 (sorted-get (codes "urls") d s) (λ o _. NamesFirst-text o) in
    let rest = Below s2 b2 or (Below s3 b3 or (Below s4 b4 or (Below s5 b5 or Below s6 b6))) in
    let y = both (under s2 x2) (both (under s3 x3) (both (under s4 x4) (both (under s5 x5) (under s6 x6)))) in
    let order : IsInOrder s2 s3 s4 s5 s6 = in_order in
    let five = NamesFirst-five s2 s3 s4 s5 s6 b2 b3 b4 b5 b6 x2 x3 x4 x5 x6 (names-digest o2) (NamesFirst-text o3) (names-platform o4) n5 n6 order in
    NamesFirst-map (Below s1 b1 or rest) entry_with (both (under s1 x1) y)
    (NamesFirst-member s1 b1 rest x1 y n1 five
    (ahead-or s1 (Below s2 b2) _ (ahead-below s1 s2 b2 refl) (ahead-or s1 (Below s3 b3) _ (ahead-below s1 s3 b3 refl) (ahead-or s1 (Below s4 b4) _ (ahead-below s1 s4 b4 refl)
    (ahead-or s1 (Below s5 b5) (Below s6 b6) (ahead-below s1 s5 b5 refl) (ahead-below s1 s6 b6 refl))))))

names-entry : (known : List Known) (o : Option Data) → IsSortedThere o → NamesFirst (entry_of known o) (BadEntry known o)
names-entry known None s = NamesFirst-itself ListEntry
names-entry known (Some null) s = NamesFirst-itself ListEntry
names-entry known (Some (boolean b)) s = NamesFirst-itself ListEntry
names-entry known (Some (number n)) s = NamesFirst-itself ListEntry
names-entry known (Some (string t)) s = NamesFirst-itself ListEntry
names-entry known (Some (array ds)) s = NamesFirst-itself ListEntry
names-entry known (Some (object ms)) s = names-entry_in known ms s

entries-stand : (A : Path → Type 0) (known : List Known) (i j : ℕ) (ds : Items) → i < j → StandsBefore (Below (Place i) A) (BadEntriesFrom known j ds)
entries-stand A known i j no_items lt = StandsBefore-nothing (Below (Place i) A)
entries-stand A known i j (item d ds) lt =
    StandsBefore-or (Below (Place i) A) (Below (Place j) (BadEntry known (Some d))) (BadEntriesFrom (known ++ known_of (Some d)) (suc j) ds)
    (StandsBefore-below (Place i) (Place j) A (BadEntry known (Some d)) lt)
    (entries-stand A (known ++ known_of (Some d)) i (suc j) ds (omega arith))

names-entries : (known : List Known) (i : ℕ) (ds : Items) → ItemsAreSorted ds → NamesFirst (entries_by known i ds) (BadEntriesFrom known i ds)
names-entries known i no_items s = λ q h. h
names-entries known i (item d ds) s =
    let one = under (Place i) (entry_of known (Some d)) in
    let more = known ++ known_of (Some d) in
    let rest = entries_by more (suc i) ds in
    let B = BadEntry known in
    NamesFirst-map (BadEntriesFrom known i (item d ds)) (λ p. p.0 ∷ p.1) (both one rest)
    (NamesFirst-both (Below (Place i) (B (Some d))) (BadEntriesFrom more (suc i) ds) one rest
    (NamesFirst-under (Place i) (B (Some d)) (entry_of known (Some d)) (names-entry known (Some d) s.0))
    (names-entries more (suc i) ds s.1)
    (entries-stand (B (Some d)) more i (suc i) ds (omega arith)))

names-entries_of : (o : Option Data) → IsSortedThere o → NamesFirst (entries_of o) (BadEntries o)
names-entries_of None s = NamesFirst-itself (List ListEntry)
names-entries_of (Some null) s = λ q h. h
names-entries_of (Some (boolean b)) s = NamesFirst-itself (List ListEntry)
names-entries_of (Some (number n)) s = NamesFirst-itself (List ListEntry)
names-entries_of (Some (string t)) s = NamesFirst-itself (List ListEntry)
names-entries_of (Some (array ds)) s = names-entries [] 0 ds s
names-entries_of (Some (object ms)) s = NamesFirst-itself (List ListEntry)

-- ---- the list

list-in_order : IsInOrder (Name (codes "config")) (Name (codes "layers")) (Name (codes "manifests")) (Name (codes "mediaType")) (Name (codes "schemaVersion"))
list-in_order = record { h12 = refl; h13 = refl; h14 = refl; h15 = refl; h23 = refl; h24 = refl; h25 = refl; h34 = refl; h35 = refl; h45 = refl }

names-list_in : (kind : Kind) (ms : Members) → IsSorted (object ms) → NamesFirst (list_of kind (Some (object ms))) (BadList kind (Some (object ms)))
unfolding list_of BadList
names-list_in kind ms s =
    let d : Data = object ms in
    let o1 = get (codes "config") d in
    let o2 = get (codes "layers") d in
    let o3 = get (codes "manifests") d in
    let o4 = get (codes "mediaType") d in
    let o5 = get (codes "schemaVersion") d in
    let s1 = Name (codes "config") in
    let s2 = Name (codes "layers") in
    let s3 = Name (codes "manifests") in
    let s4 = Name (codes "mediaType") in
    let s5 = Name (codes "schemaVersion") in
    let x4 = media_checked kind o4 in
    let b4 = BadMedia kind o4 in
    NamesFirst-map (BadList kind (Some d)) (list_with kind)
    (both (under s1 (absent o1)) (both (under s2 (absent o2)) (both (under s3 (entries_of o3)) (both (under s4 x4) (under s5 (version_checked o5))))))
    (NamesFirst-five s1 s2 s3 s4 s5 (BadPresent o1) (BadPresent o2) (BadEntries o3) b4 (BadVersion o5) (absent o1) (absent o2) (entries_of o3) x4 (version_checked o5)
    (names-absent o1) (names-absent o2) (names-entries_of o3 (sorted-get (codes "manifests") d s)) (names-media kind o4) (names-version o5) list-in_order)

names-list : (kind : Kind) (o : Option Data) → IsSortedThere o → NamesFirst (list_of kind o) (BadList kind o)
unfolding list_of BadList
names-list kind None s = NamesFirst-itself listed.List
names-list kind (Some null) s = NamesFirst-itself listed.List
names-list kind (Some (boolean b)) s = NamesFirst-itself listed.List
names-list kind (Some (number n)) s = NamesFirst-itself listed.List
names-list kind (Some (string t)) s = NamesFirst-itself listed.List
names-list kind (Some (array ds)) s = NamesFirst-itself listed.List
names-list kind (Some (object ms)) s = names-list_in kind ms s

-- what is read of bytes names the first bad member
pub first-list : (kind : Kind) (bytes : List ℕ) (r : Result listed.List ManifestFault) → Reads r (list_of kind (tree bytes)) → NamesFirstBad r (BadList kind (tree bytes))
first-list kind bytes (Ok l) h = rw h at (names-list kind (tree bytes) (sorted-tree bytes))
first-list kind bytes (Err (Member text)) h = (h.0, rw h.1 at (names-list kind (tree bytes) (sorted-tree bytes)), h.2)
first-list kind bytes (Err Memory) h = tt

-- so does what is read of a tree that bytes are
pub first-parsed : (kind : Kind) (o : Option Data) (r : Result listed.List ManifestFault) → Reads r (list_of kind o) → (bytes : List ℕ) → o ≡ tree bytes → NamesFirstBad r (BadList kind (tree bytes))
first-parsed kind o r h bytes e = first-list kind bytes r (rw e at h)
