-- The readings of a schema 2 image name the first bad member.
use Rattle.std.proofs.Common.{◌≡◌, ◌≢◌, inl, inr, ℕ, suc, ◌<◌, ◌≤◌, ◌^◌, ◌==◌, nat_lt, cond, codes, Bool, true, false, List, [], ◌∷◌, ◌++◌, Option, Some, None, Ok, Err, refl, sym, ◌∙◌, arith}
use Rattle.std.specs.Prelude.{⊤}
use Rattle.std.specs.Str.{bytes_eq}
use Rattle.std.proofs.lemmas.Bool.{eqb-true, eq-eqb}
use Rattle.std.proofs.lemmas.Bool.Decides.{nat_tests}
use Rattle.std.proofs.lemmas.Slice.Eq.{bytes_eq-Decides}
use Rattle.serde_json.specs.Data.{Data, null, boolean, number, string, array, object, unsigned, negative, float, Items, no_items, item, Members}
use Rattle.serde_json.specs.Find.{get}
use Rattle.image_ref.specs.Digest.{IsDigestText, digest_of}
use Rattle.image_ref.proofs.DigestTexts.{digest_of-some, IsDigestText-digest_text, digest_of-found}
use Rattle.json_tree.specs.declared.path.Step.TheVariants.{Name, Place}
use Rattle.json_tree.specs.Checked.{Checked, under, both}
use Rattle.json_tree.specs.First.{Path, Below, ◌or◌, NamesFirst, BadText, BadOptionalList, BadOptionalObject}
use Rattle.json_tree.specs.Leaf.{text_of, whole_of, optional_list, optional_object}
use Rattle.json_tree.specs.Sorted.{IsSortedThere, IsSorted, ItemsAreSorted}
use Rattle.json_tree.proofs.SortedLemmas.{sorted-get}
use Rattle.json_tree.proofs.FirstLemmas.{StandsBefore, StandsBefore-below, StandsBefore-or, StandsBefore-nothing, NamesFirst-both, NamesFirst-map, NamesFirst-under, NamesFirst-itself, NamesFirst-five, IsInOrder, NamesFirst-more, no_later-refl, NamesFirst-or_nothing, NamesFirst-text, NamesFirst-optional_list, NamesFirst-optional_object}
use Rattle.manifest_v2s2.specs.Known.{Differs, first_size, agrees}
use Rattle.manifest_v2s2.specs.Media.{media_of}
use Rattle.manifest_v2s2.specs.Descriptor.{made, members_of, descriptor_of, digest_checked, checked_some, annotation_of, agreeing, size_agreeing, known_of}
use Rattle.manifest_v2s2.specs.Image as image
use Rattle.manifest_v2s2.specs.Image.{absent, media_checked, version_checked, layers_by, layers_of, image_of}
use Rattle.manifest_v2s2.specs.Bad.{ItselfIf, BadDigest, BadWhole, BadAgreement, BadDescriptor, BadSize, BadLayersFrom, BadLayers, BadPresent, BadMedia, BadVersion, BadImage}
use Rattle.manifest_v2s2.specs.declared.sizes.Known.{Known}
use Rattle.manifest_v2s2.specs.declared.descriptor.Descriptor.{Descriptor}
use Rattle.manifest_v2s2.specs.declared.image.Image.{Image}
use Rattle.manifest_v2s2.specs.declared.kind.Kind.{Kind}
use Rattle.manifest_v2s2.proofs.SizeLemmas.{DiffersFirst, IsSettled, differs-first, settled-none, agrees-settles, agrees-not}
use Rattle.manifest_v2s2.proofs.Sooner.{BadFirstFrom, bad-wider, first-bad, sooner-first, settled-config}

-- a member that is at fault by itself
itself-if : (X : Type 0) (P : Type 0) → P → NamesFirst {A = X} (Err []) (ItselfIf P)
itself-if X P h = record { here = (refl, h); first = λ q e. rw e.0 (inr (refl, tt)) }

tested : {X : Type 0} (b : Bool) (x : X) (P : Type 0) → (b ≡ true → P → ⊥) → (b ≡ false → P) → NamesFirst (cond b (Ok x) (Err [])) (ItselfIf P)
tested true x P t f = λ q h. t refl h.1
tested {X} false x P t f = itself-if X P (f refl)

digest-by : (s : List ℕ) (o : Option (List ℕ)) → digest_of s ≡ o → NamesFirst (checked_some o) (ItselfIf (IsDigestText s → ⊥))
digest-by s (Some d) e = λ q h. let d = digest_of-some s d e in h.1 (rw d.1 (IsDigestText-digest_text _ d.0))
digest-by s None e = itself-if (List ℕ) (IsDigestText s → ⊥) (λ t. digest_of-found s t e)

pub names-digest : (o : Option Data) → NamesFirst (digest_checked o) (BadDigest o)
names-digest None = NamesFirst-itself (List ℕ)
names-digest (Some null) = NamesFirst-itself (List ℕ)
names-digest (Some (boolean b)) = NamesFirst-itself (List ℕ)
names-digest (Some (number n)) = NamesFirst-itself (List ℕ)
names-digest (Some (string s)) = digest-by s (digest_of s) refl
names-digest (Some (array ds)) = NamesFirst-itself (List ℕ)
names-digest (Some (object ms)) = NamesFirst-itself (List ℕ)

pub names-whole : (o : Option Data) → NamesFirst (whole_of o) (BadWhole o)
names-whole None = NamesFirst-itself ℕ
names-whole (Some null) = NamesFirst-itself ℕ
names-whole (Some (boolean b)) = NamesFirst-itself ℕ
names-whole (Some (number (unsigned n))) = tested (nat_lt n (2 ^ 63)) n (2 ^ 63 ≤ n) (λ t h. grind (arith, nat_tests)) (λ t. grind (arith, nat_tests))
names-whole (Some (number (negative z))) = NamesFirst-itself ℕ
names-whole (Some (number (float x))) = NamesFirst-itself ℕ
names-whole (Some (string s)) = NamesFirst-itself ℕ
names-whole (Some (array ds)) = NamesFirst-itself ℕ
names-whole (Some (object ms)) = NamesFirst-itself ℕ

-- the size: whole, and no other one of the digest before
agreed : (b : Bool) (n : ℕ) (W : Path → Type 0) (P : Type 0) → ((q : Path) → W q → ⊥) → (b ≡ true → P → ⊥) → (b ≡ false → P) → NamesFirst (cond b (Ok n) (Err [])) (W or ItselfIf P)
agreed true n W P w t f = λ q h. elim h [ inl in_w ↦ w q in_w | inr itself ↦ t refl itself.1 ]
agreed false n W P w t f = record {
  here = inr (refl, f refl);
  first = λ q h. elim h [ inl in_w ↦ absurd (w q in_w) | inr itself ↦ rw itself.0 (inr (refl, tt)) ];
}

pub names-agreeing : (known : List Known) (x : Checked (List ℕ)) (y : Checked ℕ) (W : Path → Type 0) → NamesFirst y W → NamesFirst (agreeing known x y) (W or BadAgreement (DiffersFirst known) x y)
names-agreeing known (Ok d) (Ok n) W w = agreed (agrees (first_size known d) n) n W (DiffersFirst known d n) w (agrees-settles known d n) (agrees-not known d n)
names-agreeing known (Ok d) (Err p) W w = NamesFirst-or_nothing {X = ℕ} W (Err p) w
names-agreeing known (Err q) (Ok n) W w = NamesFirst-or_nothing W (Ok n) w
names-agreeing known (Err q) (Err p) W w = NamesFirst-or_nothing {X = ℕ} W (Err p) w

pub names-annotation : (k : List ℕ) (o : Option Data) → NamesFirst (annotation_of k o) (BadText o)
names-annotation k o = NamesFirst-map (BadText o) (λ t. record { name = k; value = t }) (text_of o) (NamesFirst-text o)

in_order : IsInOrder (Name (codes "annotations")) (Name (codes "digest")) (Name (codes "mediaType")) (Name (codes "size")) (Name (codes "urls"))
in_order = record { h12 = refl; h13 = refl; h14 = refl; h15 = refl; h23 = refl; h24 = refl; h25 = refl; h34 = refl; h35 = refl; h45 = refl }

-- the members of a descriptor
names-members : (known : List Known) (ms : Members) → IsSorted (object ms) → NamesFirst (members_of known (object ms)) (BadDescriptor (DiffersFirst known) (Some (object ms)))
names-members known ms s =
    let d : Data = object ms in
    let o1 = get (codes "annotations") d in
    let o2 = get (codes "digest") d in
    let o3 = get (codes "mediaType") d in
    let o4 = get (codes "size") d in
    let o5 = get (codes "urls") d in
    let s1 = Name (codes "annotations") in
    let s2 = Name (codes "digest") in
    let s3 = Name (codes "mediaType") in
    let s4 = Name (codes "size") in
    let s5 = Name (codes "urls") in
    let x1 = optional_object annotation_of o1 in
    let x2 = digest_checked o2 in
    let x3 = text_of o3 in
    let x4 = size_agreeing known x2 o4 in
    let x5 = optional_list text_of o5 in
    let b1 = BadOptionalObject BadText o1 in
    let b2 = BadDigest o2 in
    let b3 = BadText o3 in
    let b4 = BadSize (DiffersFirst known) d o4 in
    let b5 = BadOptionalList BadText o5 in
    let n1 = NamesFirst-optional_object annotation_of BadText o1 (sorted-get (codes "annotations") d s) (λ k o _. names-annotation k o) in
    let n2 = names-digest o2 in
    let n3 = NamesFirst-text o3 in
    let n4 = names-agreeing known x2 (whole_of o4) (BadWhole o4) (names-whole o4) in
    let n5 = NamesFirst-optional_list text_of BadText o5 (sorted-get (codes "urls") d s) (λ o _. NamesFirst-text o) in
    let order : IsInOrder s1 s2 s3 s4 s5 = in_order in
    NamesFirst-map (Below s1 b1 or (Below s2 b2 or (Below s3 b3 or (Below s4 b4 or Below s5 b5)))) made
    (both (under s1 x1) (both (under s2 x2) (both (under s3 x3) (both (under s4 x4) (under s5 x5)))))
    (NamesFirst-five s1 s2 s3 s4 s5 b1 b2 b3 b4 b5 x1 x2 x3 x4 x5 n1 n2 n3 n4 n5 order)

names-descriptor : (known : List Known) (o : Option Data) → IsSortedThere o → NamesFirst (descriptor_of known o) (BadDescriptor (DiffersFirst known) o)
names-descriptor known None s = NamesFirst-itself Descriptor
names-descriptor known (Some null) s = NamesFirst-itself Descriptor
names-descriptor known (Some (boolean b)) s = NamesFirst-itself Descriptor
names-descriptor known (Some (number n)) s = NamesFirst-itself Descriptor
names-descriptor known (Some (string t)) s = NamesFirst-itself Descriptor
names-descriptor known (Some (array ds)) s = NamesFirst-itself Descriptor
names-descriptor known (Some (object ms)) s = names-members known ms s

-- ---- the image

pub names-absent : (o : Option Data) → NamesFirst (absent o) (BadPresent o)
names-absent None = λ q h. h
names-absent (Some d) = NamesFirst-itself ⊤

pub names-media : (kind : Kind) (o : Option Data) → NamesFirst (media_checked kind o) (BadMedia kind o)
names-media kind None = λ q h. h
names-media kind (Some null) = λ q h. h
names-media kind (Some (boolean b)) = λ q h. h
names-media kind (Some (number n)) = λ q h. h
names-media kind (Some (string s)) =
    tested (bytes_eq s (media_of kind)) tt (s ≢ media_of kind) (λ t h. h ((bytes_eq-Decides s (media_of kind)).0 t))
    (λ t h. cc (sym t ∙ (bytes_eq-Decides s (media_of kind)).1 h))
names-media kind (Some (array ds)) = λ q h. h
names-media kind (Some (object ms)) = λ q h. h

pub names-version : (o : Option Data) → NamesFirst (version_checked o) (BadVersion o)
names-version None = NamesFirst-itself ⊤
names-version (Some null) = NamesFirst-itself ⊤
names-version (Some (boolean b)) = NamesFirst-itself ⊤
names-version (Some (number (unsigned n))) = tested (n == 2) tt (n ≢ 2) (λ t h. h (eqb-true n 2 t)) (λ t h. cc (sym t ∙ eq-eqb n 2 h))
names-version (Some (number (negative z))) = NamesFirst-itself ⊤
names-version (Some (number (float x))) = NamesFirst-itself ⊤
names-version (Some (string s)) = NamesFirst-itself ⊤
names-version (Some (array ds)) = NamesFirst-itself ⊤
names-version (Some (object ms)) = NamesFirst-itself ⊤

layers-stand : (A : Path → Type 0) (known : List Known) (i j : ℕ) (ds : Items) → i < j → StandsBefore (Below (Place i) A) (BadFirstFrom known j ds)
layers-stand A known i j no_items lt = StandsBefore-nothing (Below (Place i) A)
layers-stand A known i j (item d ds) lt =
    StandsBefore-or (Below (Place i) A) (Below (Place j) (BadDescriptor (DiffersFirst known) (Some d))) (BadFirstFrom (known ++ known_of (Some d)) (suc j) ds)
    (StandsBefore-below (Place i) (Place j) A (BadDescriptor (DiffersFirst known) (Some d)) lt)
    (layers-stand A (known ++ known_of (Some d)) i (suc j) ds (omega arith))

names-first_layers : (known : List Known) (i : ℕ) (ds : Items) → ItemsAreSorted ds → NamesFirst (layers_by known i ds) (BadFirstFrom known i ds)
names-first_layers known i no_items s = λ q h. h
names-first_layers known i (item d ds) s =
    let one = under (Place i) (descriptor_of known (Some d)) in
    let more = known ++ known_of (Some d) in
    let rest = layers_by more (suc i) ds in
    let B = BadDescriptor (DiffersFirst known) in
    NamesFirst-map (BadFirstFrom known i (item d ds)) (λ p. p.0 ∷ p.1) (both one rest)
    (NamesFirst-both (Below (Place i) (B (Some d))) (BadFirstFrom more (suc i) ds) one rest
    (NamesFirst-under (Place i) (B (Some d)) (descriptor_of known (Some d)) (names-descriptor known (Some d) s.0))
    (names-first_layers more (suc i) ds s.1)
    (layers-stand (B (Some d)) more i (suc i) ds (omega arith)))

names-layers : (known : List Known) (ds : Items) → IsSettled known → ItemsAreSorted ds → NamesFirst (layers_by known 0 ds) (BadLayersFrom known 0 ds)
names-layers known ds h s =
    NamesFirst-more (BadFirstFrom known 0 ds) (BadLayersFrom known 0 ds) (layers_by known 0 ds) (names-first_layers known 0 ds s) (first-bad known 0 ds) (sooner-first known h 0 ds)

names-layers_of : (known : List Known) (o : Option Data) → IsSettled known → IsSortedThere o → NamesFirst (layers_of known o) (BadLayers known o)
names-layers_of known None h s = NamesFirst-itself (List Descriptor)
names-layers_of known (Some null) h s = λ q h. h
names-layers_of known (Some (boolean b)) h s = NamesFirst-itself (List Descriptor)
names-layers_of known (Some (number n)) h s = NamesFirst-itself (List Descriptor)
names-layers_of known (Some (string t)) h s = NamesFirst-itself (List Descriptor)
names-layers_of known (Some (array ds)) h s = names-layers known ds h s
names-layers_of known (Some (object ms)) h s = NamesFirst-itself (List Descriptor)

-- the config, before which no descriptor is known
names-config : (o : Option Data) → IsSortedThere o → NamesFirst (descriptor_of [] o) (BadDescriptor (Differs []) o)
names-config o s =
    NamesFirst-more (BadDescriptor (DiffersFirst []) o) (BadDescriptor (Differs []) o) (descriptor_of [] o) (names-descriptor [] o s) (bad-wider (DiffersFirst []) (Differs []) (differs-first []) o)
    (λ q b. (q, bad-wider (Differs []) (DiffersFirst []) settled-none.settled o q b, no_later-refl q))

image-in_order : IsInOrder (Name (codes "config")) (Name (codes "layers")) (Name (codes "manifests")) (Name (codes "mediaType")) (Name (codes "schemaVersion"))
image-in_order = record { h12 = refl; h13 = refl; h14 = refl; h15 = refl; h23 = refl; h24 = refl; h25 = refl; h34 = refl; h35 = refl; h45 = refl }

names-image_members : (kind : Kind) (ms : Members) → IsSorted (object ms) → NamesFirst (image_of kind (Some (object ms))) (BadImage kind (Some (object ms)))
unfolding image_of BadImage
names-image_members kind ms s =
    let d : Data = object ms in
    let o1 = get (codes "config") d in
    let o2 = get (codes "layers") d in
    let o3 = get (codes "manifests") d in
    let o4 = get (codes "mediaType") d in
    let o5 = get (codes "schemaVersion") d in
    let s1 = Name (codes "config") in
    let s2 = Name (codes "layers") in
    let s3 = Name (codes "manifests") in
    let s4 = Name (codes "mediaType") in
    let s5 = Name (codes "schemaVersion") in
    let x1 = descriptor_of [] o1 in
    let x2 = layers_of (known_of o1) o2 in
    let x4 = media_checked kind o4 in
    let b1 = BadDescriptor (Differs []) o1 in
    let b2 = BadLayers (known_of o1) o2 in
    let b4 = BadMedia kind o4 in
    NamesFirst-map (BadImage kind (Some d)) (image.made kind)
    (both (under s1 x1) (both (under s2 x2) (both (under s3 (absent o3)) (both (under s4 x4) (under s5 (version_checked o5))))))
    (NamesFirst-five s1 s2 s3 s4 s5 b1 b2 (BadPresent o3) b4 (BadVersion o5) x1 x2 (absent o3) x4 (version_checked o5)
    (names-config o1 (sorted-get (codes "config") d s)) (names-layers_of (known_of o1) o2 (settled-config o1) (sorted-get (codes "layers") d s))
    (names-absent o3) (names-media kind o4) (names-version o5) image-in_order)

-- what is read of a tree in order is an image, or its first bad member
pub names-image : (kind : Kind) (o : Option Data) → IsSortedThere o → NamesFirst (image_of kind o) (BadImage kind o)
unfolding image_of BadImage
names-image kind None s = NamesFirst-itself Image
names-image kind (Some null) s = NamesFirst-itself Image
names-image kind (Some (boolean b)) s = NamesFirst-itself Image
names-image kind (Some (number n)) s = NamesFirst-itself Image
names-image kind (Some (string t)) s = NamesFirst-itself Image
names-image kind (Some (array ds)) s = NamesFirst-itself Image
names-image kind (Some (object ms)) s = names-image_members kind ms s
