-- What is written is read again.
use Rattle.std.proofs.Common.{◌≡◌, ℕ, suc, ◌<◌, ◌^◌, codes, true, List, [], ◌∷◌, ◌++◌, map, Less, Greater, Option, Some, None, Ok, refl, sym, ap, ◌∙◌, arith}
use Rattle.std.proofs.lemmas.Bool.Decides.{nat_tests}
use Rattle.std.proofs.lemmas.Bool.{true_from_ne_false}
use Rattle.std.proofs.lemmas.Cmp.{nat_list_cmp_total}
use Rattle.std.specs.Ordering.{nat_cmp, ordering_reverse}
use Rattle.std.specs.Cmp.Lexicographic.{slice_cmp}
use Rattle.serde_json.specs.Data.{Data, number, string, object, unsigned, Members, no_members, member, put}
use Rattle.serde_json.specs.Find.{get_member}
use Rattle.serde_json.specs.View.{items_of}
use Rattle.skopeo_outside.specs.declared.pair.Pair.{Pair}
use Rattle.image_ref.specs.Digest.{IsDigest, digest_text}
use Rattle.image_ref.proofs.DigestTexts.{digest_of-digest_text}
use Rattle.json_tree.specs.Leaf.{text_of, whole_of, items_by, members_by, optional_list, optional_object}
use Rattle.json_tree.specs.Build.{put_all, pairs_data}
use Rattle.manifest_v2s2.specs.Image.{image_of, layers_by, media_checked}
use Rattle.manifest_v2s2.specs.Media.{media_of}
use Rattle.std.proofs.lemmas.Slice.Eq.{bytes_eq-Decides}
use Rattle.manifest_v2s2.specs.Descriptor.{descriptor_of, digest_checked, annotation_of, known_of}
use Rattle.manifest_v2s2.specs.Known.{Differs, first_size, agrees}
use Rattle.manifest_v2s2.specs.Written.{texts_data, put_urls, put_annotations, descriptor_data, image_data}
use Rattle.manifest_v2s2.specs.Writable.{AreBelow, AreInOrder, IsWritableDescriptor, known_as, AreWritable, IsWritable}
use Rattle.std.specs.List.{All}
use Rattle.std.proofs.lemmas.List.Elements.{All-head, All-tail}
use Rattle.manifest_v2s2.specs.Calls.{HasDigest, HaveDigests}
use Rattle.manifest_v2s2.specs.declared.descriptor.Descriptor.{Descriptor}
use Rattle.manifest_v2s2.specs.declared.sizes.Known.{Known}
use Rattle.manifest_v2s2.specs.declared.image.Image.{Image}
use Rattle.manifest_v2s2.specs.declared.kind.Kind.{Kind}
use Rattle.manifest_v2s2.proofs.SizeLemmas.{differs-first, agrees-not}

-- ---- texts and pairs

pub texts-again : (us : List (List ℕ)) (i : ℕ) → items_by text_of i (items_of (map string us)) ≡ Ok us
texts-again [] i = refl
texts-again (u ∷ us) i = rw (texts-again us (suc i)) refl

-- members of greater names, with one more of a still greater name, and so on
greater : (k l : List ℕ) → slice_cmp nat_cmp k l ≡ Less → slice_cmp nat_cmp l k ≡ Greater
greater k l h = nat_list_cmp_total.antisymm l k ∙ ap ordering_reverse h

front : List Pair → Members → Members
front [] ms = ms
front (p ∷ ps) ms = member p.name (string p.value) (front ps ms)

AllBelow : List Pair → List ℕ → Type 0
AllBelow [] k = Unit {0}
AllBelow (p ∷ ps) k = (slice_cmp nat_cmp p.name k ≡ Less) × AllBelow ps k

put-last : (ps : List Pair) (k : List ℕ) (d : Data) → AllBelow ps k → put k d (front ps no_members) ≡ front ps (member k d no_members)
unfolding front AllBelow
put-last [] k d h = refl
put-last (p ∷ ps) k d h = rw (greater p.name k h.0) (ap (member p.name (string p.value)) (put-last ps k d h.1))

front-append : (ps : List Pair) (q : Pair) (ms : Members) → front ps (member q.name (string q.value) ms) ≡ front (ps ++ q ∷ []) ms
unfolding front
front-append [] q ms = refl
front-append (p ∷ ps) q ms = ap (member p.name (string p.value)) (front-append ps q ms)

all_below-append : (ps : List Pair) (q : Pair) (k : List ℕ) → AllBelow ps k → slice_cmp nat_cmp q.name k ≡ Less → AllBelow (ps ++ q ∷ []) k
unfolding AllBelow
all_below-append [] q k h e = (e, tt)
all_below-append (p ∷ ps) q k h e = (h.0, all_below-append ps q k h.1 e)

all_below-trans : (ps : List Pair) (k l : List ℕ) → AllBelow ps k → slice_cmp nat_cmp k l ≡ Less → AllBelow ps l
unfolding AllBelow
all_below-trans [] k l h e = tt
all_below-trans (p ∷ ps) k l h e = (nat_list_cmp_total.trans p.name k l h.0 e, all_below-trans ps k l h.1 e)

StandAfter : List Pair → List Pair → Type 0
StandAfter ps [] = Unit {0}
StandAfter ps (q ∷ qs) = AllBelow ps q.name × StandAfter ps qs

stand_after-append : (ps : List Pair) (q : Pair) (qs : List Pair) → StandAfter ps qs → AreBelow q.name qs → StandAfter (ps ++ q ∷ []) qs
unfolding StandAfter
stand_after-append ps q [] h b = tt
stand_after-append ps q (r ∷ qs) h b = (all_below-append ps q r.name h.0 b.0, stand_after-append ps q qs h.1 b.1)

put_all-in_order : (ps qs : List Pair) → StandAfter ps qs → AreInOrder qs → put_all qs (front ps no_members) ≡ front ps (pairs_data qs)
unfolding StandAfter
put_all-in_order ps [] h o = refl
put_all-in_order ps (q ∷ qs) h o =
    ap (put_all qs) (put-last ps q.name (string q.value) h.0 ∙ front-append ps q no_members)
    ∙ put_all-in_order (ps ++ q ∷ []) qs (stand_after-append ps q qs h.1 o.0) o.1
    ∙ sym (front-append ps q (pairs_data qs))

stand_after_none : (qs : List Pair) → StandAfter [] qs
unfolding StandAfter AllBelow
stand_after_none [] = tt
stand_after_none (q ∷ qs) = (tt, stand_after_none qs)

put_all-pairs : (qs : List Pair) → AreInOrder qs → put_all qs no_members ≡ pairs_data qs
unfolding front
put_all-pairs qs o = put_all-in_order [] qs (stand_after_none qs) o

pub pairs-again : (ps : List Pair) → members_by annotation_of (pairs_data ps) ≡ Ok ps
pairs-again [] = refl
pairs-again (p ∷ ps) = rw (pairs-again ps) refl

-- ---- the members of a written descriptor

abbrev urls_part : List (List ℕ) → Option Data
urls_part [] = None
urls_part (u ∷ us) = Some (texts_data (u ∷ us))

abbrev annotations_part : List Pair → Option Data
annotations_part [] = None
annotations_part (p ∷ ps) = Some (object (put_all (p ∷ ps) no_members))

abbrev members_data : List Pair → List (List ℕ) → ℕ → List ℕ → List ℕ → Members
members_data ps us n m t =
    put_annotations ps (put_urls us (put (codes "size") (number (unsigned n)) (put (codes "mediaType") (string m) (put (codes "digest") (string t) no_members))))

get-annotations : (ps : List Pair) (us : List (List ℕ)) (n : ℕ) (m t : List ℕ) → get_member (codes "annotations") (members_data ps us n m t) ≡ annotations_part ps
get-annotations [] [] n m t = refl
get-annotations [] (u ∷ us) n m t = refl
get-annotations (p ∷ ps) [] n m t = refl
get-annotations (p ∷ ps) (u ∷ us) n m t = refl

get-digest : (ps : List Pair) (us : List (List ℕ)) (n : ℕ) (m t : List ℕ) → get_member (codes "digest") (members_data ps us n m t) ≡ Some (string t)
get-digest [] [] n m t = refl
get-digest [] (u ∷ us) n m t = refl
get-digest (p ∷ ps) [] n m t = refl
get-digest (p ∷ ps) (u ∷ us) n m t = refl

get-media : (ps : List Pair) (us : List (List ℕ)) (n : ℕ) (m t : List ℕ) → get_member (codes "mediaType") (members_data ps us n m t) ≡ Some (string m)
get-media [] [] n m t = refl
get-media [] (u ∷ us) n m t = refl
get-media (p ∷ ps) [] n m t = refl
get-media (p ∷ ps) (u ∷ us) n m t = refl

get-size : (ps : List Pair) (us : List (List ℕ)) (n : ℕ) (m t : List ℕ) → get_member (codes "size") (members_data ps us n m t) ≡ Some (number (unsigned n))
get-size [] [] n m t = refl
get-size [] (u ∷ us) n m t = refl
get-size (p ∷ ps) [] n m t = refl
get-size (p ∷ ps) (u ∷ us) n m t = refl

get-urls : (ps : List Pair) (us : List (List ℕ)) (n : ℕ) (m t : List ℕ) → get_member (codes "urls") (members_data ps us n m t) ≡ urls_part us
get-urls [] [] n m t = refl
get-urls [] (u ∷ us) n m t = refl
get-urls (p ∷ ps) [] n m t = refl
get-urls (p ∷ ps) (u ∷ us) n m t = refl

annotations-again : (ps : List Pair) → AreInOrder ps → optional_object annotation_of (annotations_part ps) ≡ Ok ps
annotations-again [] o = refl
annotations-again (p ∷ ps) o = rw (put_all-pairs (p ∷ ps) o) (pairs-again (p ∷ ps))

urls-again : (us : List (List ℕ)) → optional_list text_of (urls_part us) ≡ Ok us
urls-again [] = refl
urls-again (u ∷ us) = texts-again (u ∷ us) 0

pub size-again : (n : ℕ) → n < 2 ^ 63 → whole_of (Some (number (unsigned n))) ≡ Ok n
size-again n h = grind (arith, nat_tests)

pub digest-again : (d : List ℕ) → IsDigest d → digest_checked (Some (string (digest_text d))) ≡ Ok d
digest-again d h = rw (digest_of-digest_text d h) refl

pub agrees-if : (known : List Known) (d : List ℕ) (n : ℕ) → (Differs known d n → ⊥) → agrees (first_size known d) n ≡ true
agrees-if known d n h = true_from_ne_false (agrees (first_size known d) n) (λ e. h (differs-first known d n (agrees-not known d n e)))

pub descriptor-again : (known : List Known) (x : Descriptor) → HasDigest x → IsWritableDescriptor x → (Differs known x.digest x.size → ⊥) → descriptor_of known (Some (descriptor_data x)) ≡ Ok x
unfolding descriptor_data
descriptor-again known x is w agree =
    let a = get-annotations x.annotations x.urls x.size x.media (digest_text x.digest) in
    let d = get-digest x.annotations x.urls x.size x.media (digest_text x.digest) in
    let m = get-media x.annotations x.urls x.size x.media (digest_text x.digest) in
    let s = get-size x.annotations x.urls x.size x.media (digest_text x.digest) in
    let u = get-urls x.annotations x.urls x.size x.media (digest_text x.digest) in
    rw (a, d, m, s, u, annotations-again x.annotations w.annotations, digest-again x.digest is, size-again x.size w.size, urls-again x.urls, agrees-if known x.digest x.size agree) refl

pub known-again : (x : Descriptor) → HasDigest x → IsWritableDescriptor x → known_of (Some (descriptor_data x)) ≡ known_as x ∷ []
unfolding descriptor_data
known-again x is w =
    let d = get-digest x.annotations x.urls x.size x.media (digest_text x.digest) in
    let s = get-size x.annotations x.urls x.size x.media (digest_text x.digest) in
    rw (d, s, digest-again x.digest is, size-again x.size w.size) refl

layers-again : (known : List Known) (i : ℕ) (xs : List Descriptor) → All HasDigest xs → AreWritable known xs → layers_by known i (items_of (map descriptor_data xs)) ≡ Ok xs
layers-again known i [] are w = refl
layers-again known i (x ∷ xs) are w =
    let is = All-head HasDigest x xs are in
    rw (known-again x is w.0, descriptor-again known x is w.0 w.1.0, layers-again (known ++ known_as x ∷ []) (suc i) xs (All-tail HasDigest x xs are) w.1.1) refl

pub none-before : (d : List ℕ) (n : ℕ) → Differs [] d n → ⊥
none-before d n h = h

media-again : (kind : Kind) → media_checked kind (Some (string (media_of kind))) ≡ Ok tt
media-again kind = rw ((bytes_eq-Decides (media_of kind) (media_of kind)).1 refl) refl

-- what is written for an image is read as that image
pub image-again : (i : Image) → HaveDigests i → IsWritable i → image_of i.kind (Some (image_data i)) ≡ Ok i
unfolding image_data image_of
image-again i are w =
    let config = descriptor-again [] i.config are.config w.config (none-before i.config.digest i.config.size) in
    let layers = layers-again (known_as i.config ∷ []) 0 i.layers are.layers w.layers in
    let known = known-again i.config are.config w.config in
    rw (config, known, layers, media-again i.kind) refl
