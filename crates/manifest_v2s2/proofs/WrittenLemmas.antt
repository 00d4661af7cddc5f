-- What is written has no float, nests little, and is read again as the same value.
use Rattle.std.proofs.Common.{◌≡◌, ℕ, suc, ◌≤◌, ◌==◌, ◌||◌, codes, Bool, true, false, List, [], ◌∷◌, map, length, refl, ap, ◌∙◌, arith}
use Rattle.std.specs.Ordering.{nat_cmp}
use Rattle.std.specs.Cmp.Lexicographic.{slice_cmp}
use Rattle.serde_json.specs.Data.{Data, number, string, array, object, unsigned, Items, Members, no_members, member, put, depth, items_depth, members_depth}
use Rattle.serde_json.specs.View.{items_of}
use Rattle.serde_json.specs.Written.{has_float, items_have_float, members_have_float}
use Rattle.skopeo_outside.specs.declared.pair.Pair.{Pair}
use Rattle.image_ref.specs.Digest.{digest_text}
use Rattle.json_tree.specs.Build.{put_all}
use Rattle.json_tree.proofs.SortedLemmas.{by_ordering}
use Rattle.manifest_v2s2.specs.Media.{media_of}
use Rattle.manifest_v2s2.specs.Written.{texts_data, put_urls, put_annotations, descriptor_data, image_data}
use Rattle.manifest_v2s2.specs.declared.descriptor.Descriptor.{Descriptor}
use Rattle.manifest_v2s2.specs.declared.image.Image.{Image}

-- ---- no floats, and little depth

either_false : (a b : Bool) → a ≡ false → b ≡ false → (a || b) ≡ false
either_false true b h k = h
either_false false b h k = k

-- no float, and nested at most n deep
pub record IsPlain (n : ℕ) (d : Data) : Type 0 where
  pub whole : has_float d ≡ false
  pub shallow : depth d ≤ n

pub record ItemsArePlain (n : ℕ) (ds : Items) : Type 0 where
  pub whole : items_have_float ds ≡ false
  pub shallow : items_depth ds ≤ n

pub record MembersArePlain (n : ℕ) (ms : Members) : Type 0 where
  pub whole : members_have_float ms ≡ false
  pub shallow : members_depth ms ≤ n

pub no_plain : (n : ℕ) → MembersArePlain n no_members
no_plain n = record { whole = refl; shallow = omega arith }

plain_member : (n : ℕ) (k : List ℕ) (d : Data) (ms : Members) → IsPlain n d → MembersArePlain n ms → MembersArePlain n (member k d ms)
plain_member n k d ms h m = record {
  whole = either_false (has_float d) (members_have_float ms) h.whole m.whole;
  shallow = omega (arith, h.shallow, m.shallow);
}

first_plain : (n : ℕ) (k : List ℕ) (d : Data) (ms : Members) → MembersArePlain n (member k d ms) → IsPlain n d
first_plain n k d ms h = record { whole = left (has_float d) (members_have_float ms) h.whole; shallow = omega (arith, h.shallow) }
  where
    left : (a b : Bool) → (a || b) ≡ false → a ≡ false
    left true b h = h
    left false b h = refl

rest_plain : (n : ℕ) (k : List ℕ) (d : Data) (ms : Members) → MembersArePlain n (member k d ms) → MembersArePlain n ms
rest_plain n k d ms h = record { whole = right (has_float d) (members_have_float ms) h.whole; shallow = omega (arith, h.shallow) }
  where
    right : (a b : Bool) → (a || b) ≡ false → b ≡ false
    right true b h = cc h
    right false b h = h

pub plain_put : (n : ℕ) (k : List ℕ) (d : Data) (ms : Members) → IsPlain n d → MembersArePlain n ms → MembersArePlain n (put k d ms)
plain_put n k d no_members h m = plain_member n k d no_members h m
plain_put n k d (member l e ms) h m =
    let first = first_plain n l e ms m in
    let rest = rest_plain n l e ms m in
    by_ordering (MembersArePlain n) (slice_cmp nat_cmp k l) (member k d (member l e ms)) (member l d ms) (member l e (put k d ms))
    (λ _. plain_member n k d (member l e ms) h m) (λ _. plain_member n l d ms h rest) (λ _. plain_member n l e (put k d ms) first (plain_put n k d ms h rest))

pub plain_object : (n : ℕ) (ms : Members) → MembersArePlain n ms → IsPlain (suc n) (object ms)
plain_object n ms h = record { whole = h.whole; shallow = omega (arith, h.shallow) }

pub plain_text : (n : ℕ) (s : List ℕ) → IsPlain n (string s)
plain_text n s = record { whole = refl; shallow = omega arith }

pub plain_number : (n m : ℕ) → IsPlain n (number (unsigned m))
plain_number n m = record { whole = refl; shallow = omega arith }

pub plain_items : {A : Type 0} (n : ℕ) (f : A → Data) → ((x : A) → IsPlain n (f x)) → (xs : List A) → ItemsArePlain n (items_of (map f xs))
plain_items n f h [] = record { whole = refl; shallow = omega arith }
plain_items n f h (x ∷ xs) =
    let one = h x in
    let rest = plain_items n f h xs in record {
      whole = either_false (has_float (f x)) (items_have_float (items_of (map f xs))) one.whole rest.whole;
      shallow = omega (arith, one.shallow, rest.shallow);
    }

pub plain_array : (n : ℕ) (ds : Items) → ItemsArePlain n ds → IsPlain (suc n) (array ds)
plain_array n ds h = record { whole = h.whole; shallow = omega (arith, h.shallow) }

plain_pairs : (n : ℕ) (ps : List Pair) (ms : Members) → MembersArePlain n ms → MembersArePlain n (put_all ps ms)
plain_pairs n [] ms h = h
plain_pairs n (p ∷ ps) ms h = plain_pairs n ps (put p.name (string p.value) ms) (plain_put n p.name (string p.value) ms (plain_text n p.value) h)

plain_urls : (us : List (List ℕ)) (ms : Members) → MembersArePlain 1 ms → MembersArePlain 1 (put_urls us ms)
plain_urls [] ms h = h
plain_urls (u ∷ us) ms h = plain_put 1 _ _ ms (plain_array 0 _ (plain_items 0 string (λ s. plain_text 0 s) (u ∷ us))) h

plain_annotations : (ps : List Pair) (ms : Members) → MembersArePlain 1 ms → MembersArePlain 1 (put_annotations ps ms)
plain_annotations [] ms h = h
plain_annotations (p ∷ ps) ms h = plain_put 1 _ _ ms (plain_object 0 _ (plain_pairs 0 (p ∷ ps) no_members (no_plain 0))) h

pub plain_descriptor : (x : Descriptor) → IsPlain 2 (descriptor_data x)
unfolding descriptor_data
plain_descriptor x =
    plain_object 1 _ (plain_annotations x.annotations _ (plain_urls x.urls _
    (plain_put 1 (codes "size") (number (unsigned x.size)) _ (plain_number 1 x.size) (plain_put 1 (codes "mediaType") (string x.media) _ (plain_text 1 x.media) (plain_put 1 (codes "digest") (string (digest_text x.digest)) no_members (plain_text 1 _) (no_plain 1))))))

pub deeper : (n : ℕ) (d : Data) → IsPlain n d → IsPlain (suc n) d
deeper n d h = record { whole = h.whole; shallow = omega (arith, h.shallow) }

pub plain_image : (i : Image) → IsPlain 4 (image_data i)
unfolding image_data
plain_image i =
    plain_object 3 _ (plain_put 3 (codes "schemaVersion") (number (unsigned 2)) _ (plain_number 3 2) (plain_put 3 (codes "mediaType") (string (media_of i.kind)) _ (plain_text 3 (media_of i.kind))
    (plain_put 3 (codes "layers") _ _ (plain_array 2 _ (plain_items 2 descriptor_data plain_descriptor i.layers)) (plain_put 3 (codes "config") (descriptor_data i.config) no_members (deeper 2 _ (plain_descriptor i.config)) (no_plain 3)))))

pub put_urls-some : (us : List (List ℕ)) (new ms : Members) (d : Data) → false ≡ (length us == 0) → d ≡ texts_data us → new ≡ put (codes "urls") d ms → new ≡ put_urls us ms
put_urls-some [] new ms d h e f = cc h
put_urls-some (u ∷ us) new ms d h e f = f ∙ ap (λ x. put (codes "urls") x ms) e

pub shallow_enough : (d : Data) → IsPlain 4 d → depth d ≤ 127
shallow_enough d h = omega (arith, h.shallow)
