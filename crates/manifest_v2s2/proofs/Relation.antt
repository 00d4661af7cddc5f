-- The readings are the relations.
use Rattle.std.proofs.Common.{◌≡◌, ℕ, suc, ◌<◌, ◌^◌, nat_lt, cond, codes, Bool, true, false, List, [], ◌∷◌, map, Option, Some, None, Ok, Err, refl, sym, ap, ◌∙◌, arith}
use Rattle.std.proofs.lemmas.Bool.Decides.{nat_tests}
use Rattle.serde_json.specs.Data.{Data, null, boolean, number, string, array, object, unsigned, negative, float, Items, no_items, item, Members, no_members, member}
use Rattle.serde_json.specs.Find.{get}
use Rattle.serde_json.specs.View.{items_of}
use Rattle.skopeo_outside.specs.declared.pair.Pair.{Pair}
use Rattle.image_ref.specs.Digest.{IsDigest, digest_text, digest_of}
use Rattle.image_ref.proofs.DigestTexts.{digest_of-some}
use Rattle.json_tree.specs.declared.path.Step.{Step}
use Rattle.json_tree.specs.declared.path.Step.TheVariants.{Name, Place}
use Rattle.json_tree.specs.Checked.{Checked, under, both, checked_map, with_first}
use Rattle.json_tree.specs.Leaf.{text_of, whole_of, items_by, members_by, optional_list, optional_object}
use Rattle.json_tree.specs.Build.{pairs_data}
use Rattle.manifest_v2s2.specs.Descriptor.{made, descriptor_of, digest_checked, annotation_of, agreeing, checked_some}
use Rattle.manifest_v2s2.specs.Known.{Differs, first_size, agrees}
use Rattle.manifest_v2s2.specs.IsImage.{AreTexts, ArePairs, IsDescriptor}
use Rattle.manifest_v2s2.specs.declared.descriptor.Descriptor.{Descriptor}
use Rattle.manifest_v2s2.specs.declared.sizes.Known.{Known}
use Rattle.manifest_v2s2.proofs.SizeLemmas.{IsSettled, agrees-settles}

pub both_ok : {A B : Type 0} (x : Checked A) (y : Checked B) (a : A) (b : B) → both x y ≡ Ok (a, b) → (x ≡ Ok a) × (y ≡ Ok b)
both_ok (Ok x) (Ok y) a b h =
    let e = ap (λ (r : Checked _). fst_or (x, y) r) h in (ap Ok (ap (λ p. p.0) e), ap Ok (ap (λ p. p.1) e))
  where
    fst_or : {A B : Type 0} → (A × B) → Checked (A × B) → A × B
    fst_or p (Ok q) = q
    fst_or p (Err e) = p
both_ok (Ok x) (Err q) a b h = cc h
both_ok (Err p) (Ok y) a b h = cc h
both_ok (Err p) (Err q) a b h = cc h

pub under_ok : {A : Type 0} (s : Step) (x : Checked A) (a : A) → under s x ≡ Ok a → x ≡ Ok a
under_ok s (Ok x) a h = h
under_ok s (Err p) a h = cc h

pub text_ok : (o : Option Data) (t : List ℕ) → text_of o ≡ Ok t → o ≡ Some (string t)
text_ok None t h = cc h
text_ok (Some null) t h = cc h
text_ok (Some (boolean b)) t h = cc h
text_ok (Some (number n)) t h = cc h
text_ok (Some (string s)) t h = let e : s ≡ t = cc h in rw e refl
text_ok (Some (array ds)) t h = cc h
text_ok (Some (object ms)) t h = cc h

pub with_first_ok : {A : Type 0} (x : Checked A) (y : Checked (List A)) (us : List A) → with_first x y ≡ Ok us → (a : A) × (rest : List A) × (x ≡ Ok a) × (y ≡ Ok rest) × (us ≡ a ∷ rest)
with_first_ok (Ok x) (Ok y) us h = (x, y, refl, refl, sym (cc h))
with_first_ok (Ok x) (Err q) us h = cc h
with_first_ok (Err p) (Ok y) us h = cc h
with_first_ok (Err p) (Err q) us h = cc h

item_same : (d e : Data) (ds es : Items) → d ≡ e → ds ≡ es → item d ds ≡ item e es
item_same d e ds es h k = rw (h, k) refl

member_same : (k l : List ℕ) (d e : Data) (ms ns : Members) → k ≡ l → d ≡ e → ms ≡ ns → member k d ms ≡ member l e ns
member_same k l d e ms ns g h i = rw (g, h, i) refl

items_ok : (i : ℕ) (ds : Items) (us : List (List ℕ)) → items_by text_of i ds ≡ Ok us → ds ≡ items_of (map string us)
items_ok i no_items [] h = refl
items_ok i no_items (u ∷ us) h = cc h
items_ok i (item d ds) us h =
    let w = with_first_ok (under (Place i) (text_of (Some d))) (items_by text_of (suc i) ds) us h in
    let one : Some d ≡ Some (string w.0) = text_ok (Some d) w.0 (under_ok (Place i) (text_of (Some d)) w.0 w.2) in
    let same : d ≡ string w.0 = cc one in
    item_same d (string w.0) ds (items_of (map string w.1)) same (items_ok (suc i) ds w.1 w.3) ∙ ap (λ v. items_of (map string v)) (sym w.4)

texts_ok : (o : Option Data) (us : List (List ℕ)) → optional_list text_of o ≡ Ok us → AreTexts o us
texts_ok None us h = sym (cc h)
texts_ok (Some null) us h = sym (cc h)
texts_ok (Some (boolean b)) us h = cc h
texts_ok (Some (number n)) us h = cc h
texts_ok (Some (string s)) us h = cc h
texts_ok (Some (array ds)) us h = items_ok 0 ds us h
texts_ok (Some (object ms)) us h = cc h

pair_ok : (k : List ℕ) (o : Option Data) (p : Pair) → annotation_of k o ≡ Ok p → (o ≡ Some (string p.value)) × (p.name ≡ k)
pair_ok k o p h = go (text_of o) refl h
  where
    go : (r : Checked (List ℕ)) → text_of o ≡ r → checked_map (λ t. record { name = k; value = t }) r ≡ Ok p → (o ≡ Some (string p.value)) × (p.name ≡ k)
    go (Ok t) e h =
        let is : record { name = k; value = t } ≡ p = cc h in
        (text_ok o p.value (e ∙ ap (λ (q : Pair). Ok q.value) is), sym (ap (λ (q : Pair). q.name) is))
    go (Err q) e h = cc h

pairs_ok : (ms : Members) (ps : List Pair) → members_by annotation_of ms ≡ Ok ps → ms ≡ pairs_data ps
pairs_ok no_members [] h = refl
pairs_ok no_members (p ∷ ps) h = cc h
pairs_ok (member k d ms) ps h =
    let w = with_first_ok (under (Name k) (annotation_of k (Some d))) (members_by annotation_of ms) ps h in
    let one = pair_ok k (Some d) w.0 (under_ok (Name k) (annotation_of k (Some d)) w.0 w.2) in
    let same : d ≡ string w.0.value = cc one.0 in
    member_same k w.0.name d (string w.0.value) ms (pairs_data w.1) (sym one.1) same (pairs_ok ms w.1 w.3) ∙ ap pairs_data (sym w.4)

object_ok : (o : Option Data) (ps : List Pair) → optional_object annotation_of o ≡ Ok ps → ArePairs o ps
object_ok None ps h = sym (cc h)
object_ok (Some null) ps h = sym (cc h)
object_ok (Some (boolean b)) ps h = cc h
object_ok (Some (number n)) ps h = cc h
object_ok (Some (string s)) ps h = cc h
object_ok (Some (array ds)) ps h = cc h
object_ok (Some (object ms)) ps h = pairs_ok ms ps h

digest_ok : (o : Option Data) (d : List ℕ) → digest_checked o ≡ Ok d → (o ≡ Some (string (digest_text d))) × IsDigest d
digest_ok None d h = cc h
digest_ok (Some null) d h = cc h
digest_ok (Some (boolean b)) d h = cc h
digest_ok (Some (number n)) d h = cc h
digest_ok (Some (string s)) d h = found (digest_of s) refl h
  where
    found : (o : Option (List ℕ)) → digest_of s ≡ o → checked_some o ≡ Ok d → (Some (string s) ≡ Some (string (digest_text d))) × IsDigest d
    found (Some x) e h =
        let same : x ≡ d = cc h in
        let w = digest_of-some s d (e ∙ ap Some same) in
        (ap (λ t. Some (string t)) w.1, w.0)
    found None e h = cc h
digest_ok (Some (array ds)) d h = cc h
digest_ok (Some (object ms)) d h = cc h

whole_ok : (o : Option Data) (n : ℕ) → whole_of o ≡ Ok n → (o ≡ Some (number (unsigned n))) × (n < 2 ^ 63)
whole_ok None n h = cc h
whole_ok (Some null) n h = cc h
whole_ok (Some (boolean b)) n h = cc h
whole_ok (Some (number (unsigned m))) n h = small (nat_lt m (2 ^ 63)) refl h
  where
    small : (b : Bool) → nat_lt m (2 ^ 63) ≡ b → cond {A = Checked ℕ} b (Ok m) (Err []) ≡ Ok n → (Some (number (unsigned m)) ≡ Some (number (unsigned n))) × (n < 2 ^ 63)
    small true e h = let same : m ≡ n = cc h in let lt : m < 2 ^ 63 = grind (arith, nat_tests) in (ap (λ k. Some (number (unsigned k))) same, rw (← same) lt)
    small false e h = cc h
whole_ok (Some (number (negative z))) n h = cc h
whole_ok (Some (number (float x))) n h = cc h
whole_ok (Some (string s)) n h = cc h
whole_ok (Some (array ds)) n h = cc h
whole_ok (Some (object ms)) n h = cc h

agreeing_ok : (known : List Known) (x : Checked (List ℕ)) (y : Checked ℕ) (n : ℕ) → agreeing known x y ≡ Ok n → (y ≡ Ok n) × ((d : List ℕ) → x ≡ Ok d → agrees (first_size known d) n ≡ true)
agreeing_ok known (Ok d) (Ok m) n h = let w = tested (agrees (first_size known d) m) refl h in (ap Ok w.0, λ e q. w.1 e (cc q))
  where
    tested : (b : Bool) → agrees (first_size known d) m ≡ b → cond {A = Checked ℕ} b (Ok m) (Err []) ≡ Ok n → (m ≡ n) × ((e : List ℕ) → d ≡ e → agrees (first_size known e) n ≡ true)
    tested true t h = let same : m ≡ n = cc h in (same, λ e is. rw (← is, ← same) t)
    tested false t h = cc h
agreeing_ok known (Ok d) (Err p) n h = cc h
agreeing_ok known (Err q) y n h = (h, λ d e. cc e)

pub map_ok : {A B : Type 0} (f : A → B) (x : Checked A) (b : B) → checked_map f x ≡ Ok b → (a : A) × (x ≡ Ok a) × (f a ≡ b)
map_ok f (Ok a) b h = (a, refl, cc h)
map_ok f (Err p) b h = cc h

-- what is read as a descriptor is one, and no earlier one gives its digest another size
pub descriptor-ok : (known : List Known) → IsSettled known → (ms : Members) (x : Descriptor) → descriptor_of known (Some (object ms)) ≡ Ok x → IsDescriptor (object ms) x × (Differs known x.digest x.size → ⊥)
descriptor-ok known settled ms x h =
    let d : Data = object ms in
    let m = map_ok made _ x h in
    let p = m.0 in
    let b1 = both_ok _ _ p.0 p.1 m.1 in
    let b2 = both_ok _ _ p.1.0 p.1.1 b1.1 in
    let b3 = both_ok _ _ p.1.1.0 p.1.1.1 b2.1 in
    let b4 = both_ok _ _ p.1.1.1.0 p.1.1.1.1 b3.1 in
    let annotations = object_ok (get (codes "annotations") d) p.0 (under_ok _ _ p.0 b1.0) in
    let read = under_ok _ (digest_checked (get (codes "digest") d)) p.1.0 b2.0 in
    let digest = digest_ok (get (codes "digest") d) p.1.0 read in
    let media = text_ok (get (codes "mediaType") d) p.1.1.0 (under_ok _ _ p.1.1.0 b3.0) in
    let agree = agreeing_ok known (digest_checked (get (codes "digest") d)) (whole_of (get (codes "size") d)) p.1.1.1.0 (under_ok _ _ p.1.1.1.0 b4.0) in
    let size = whole_ok (get (codes "size") d) p.1.1.1.0 agree.0 in
    let urls = texts_ok (get (codes "urls") d) p.1.1.1.1 (under_ok _ _ p.1.1.1.1 b4.1) in
    rw (← m.2) (
      record {
        media = media;
        digest = digest.0;
        bytes = digest.1;
        size = size.0;
        whole = size.1;
        urls = urls;
        annotations = annotations;
      },
      λ d. agrees-settles known p.1.0 p.1.1.1.0 (agree.1 p.1.0 read) (settled.settled p.1.0 p.1.1.1.0 d),
    )
