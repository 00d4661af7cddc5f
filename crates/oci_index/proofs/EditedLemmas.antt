-- The index that is written: the entries that stay, and that it is read again.
use Rattle.std.proofs.Common.{◌≡◌, ◌∙◌, ◌+◌, ◌<◌, ◌≤◌, ◌||◌, ℕ, suc, codes, Bool, true, false, cond, List, [], ◌∷◌, ◌++◌, append-nil, length, take, get_or, map, filter, Option, Some, None, option_map, Bor, Vec, Global, Ordering, Less, Equal, Greater, refl, sym, ap, arith}
use Rattle.std.specs.Ordering.{nat_cmp, match_ordering}
use Rattle.std.specs.Cmp.Lexicographic.{slice_cmp}
use Rattle.std.proofs.lemmas.List.{take_more, take_all, map-append}
use Rattle.std.proofs.lemmas.List.Elements.{filter-append}
use Rattle.serde_json.specs.Data.{Data, null, boolean, number, string, array, object, unsigned, Items, no_items, item, Members, no_members, member, put, depth, items_depth, members_depth}
use Rattle.serde_json.specs.Find.{get, get_member}
use Rattle.serde_json.specs.Read.{max_depth}
use Rattle.serde_json.specs.View.{view, items_of, items_view}
use Rattle.serde_json.specs.Written.{has_float, items_have_float, members_have_float}
use Rattle.serde_json.specs.declared.value.Value.{Value, Array}
use Rattle.serde_json.proofs.Views.{view-Array}
use Rattle.json_tree.proofs.SortedLemmas.{by_ordering}
use Rattle.image_ref.specs.Digest.{digest_text}
use Rattle.oci_index.specs.declared.edit.NewEntry.{NewEntry}
use Rattle.oci_index.specs.Chosen.{ref_key}
use Rattle.oci_index.specs.Edited.{list_of, items_at, stays, put_name, entry_data, no_index, members_in, manifests_in, entries_after, edited, IsWritable, IsWritableThere}

-- ---- a loop over entries

one_more : (P : Data → Bool) (vs : List Value) (i : ℕ) (v : Value) → i < length vs → v ≡ get_or vs i v → filter P (map view (take (i + 1) vs)) ≡ filter P (map view (take i vs)) ++ filter P (view v ∷ [])
one_more P vs i v lt e =
    ap (λ ws. filter P (map view ws)) (take_more vs i v lt) ∙ ap (filter P) (map-append view (take i vs) (get_or vs i v ∷ []))
    ∙ filter-append P (map view (take i vs)) (view (get_or vs i v) ∷ []) ∙ ap (λ w. filter P (map view (take i vs)) ++ filter P (view w ∷ [])) (sym e)

pub kept_more : (P : Data → Bool) (vs : List Value) (i : ℕ) (v w : Value) (kept next : List Value) → map view kept ≡ filter P (map view (take i vs)) → i < length vs → v ≡ get_or vs i v → P (view v) ≡ true → view w ≡ view v → next ≡ kept ++ w ∷ [] → map view next ≡ filter P (map view (take (i + 1) vs))
kept_more P vs i v w kept next h lt e p same pushed =
    ap (map view) pushed ∙ map-append view kept (w ∷ []) ∙ ap (λ d. map view kept ++ d ∷ []) same ∙ ap (λ l. l ++ view v ∷ []) h
    ∙ sym (one_more P vs i v lt e ∙ ap (λ b. filter P (map view (take i vs)) ++ cond b (view v ∷ []) []) p)

pub kept_same : (P : Data → Bool) (vs : List Value) (i : ℕ) (v : Value) (kept : List Value) → map view kept ≡ filter P (map view (take i vs)) → i < length vs → v ≡ get_or vs i v → P (view v) ≡ false → map view kept ≡ filter P (map view (take (i + 1) vs))
kept_same P vs i v kept h lt e p =
    h ∙ sym (append-nil (filter P (map view (take i vs)))) ∙ sym (one_more P vs i v lt e ∙ ap (λ b. filter P (map view (take i vs)) ++ cond b (view v ∷ []) []) p)

pub kept_all : (P : Data → Bool) (vs : List Value) (i : ℕ) (kept : List Value) → map view kept ≡ filter P (map view (take i vs)) → length vs ≤ i → map view kept ≡ filter P (map view vs)
kept_all P vs i kept h le = h ∙ ap (λ ws. filter P (map view ws)) (take_all i vs le)

-- the items of a list of values
pub list_of-items : (ds : List Data) → list_of (items_of ds) ≡ ds
list_of-items [] = refl
list_of-items (d ∷ ds) = ap (λ more. d ∷ more) (list_of-items ds)

-- so those of a value that is a list
pub array_items : (value : Option (Bor Value)) (v : Bor Value) (a : Vec Value Global) → value ≡ Some v → v.now ≡ Array a → items_at (option_map (λ (x : Bor Value). view x.now) value) ≡ map view a.items
array_items value v a e f = rw e (ap (λ d. items_at (Some d)) (ap view f ∙ view-Array a) ∙ list_of-items (map view a.items))

-- ---- no floats, and little depth

either_false : (a b : Bool) → a ≡ false → b ≡ false → (a || b) ≡ false
either_false true b h k = h
either_false false b h k = k

left_false : (a b : Bool) → (a || b) ≡ false → a ≡ false
left_false true b h = h
left_false false b h = refl

right_false : (a b : Bool) → (a || b) ≡ false → b ≡ false
right_false true b h = cc h
right_false false b h = h

-- no float, and nested at most n deep
record IsPlain (n : ℕ) (d : Data) : Type 0 where
  pub whole : has_float d ≡ false
  pub shallow : depth d ≤ n

record AreItemsPlain (n : ℕ) (ds : Items) : Type 0 where
  pub whole : items_have_float ds ≡ false
  pub shallow : items_depth ds ≤ n

record AreMembersPlain (n : ℕ) (ms : Members) : Type 0 where
  pub whole : members_have_float ms ≡ false
  pub shallow : members_depth ms ≤ n

abbrev ArePlain : ℕ → List Data → Type 0
ArePlain n [] = Unit {0}
ArePlain n (d ∷ ds) = IsPlain n d × ArePlain n ds

abbrev IsPlainThere : ℕ → Option Data → Type 0
IsPlainThere n None = Unit {0}
IsPlainThere n (Some d) = IsPlain n d

no_plain : (n : ℕ) → AreMembersPlain n no_members
no_plain n = record { whole = refl; shallow = omega arith }

plain_member : (n : ℕ) (k : List ℕ) (d : Data) (ms : Members) → IsPlain n d → AreMembersPlain n ms → AreMembersPlain n (member k d ms)
plain_member n k d ms h m = record {
  whole = either_false (has_float d) (members_have_float ms) h.whole m.whole;
  shallow = omega (arith, h.shallow, m.shallow);
}

first_plain : (n : ℕ) (k : List ℕ) (d : Data) (ms : Members) → AreMembersPlain n (member k d ms) → IsPlain n d
first_plain n k d ms h = record { whole = left_false (has_float d) (members_have_float ms) h.whole; shallow = omega (arith, h.shallow) }

rest_plain : (n : ℕ) (k : List ℕ) (d : Data) (ms : Members) → AreMembersPlain n (member k d ms) → AreMembersPlain n ms
rest_plain n k d ms h = record { whole = right_false (has_float d) (members_have_float ms) h.whole; shallow = omega (arith, h.shallow) }

plain_put : (n : ℕ) (k : List ℕ) (d : Data) (ms : Members) → IsPlain n d → AreMembersPlain n ms → AreMembersPlain n (put k d ms)
plain_put n k d no_members h m = plain_member n k d no_members h m
plain_put n k d (member l e ms) h m =
    let first = first_plain n l e ms m in
    let rest = rest_plain n l e ms m in
    by_ordering (AreMembersPlain n) (slice_cmp nat_cmp k l) (member k d (member l e ms)) (member l d ms) (member l e (put k d ms))
    (λ _. plain_member n k d (member l e ms) h m) (λ _. plain_member n l d ms h rest) (λ _. plain_member n l e (put k d ms) first (plain_put n k d ms h rest))

found_plain : (n : ℕ) (o : Ordering) (e : Data) (rest : Option Data) → IsPlain n e → IsPlainThere n rest → IsPlainThere n (match_ordering o rest (Some e) rest)
found_plain n Less e rest h r = r
found_plain n Equal e rest h r = h
found_plain n Greater e rest h r = r

plain_get : (n : ℕ) (k : List ℕ) (ms : Members) → AreMembersPlain n ms → IsPlainThere n (get_member k ms)
plain_get n k no_members m = tt
plain_get n k (member l e ms) m = found_plain n (slice_cmp nat_cmp k l) e (get_member k ms) (first_plain n l e ms m) (plain_get n k ms (rest_plain n l e ms m))

plain_object : (n : ℕ) (ms : Members) → AreMembersPlain n ms → IsPlain (suc n) (object ms)
plain_object n ms h = record { whole = h.whole; shallow = omega (arith, h.shallow) }

plain_array : (n : ℕ) (ds : Items) → AreItemsPlain n ds → IsPlain (suc n) (array ds)
plain_array n ds h = record { whole = h.whole; shallow = omega (arith, h.shallow) }

plain_text : (n : ℕ) (s : List ℕ) → IsPlain n (string s)
plain_text n s = record { whole = refl; shallow = omega arith }

plain_number : (n m : ℕ) → IsPlain n (number (unsigned m))
plain_number n m = record { whole = refl; shallow = omega arith }

deeper : (m n : ℕ) (d : Data) → m ≤ n → IsPlain m d → IsPlain n d
deeper m n d le h = record { whole = h.whole; shallow = omega (arith, le, h.shallow) }

-- items and lists of data
plain_list : (n : ℕ) (ds : Items) → AreItemsPlain n ds → ArePlain n (list_of ds)
plain_list n no_items h = tt
plain_list n (item d ds) h = (
  record { whole = left_false (has_float d) (items_have_float ds) h.whole; shallow = omega (arith, h.shallow) },
  plain_list n ds (record { whole = right_false (has_float d) (items_have_float ds) h.whole; shallow = omega (arith, h.shallow) }),
)

plain_items : (n : ℕ) (ds : List Data) → ArePlain n ds → AreItemsPlain n (items_of ds)
plain_items n [] h = record { whole = refl; shallow = omega arith }
plain_items n (d ∷ ds) h =
    let rest = plain_items n ds h.1 in record {
      whole = either_false (has_float d) (items_have_float (items_of ds)) h.0.whole rest.whole;
      shallow = omega (arith, h.0.shallow, rest.shallow);
    }

plain_filter : (n : ℕ) (P : Data → Bool) (ds : List Data) → ArePlain n ds → ArePlain n (filter P ds)
plain_filter n P [] h = tt
plain_filter n P (d ∷ ds) h = by (P d) (plain_filter n P ds h.1)
  where
    by : (b : Bool) → ArePlain n (filter P ds) → ArePlain n (cond b (d ∷ filter P ds) (filter P ds))
    by true rest = (h.0, rest)
    by false rest = rest

plain_last : (n : ℕ) (ds : List Data) (e : Data) → ArePlain n ds → IsPlain n e → ArePlain n (ds ++ e ∷ [])
plain_last n [] e h k = (k, tt)
plain_last n (d ∷ ds) e h k = (h.0, plain_last n ds e h.1 k)

plain_name : (name : Option (List ℕ)) (ms : Members) → AreMembersPlain 1 ms → AreMembersPlain 1 (put_name name ms)
plain_name None ms h = h
plain_name (Some name) ms h = plain_put 1 _ _ ms (plain_object 0 _ (plain_put 0 ref_key (string name) no_members (plain_text 0 name) (no_plain 0))) h

plain_entry : (e : NewEntry) → IsPlain 2 (entry_data e)
unfolding entry_data
plain_entry e =
    plain_object 1 _ (plain_put 1 (codes "size") (number (unsigned e.size)) _ (plain_number 1 e.size) (plain_put 1 (codes "mediaType") (string e.media) _ (plain_text 1 e.media)
    (plain_put 1 (codes "digest") (string (digest_text e.digest)) _ (plain_text 1 _) (plain_name e.name no_members (no_plain 1)))))

plain_at : (o : Option Data) → IsPlainThere 126 o → ArePlain 125 (items_at o)
plain_at None h = tt
plain_at (Some null) h = tt
plain_at (Some (boolean b)) h = tt
plain_at (Some (number n)) h = tt
plain_at (Some (string s)) h = tt
plain_at (Some (array ds)) h = plain_list 125 ds (record { whole = h.whole; shallow = omega (arith, h.shallow) })
plain_at (Some (object ms)) h = tt

plain_begun : AreMembersPlain 126 no_index
plain_begun = plain_put 126 (codes "schemaVersion") (number (unsigned 2)) no_members (plain_number 126 2) (no_plain 126)

plain_old : (old : Option Data) → IsWritableThere old → AreMembersPlain 126 (members_in old)
plain_old None h = plain_begun
plain_old (Some null) h = plain_begun
plain_old (Some (boolean b)) h = plain_begun
plain_old (Some (number n)) h = plain_begun
plain_old (Some (string s)) h = plain_begun
plain_old (Some (array ds)) h = plain_begun
plain_old (Some (object ms)) h = record { whole = h.whole; shallow = omega (arith, h.shallow) }

plain_manifests : (old : Option Data) → IsWritableThere old → IsPlainThere 126 (manifests_in old)
plain_manifests None h = tt
plain_manifests (Some null) h = tt
plain_manifests (Some (boolean b)) h = tt
plain_manifests (Some (number n)) h = tt
plain_manifests (Some (string s)) h = tt
plain_manifests (Some (array ds)) h = tt
plain_manifests (Some (object ms)) h = plain_get 126 (codes "manifests") ms (plain_old (Some (object ms)) h)

-- what is written has no float and is not too deep to be read again
pub writable : (old : Option Data) (e : NewEntry) → IsWritableThere old → IsWritable (edited old e)
unfolding edited
writable old e h =
    let before = plain_old old h in
    let kept = plain_filter 125 (stays e.name (digest_text e.digest)) (items_at (manifests_in old)) (plain_at (manifests_in old) (plain_manifests old h)) in
    let all = plain_last 125 _ (entry_data e) kept (deeper 2 125 (entry_data e) (omega arith) (plain_entry e)) in
    let new = plain_object 126 _ (plain_put 126 (codes "manifests") _ (members_in old) (plain_array 125 _ (plain_items 125 _ all)) before) in
    record { whole = new.whole; shallow = omega (arith, new.shallow) }
