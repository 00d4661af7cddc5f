-- Loops that make trees of lists.
use Rattle.std.proofs.Common.{◌≡◌, Bor, Result, Ok, Err, ℕ, ◌+◌, ◌<◌, ◌≤◌, List, [], ◌∷◌, ◌++◌, length, take, drop, get_or, map, String, Global, string_bytes, below_more, sym, ap, subst, ◌∙◌, arith}
use Rattle.std.specs.List.{All}
use Rattle.std.specs.Prelude.{IsOk, OnOk}
use Rattle.std.proofs.lemmas.List.{get_or_default, map-append, take_more, take_all, drop_more, drop_all}
use Rattle.std.specs.BTreeMap.{insert_entry}
use Rattle.std.specs.String.{string_cmp}
use Rattle.serde_json.specs.Data.{Data, string, Members, put}
use Rattle.serde_json.specs.View.{view, members_view}
use Rattle.serde_json.specs.declared.value.Value.{Value}
use Rattle.serde_json.proofs.Views.{members_view-insert_entry}
use Rattle.skopeo_outside.specs.declared.pair.Pair.{Pair}
use Rattle.skopeo_outside.specs.declared.stop.Memory.{Memory}
use Rattle.json_tree.specs.Build.{WasMade, put_all}

pub put-insert : (es new : List (String Global × Value)) (k : String Global) (v : Value) (name : List ℕ) → new ≡ insert_entry string_cmp es k v → string_bytes k ≡ name → members_view new ≡ put name (view v) (members_view es)
put-insert es new k v name e same = ap members_view e ∙ members_view-insert_entry es k v ∙ ap (λ n. put n (view v) (members_view es)) same

-- the values so far are those of the items so far
pub one_value_more : {A : Type 0} (f : A → Data) (xs : List A) (i : ℕ) (x : A) (vs ws : List Value) (v : Value) → map view vs ≡ map f (take i xs) → i < length xs → x ≡ get_or xs i x → view v ≡ f x → ws ≡ vs ++ v ∷ [] → map view ws ≡ map f (take (i + 1) xs)
one_value_more f xs i x vs ws v h lt e seen pushed =
    ap (map view) pushed ∙ map-append view vs (v ∷ []) ∙ ap (λ t. t ++ view v ∷ []) h ∙ ap (λ d. map f (take i xs) ++ d ∷ []) (seen ∙ ap f e)
    ∙ sym (ap (map f) (take_more xs i x lt) ∙ map-append f (take i xs) (get_or xs i x ∷ []))

pub all_values : {A : Type 0} (f : A → Data) (xs : List A) (i : ℕ) (vs : List Value) → map view vs ≡ map f (take i xs) → length xs ≤ i → map view vs ≡ map f xs
all_values f xs i vs h le = h ∙ ap (map f) (take_all i xs le)

pub one_pair_more : (ps : List Pair) (i : ℕ) (p : Pair) (ms next whole : Members) → put_all (drop i ps) ms ≡ whole → i < length ps → p ≡ get_or ps i p → next ≡ put p.name (string p.value) ms → put_all (drop (i + 1) ps) next ≡ whole
one_pair_more ps i p ms next whole h lt e is =
    ap (put_all (drop (i + 1) ps)) is ∙ sym (ap (λ qs. put_all qs ms) (drop_more ps i p lt ∙ ap (λ q. q ∷ drop (i + 1) ps) (sym e))) ∙ h

pub all_pairs : (ps : List Pair) (i : ℕ) (ms whole : Members) → put_all (drop i ps) ms ≡ whole → length ps ≤ i → ms ≡ whole
all_pairs ps i ms whole h le = sym (ap (λ qs. put_all qs ms) (drop_all i ps le)) ∙ h

pub put-same : (new ms : Members) (n name : List ℕ) (v value : Data) → new ≡ put n v ms → n ≡ name → v ≡ value → new ≡ put name value ms
put-same new ms n name v value h e f = rw (← e, ← f) h

-- P holds of the items before place i
pub record HoldsBefore {A : Type 0} (P : A → Type 0) (xs : List A) (i : ℕ) : Type 0 where
  pub holds : (k : ℕ) → k < i → (d : A) → P (get_or xs k d)

pub holds_before-none : {A : Type 0} (P : A → Type 0) (xs : List A) → HoldsBefore P xs 0
holds_before-none P xs = record { holds = λ k lt d. absurd (omega arith) }

pub holds_before-more : {A : Type 0} (P : A → Type 0) (xs : List A) (i : ℕ) (x : A) → HoldsBefore P xs i → i < length xs → x ≡ get_or xs i x → P x → HoldsBefore P xs (i + 1)
holds_before-more {A} P xs i x h lt e p = record {
  holds = below_more (λ k. (d : A) → P (get_or xs k d)) i h.holds (λ d. let same : x ≡ get_or xs i d = e ∙ get_or_default xs i x d lt in subst P same p);
}

pub holds_before-all : {A : Type 0} (P : A → Type 0) (xs : List A) (i : ℕ) → HoldsBefore P xs i → length xs ≤ i → All P xs
holds_before-all P xs i h le = λ k d lt. h.holds k (omega arith) d

was_made : {A : Type 0} (Post : Bor A → Result Value Memory → Type 0) (P : A → Type 0) → ((x : Bor A) (r : Result Value Memory) → Post x r → OnOk r (P x.now)) → (item : A) → WasMade Post item → P item
was_made Post P h item m = subst P m.of (by_answer m.answer m.made (h m.arg m.answer m.post))
  where
    by_answer : (r : Result Value Memory) → IsOk r → OnOk r (P m.arg.now) → P m.arg.now
    by_answer (Ok v) ok p = p
    by_answer (Err e) ok p = cc ok

-- what a function ensures of an item that it makes holds of each that was made
pub All-was_made : {A : Type 0} (Post : Bor A → Result Value Memory → Type 0) (P : A → Type 0) (xs : List A) → All (WasMade Post) xs → ((x : Bor A) (r : Result Value Memory) → Post x r → OnOk r (P x.now)) → All P xs
All-was_made Post P xs made h = λ k d lt. was_made Post P h (get_or xs k d) (made k d lt)
