-- Trees whose numbers are whole: the walk names none exactly where there is no float.
use Rattle.std.proofs.Common.{◌≡◌, ℕ, suc, ◌+◌, ◌<◌, ◌≤◌, ◌||◌, cond, Bool, true, false, List, [], ◌∷◌, length, drop, get_or, Some, Result, Ok, Err, String, Global, string_bytes, refl, sym, ap, subst, ◌∙◌, add-one}
use Rattle.std.specs.Prelude.{⊤}
use Rattle.std.proofs.lemmas.List.{at_drop_more, at_drop_all}
use Rattle.serde_json.specs.Data.{Num, unsigned, negative, float, Data, null, boolean, number, string, array, object, Items, no_items, item, Members, no_members, member}
use Rattle.serde_json.specs.Written.{has_float, items_have_float, members_have_float}
use Rattle.json_tree.specs.declared.path.Step.{Step}
use Rattle.json_tree.specs.declared.path.Step.TheVariants.{Name, Place}
use Rattle.serde_json.specs.View.{view, items_view, members_view}
use Rattle.serde_json.specs.declared.value.Value.{Value}
use Rattle.json_tree.specs.declared.fault.Fault.{Fault}
use Rattle.json_tree.specs.declared.fault.Fault.TheVariants.{Member, Memory}
use Rattle.json_tree.specs.Checked.{Checked, under, Fails}
use Rattle.oci_index.specs.Numbers.{then_checked, whole_in, whole_items, whole_members}

-- two that follow each other are whole where both are
both_whole : (s : Step) (x y : Checked ⊤) → then_checked (under s x) y ≡ Ok tt → (x ≡ Ok tt) × (y ≡ Ok tt)
both_whole s (Ok x) y h = (refl, h)
both_whole s (Err p) y h = cc h

whole_both : (s : Step) (x y : Checked ⊤) → x ≡ Ok tt → y ≡ Ok tt → then_checked (under s x) y ≡ Ok tt
whole_both s x y h k = rw (h, k) refl

either_false : (a b : Bool) → a ≡ false → b ≡ false → (a || b) ≡ false
either_false true b h k = h
either_false false b h k = k

left_false : (a b : Bool) → (a || b) ≡ false → a ≡ false
left_false true b h = h
left_false false b h = refl

right_false : (a b : Bool) → (a || b) ≡ false → b ≡ false
right_false true b h = cc h
right_false false b h = h

mutual
  pub whole-no_float : (d : Data) → whole_in d ≡ Ok tt → has_float d ≡ false
  whole-no_float null h = refl
  whole-no_float (boolean b) h = refl
  whole-no_float (number (unsigned n)) h = refl
  whole-no_float (number (negative z)) h = refl
  whole-no_float (number (float x)) h = cc h
  whole-no_float (string s) h = refl
  whole-no_float (array ds) h = whole-no_floats 0 ds h
  whole-no_float (object ms) h = whole-no_member_floats ms h

  whole-no_floats : (i : ℕ) (ds : Items) → whole_items i ds ≡ Ok tt → items_have_float ds ≡ false
  whole-no_floats i no_items h = refl
  whole-no_floats i (item d ds) h =
      let p = both_whole (Place i) (whole_in d) (whole_items (suc i) ds) h in
      either_false (has_float d) (items_have_float ds) (whole-no_float d p.0) (whole-no_floats (suc i) ds p.1)

  whole-no_member_floats : (ms : Members) → whole_members ms ≡ Ok tt → members_have_float ms ≡ false
  whole-no_member_floats no_members h = refl
  whole-no_member_floats (member k d ms) h =
      let p = both_whole (Name k) (whole_in d) (whole_members ms) h in
      either_false (has_float d) (members_have_float ms) (whole-no_float d p.0) (whole-no_member_floats ms p.1)

mutual
  pub no_float-whole : (d : Data) → has_float d ≡ false → whole_in d ≡ Ok tt
  no_float-whole null h = refl
  no_float-whole (boolean b) h = refl
  no_float-whole (number (unsigned n)) h = refl
  no_float-whole (number (negative z)) h = refl
  no_float-whole (number (float x)) h = cc h
  no_float-whole (string s) h = refl
  no_float-whole (array ds) h = no_floats-whole 0 ds h
  no_float-whole (object ms) h = no_member_floats-whole ms h

  no_floats-whole : (i : ℕ) (ds : Items) → items_have_float ds ≡ false → whole_items i ds ≡ Ok tt
  no_floats-whole i no_items h = refl
  no_floats-whole i (item d ds) h =
      whole_both (Place i) (whole_in d) (whole_items (suc i) ds)
      (no_float-whole d (left_false (has_float d) (items_have_float ds) h)) (no_floats-whole (suc i) ds (right_false (has_float d) (items_have_float ds) h))

  no_member_floats-whole : (ms : Members) → members_have_float ms ≡ false → whole_members ms ≡ Ok tt
  no_member_floats-whole no_members h = refl
  no_member_floats-whole (member k d ms) h =
      whole_both (Name k) (whole_in d) (whole_members ms)
      (no_float-whole d (left_false (has_float d) (members_have_float ms) h)) (no_member_floats-whole ms (right_false (has_float d) (members_have_float ms) h))

-- ---- loops: what is left is whole where all is

-- the first fault of two is that of the first, where it has one
then_fails : (e : Fault) (x y : Checked ⊤) → Fails e x → Fails e (then_checked x y)
then_fails (Member p) x y h = rw h refl
then_fails Memory x y h = tt

item_goes : (vs : List Value) (i : ℕ) (v : Value) → whole_items i (items_view (drop i vs)) ≡ whole_items 0 (items_view vs) → i < length vs → v ≡ get_or vs i v
    → then_checked (under (Place i) (whole_in (view v))) (whole_items (i + 1) (items_view (drop (i + 1) vs))) ≡ whole_items 0 (items_view vs)
item_goes vs i v h lt e = sym (at_drop_more (λ ws. whole_items i (items_view ws)) vs i v lt ∙ rw (← e, add-one) refl) ∙ h

pub item_more : (vs : List Value) (i : ℕ) (v : Value) (u : ⊤) → whole_items i (items_view (drop i vs)) ≡ whole_items 0 (items_view vs) → i < length vs → v ≡ get_or vs i v
    → under (Place i) (whole_in (view v)) ≡ Ok u → whole_items (i + 1) (items_view (drop (i + 1) vs)) ≡ whole_items 0 (items_view vs)
item_more vs i v u h lt e fine = sym (ap (λ x. then_checked x (whole_items (i + 1) (items_view (drop (i + 1) vs)))) fine) ∙ item_goes vs i v h lt e

pub item_stops : (vs : List Value) (i : ℕ) (v : Value) (f : Fault) → whole_items i (items_view (drop i vs)) ≡ whole_items 0 (items_view vs) → i < length vs → v ≡ get_or vs i v
    → Fails f (under (Place i) (whole_in (view v))) → Fails f (whole_items 0 (items_view vs))
item_stops vs i v f h lt e stops = subst (Fails f) (item_goes vs i v h lt e) (then_fails f (under (Place i) (whole_in (view v))) _ stops)

pub items_end : (vs : List Value) (i : ℕ) → whole_items i (items_view (drop i vs)) ≡ whole_items 0 (items_view vs) → length vs ≤ i → whole_items 0 (items_view vs) ≡ Ok tt
items_end vs i h le = sym h ∙ at_drop_all (λ ws. whole_items i (items_view ws)) vs i le

-- the same over a map's entries
member_goes : (rest after whole : List (String Global × Value)) (k : String Global) (v : Value) (name : List ℕ) → whole_members (members_view rest) ≡ whole_members (members_view whole) → rest ≡ (k, v) ∷ after → name ≡ string_bytes k
    → then_checked (under (Name name) (whole_in (view v))) (whole_members (members_view after)) ≡ whole_members (members_view whole)
member_goes rest after whole k v name h e same = sym (ap (λ ms. whole_members (members_view ms)) e ∙ rw same refl) ∙ h

pub member_more : (rest after whole : List (String Global × Value)) (k : String Global) (v : Value) (name : List ℕ) (u : ⊤) → whole_members (members_view rest) ≡ whole_members (members_view whole) → rest ≡ (k, v) ∷ after → name ≡ string_bytes k
    → under (Name name) (whole_in (view v)) ≡ Ok u → whole_members (members_view after) ≡ whole_members (members_view whole)
member_more rest after whole k v name u h e same fine = sym (ap (λ x. then_checked x (whole_members (members_view after))) fine) ∙ member_goes rest after whole k v name h e same

pub member_stops : (rest after whole : List (String Global × Value)) (k : String Global) (v : Value) (name : List ℕ) (f : Fault) → whole_members (members_view rest) ≡ whole_members (members_view whole) → rest ≡ (k, v) ∷ after → name ≡ string_bytes k
    → Fails f (under (Name name) (whole_in (view v))) → Fails f (whole_members (members_view whole))
member_stops rest after whole k v name f h e same stops = subst (Fails f) (member_goes rest after whole k v name h e same) (then_fails f (under (Name name) (whole_in (view v))) _ stops)

pub members_end : (rest whole : List (String Global × Value)) → whole_members (members_view rest) ≡ whole_members (members_view whole) → rest ≡ [] → whole_members (members_view whole) ≡ Ok tt
members_end rest whole h e = sym h ∙ ap (λ ms. whole_members (members_view ms)) e
