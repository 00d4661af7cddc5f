-- What a reading that has a value has gone through.
use Rattle.std.proofs.Common.{◌≡◌, ℕ, Bool, true, false, List, cond, Option, Some, None, option_map, Result, Ok, Err, refl, ap, ◌∙◌, inl, inr}
use Rattle.std.specs.Prelude.{option_and_then, is_none}
use Rattle.std.specs.List.{list_any}
use Rattle.std.specs.Result.{result_ok}
use Rattle.std.specs.Str.{bytes_eq}
use Rattle.std.proofs.lemmas.Bool.{cases_Bool}
use Rattle.std.proofs.lemmas.Cmp.{nat_list_eq_equiv}
use Rattle.std.proofs.lemmas.Map.Views.{list_any-from_Contains, Contains-from_any}
use Rattle.std.proofs.lemmas.Slice.Eq.{bytes_eq-Decides}
use Rattle.serde_json.specs.Data.{Data, null, boolean, number, string, array, object, Members, no_members, member}
use Rattle.serde_json.specs.Find.{get, as_str}
use Rattle.json_tree.specs.declared.path.Step.{Step}
use Rattle.policy_file.specs.Judged.{Judged, ◌>>=◌, under}
use Rattle.policy_file.specs.Identity.{where_true}
use Rattle.policy_file.specs.IsRequirement.{HasOnly, HasText, IsObjectOf}
use Rattle.policy_file.specs.Members.{unknown_name, only, has_only, text_at, unless_unknown}

-- a reading that went through a step had a value there, and one after it
pub record Went {A B : Type 0} (r : Judged A) (f : A → Judged B) (y : B) : Type 0 where
  pub value : A
  pub first : r ≡ Ok value
  pub second : f value ≡ Ok y

pub went : {A B : Type 0} (r : Judged A) (f : A → Judged B) (y : B) → (r >>= f) ≡ Ok y → Went r f y
went (Ok x) f y h = record { value = x; first = refl; second = h }
went (Err e) f y h = absurd (cc h)

pub goes : {A B : Type 0} (r : Judged A) (f : A → Judged B) (x : A) (y : B) → r ≡ Ok x → f x ≡ Ok y → (r >>= f) ≡ Ok y
goes r f x y first second = rw first second

pub under-ok : {A : Type 0} (step : Step) (r : Judged A) (x : A) → under step r ≡ Ok x → r ≡ Ok x
under-ok step (Ok y) x h = h
under-ok step (Err e) x h = absurd (cc h)

pub record Maps {A B : Type 0} (f : A → B) (o : Option A) (y : B) : Type 0 where
  pub value : A
  pub there : o ≡ Some value
  pub is : f value ≡ y

pub maps : {A B : Type 0} (f : A → B) (o : Option A) (y : B) → option_map f o ≡ Some y → Maps f o y
maps f (Some x) y h = record { value = x; there = refl; is = cc h }
maps f None y h = absurd (cc h)

pub record Chains {A B : Type 0} (f : A → Option B) (o : Option A) (y : B) : Type 0 where
  pub value : A
  pub there : o ≡ Some value
  pub is : f value ≡ Some y

pub chains : {A B : Type 0} (f : A → Option B) (o : Option A) (y : B) → option_and_then f o ≡ Some y → Chains f o y
chains f (Some x) y h = record { value = x; there = refl; is = h }
chains f None y h = absurd (cc h)

pub is_text : (d : Data) (text : List ℕ) → as_str d ≡ Some text → d ≡ string text
is_text (string s) text h = let same : s ≡ text = cc h in ap string same
is_text null text h = absurd (cc h)
is_text (boolean b) text h = absurd (cc h)
is_text (number n) text h = absurd (cc h)
is_text (array ds) text h = absurd (cc h)
is_text (object ms) text h = absurd (cc h)

pub has_text : (name : List ℕ) (d : Data) (text : List ℕ) → text_at name d ≡ Some text → HasText name d text
has_text name d text h = let c = chains as_str (get name d) text h in c.there ∙ ap Some (is_text c.value text c.is)

pub text_at-has : (name : List ℕ) (d : Data) (text : List ℕ) → HasText name d text → text_at name d ≡ Some text
text_at-has name d text h = rw h refl

pub where_it_is : {A : Type 0} (b : Bool) (o : Option A) (y : A) → where_true b o ≡ Some y → (b ≡ true) × (o ≡ Some y)
where_it_is true o y h = (refl, h)
where_it_is false o y h = absurd (cc h)

pub was_ok : {A E : Type 0} (r : Result A E) (x : A) → result_ok r ≡ Some x → r ≡ Ok x
was_ok (Ok y) x h = let same : y ≡ x = cc h in ap Ok same
was_ok (Err e) x h = absurd (cc h)

pub same_bytes : (xs ys : List ℕ) → bytes_eq xs ys ≡ true → xs ≡ ys
same_bytes xs ys = (bytes_eq-Decides xs ys).0

-- ---- names

none_unknown : (names : List (List ℕ)) (k : List ℕ) (o : Option (List ℕ)) → cond (list_any (bytes_eq k) names) o (Some k) ≡ None → (list_any (bytes_eq k) names ≡ true) × (o ≡ None)
none_unknown names k o h =
    elim (cases_Bool (list_any (bytes_eq k) names)) [
      | inl known ↦ (known, rw known at h)
      | inr unknown ↦ absurd (let e : Some k ≡ None = rw unknown at h in cc)
    ]

pub only_these : (names : List (List ℕ)) (ms : Members) → unknown_name names ms ≡ None → HasOnly names ms
only_these names no_members h = tt
only_these names (member k d ms) h =
    let p = none_unknown names k (unknown_name names ms) h in (Contains-from_any same_bytes k names p.0, only_these names ms p.1)

pub unknown_name-none : (names : List (List ℕ)) (ms : Members) → HasOnly names ms → unknown_name names ms ≡ None
unknown_name-none names no_members h = refl
unknown_name-none names (member k d ms) h =
    let known : list_any (bytes_eq k) names ≡ true = list_any-from_Contains nat_list_eq_equiv k names h.0 in rw known (unknown_name-none names ms h.1)

is_none-none : (o : Option (List ℕ)) → is_none o ≡ true → o ≡ None
is_none-none None h = refl
is_none-none (Some k) h = absurd (cc h)

pub is_object_of : (names : List (List ℕ)) (d : Data) → has_only names d ≡ true → IsObjectOf names d
is_object_of names (object ms) h = only_these names ms (is_none-none (unknown_name names ms) h)
is_object_of names null h = absurd (cc h)
is_object_of names (boolean b) h = absurd (cc h)
is_object_of names (number n) h = absurd (cc h)
is_object_of names (string s) h = absurd (cc h)
is_object_of names (array ds) h = absurd (cc h)

pub has_only-object : (names : List (List ℕ)) (d : Data) → IsObjectOf names d → has_only names d ≡ true
has_only-object names (object ms) h = rw (unknown_name-none names ms h) refl
has_only-object names null h = absurd h
has_only-object names (boolean b) h = absurd h
has_only-object names (number n) h = absurd h
has_only-object names (string s) h = absurd h
has_only-object names (array ds) h = absurd h

unless_unknown-ok : (o : Option (List ℕ)) (t : Unit {0}) → unless_unknown o ≡ Ok t → o ≡ None
unless_unknown-ok None t h = refl
unless_unknown-ok (Some k) t h = absurd (cc h)

pub only-ok : (names : List (List ℕ)) (ms : Members) (t : Unit {0}) → only names ms ≡ Ok t → HasOnly names ms
only-ok names ms t h = only_these names ms (unless_unknown-ok (unknown_name names ms) t h)

pub only-has : (names : List (List ℕ)) (ms : Members) → HasOnly names ms → only names ms ≡ Ok tt
only-has names ms h = rw (unknown_name-none names ms h) refl
