-- Readings put together name the first bad member of all.
use Rattle.std.proofs.Common.{◌≡◌, ◌⊎◌, inl, inr, ℕ, suc, ◌<◌, ◌≤◌, nat_lt, cond, Bool, true, false, List, [], ◌∷◌, length, Option, Some, None, Ok, Err, refl, ap, ◌∙◌, arith}
use Rattle.std.proofs.lemmas.Cmp.{nat_list_cmp_total}
use Rattle.std.proofs.lemmas.Bool.Decides.{nat_tests}
use Rattle.std.proofs.lemmas.Bool.{cases_eq}
use Rattle.json_tree.specs.declared.path.Step.{Step}
use Rattle.json_tree.specs.declared.path.Step.TheVariants.{Name, Place}
use Rattle.json_tree.specs.Checked.{Checked, under, both, checked_map}
use Rattle.json_tree.specs.First.{Path, IsBefore, IsAtMost, IsNoLater, IsFirst, NamesFirst, Below, Itself, Nothing, ◌or◌, BadItems, BadMembers, BadText, BadOptionalList, BadOptionalObject}
use Rattle.json_tree.specs.Leaf.{text_of, items_by, members_by, optional_list, optional_object}
use Rattle.json_tree.specs.Sorted.{ItemsAreSorted, MembersAreSorted, IsBelowAll, IsSortedThere}
use Rattle.serde_json.specs.Data.{Data, null, boolean, number, string, array, object, Items, no_items, item, Members, no_members, member}

-- every member of the one set begins with an earlier step than each of the other
abbrev pub HeadBefore : Path → Path → Type 0
HeadBefore [] q = ⊥
HeadBefore (s ∷ p) [] = ⊥
HeadBefore (s ∷ p) (t ∷ q) = IsBefore s t

abbrev pub StandsBefore : (Path → Type 0) → (Path → Type 0) → Type 0
StandsBefore A B = (p q : Path) → A p → B q → HeadBefore p q

pub no_later-length : (p q : Path) → IsNoLater p q → length p ≤ length q
no_later-length p q (inl lt) = omega arith
no_later-length p q (inr e) = omega (arith, e.0)

head-at_most : (p q : Path) → HeadBefore p q → IsAtMost p q
head-at_most [] q h = absurd h
head-at_most (s ∷ p) [] h = absurd h
head-at_most (s ∷ p) (t ∷ q) h = inl h

lt_or_eq : (m n : ℕ) → m ≤ n → (m < n) ⊎ (m ≡ n)
lt_or_eq m n h = elim (cases_eq m n) [ inl e ↦ inr e | inr ne ↦ inl (omega arith) ]

pub no_later-by_head : (p q : Path) → HeadBefore p q → length p ≤ length q → IsNoLater p q
no_later-by_head p q h le =
    elim (lt_or_eq (length p) (length q) le) [ inl lt ↦ inl lt | inr e ↦ inr (e, head-at_most p q h) ]

-- a nearer path of the second set
first-second : (A B : Path → Type 0) (p q : Path) → IsFirst A p → IsFirst B q → length q < length p → IsFirst (A or B) q
first-second A B p q a b lt = record {
  here = inr b.here;
  first = λ r h. elim h [
    | inl in_a ↦ let le = no_later-length p r (a.first r in_a) in inl (omega (arith, le, lt))
    | inr in_b ↦ b.first r in_b
  ];
}

first-first : (A B : Path → Type 0) (p q : Path) → IsFirst A p → IsFirst B q → length p ≤ length q → StandsBefore A B → IsFirst (A or B) p
first-first A B p q a b le before = record {
  here = inl a.here;
  first = λ r h. elim h [
    | inl in_a ↦ a.first r in_a
    | inr in_b ↦ let far = no_later-length q r (b.first r in_b) in no_later-by_head p r (before p r a.here in_b) (omega (arith, le, far))
  ];
}

names-nearer : (A B : Path → Type 0) (p q : Path) (t : Bool) → (t ≡ true → length q < length p) → (t ≡ false → length p ≤ length q)
    → IsFirst A p → IsFirst B q → StandsBefore A B → IsFirst (A or B) (cond t q p)
names-nearer A B p q true lt le a b before = first-second A B p q a b (lt refl)
names-nearer A B p q false lt le a b before = first-first A B p q a b (le refl) before

pub NamesFirst-both : {X Y : Type 0} (A B : Path → Type 0) (x : Checked X) (y : Checked Y) → NamesFirst x A → NamesFirst y B → StandsBefore A B → NamesFirst (both x y) (A or B)
NamesFirst-both A B (Ok x) (Ok y) a b before = λ q h. elim h [ inl in_a ↦ a q in_a | inr in_b ↦ b q in_b ]
NamesFirst-both A B (Ok x) (Err q) a b before = record {
  here = inr b.here;
  first = λ r h. elim h [ inl in_a ↦ absurd (a r in_a) | inr in_b ↦ b.first r in_b ];
}
NamesFirst-both A B (Err p) (Ok y) a b before = record {
  here = inl a.here;
  first = λ r h. elim h [ inl in_a ↦ a.first r in_a | inr in_b ↦ absurd (b r in_b) ];
}
NamesFirst-both A B (Err p) (Err q) a b before =
    names-nearer A B p q (nat_lt (length q) (length p)) (λ t. grind (arith, nat_tests)) (λ t. grind (arith, nat_tests)) a b before

pub NamesFirst-map : {X Y : Type 0} (A : Path → Type 0) (f : X → Y) (x : Checked X) → NamesFirst x A → NamesFirst (checked_map f x) A
NamesFirst-map A f (Ok x) a = a
NamesFirst-map A f (Err p) a = a

no_later-under : (s : Step) (p q : Path) → IsNoLater p q → IsNoLater (s ∷ p) (s ∷ q)
no_later-under s p q (inl lt) = inl (omega arith)
no_later-under s p q (inr e) = inr (ap suc e.0, inr (refl, e.1))

first-below : (s : Step) (A : Path → Type 0) (p : Path) → IsFirst A p → (q : Path) → Below s A q → IsNoLater (s ∷ p) q
first-below s A p a [] h = absurd h
first-below s A p a (t ∷ q) h = rw (← h.0) (no_later-under s p q (a.first q h.1))

none-below : (s : Step) (A : Path → Type 0) → ((q : Path) → A q → ⊥) → (q : Path) → Below s A q → ⊥
none-below s A a [] h = h
none-below s A a (t ∷ q) h = a q h.1

pub NamesFirst-under : {X : Type 0} (s : Step) (A : Path → Type 0) (x : Checked X) → NamesFirst x A → NamesFirst (under s x) (Below s A)
NamesFirst-under s A (Ok x) a = none-below s A a
NamesFirst-under s A (Err p) a = record { here = (refl, a.here); first = first-below s A p a }

pub NamesFirst-itself : (X : Type 0) → NamesFirst {A = X} (Err []) Itself
NamesFirst-itself X = record { here = refl; first = λ q e. rw e (inr (refl, tt)) }

-- ---- which sets stand before which

pub StandsBefore-below : (s t : Step) (A B : Path → Type 0) → IsBefore s t → StandsBefore (Below s A) (Below t B)
StandsBefore-below s t A B h [] q a b = absurd a
StandsBefore-below s t A B h (u ∷ p) [] a b = absurd b
StandsBefore-below s t A B h (u ∷ p) (v ∷ q) a b = rw (← a.0, ← b.0) h

pub StandsBefore-or : (A B C : Path → Type 0) → StandsBefore A B → StandsBefore A C → StandsBefore A (B or C)
StandsBefore-or A B C ab ac p q a h = elim h [ inl b ↦ ab p q a b | inr c ↦ ac p q a c ]

pub StandsBefore-nothing : (A : Path → Type 0) → StandsBefore A Nothing
StandsBefore-nothing A p q a h = absurd h

-- ---- lists and objects

StandsBefore-items : (A : Path → Type 0) (B : Option Data → Path → Type 0) (i j : ℕ) (ds : Items) → i < j → StandsBefore (Below (Place i) A) (BadItems B j ds)
StandsBefore-items A B i j no_items lt = StandsBefore-nothing (Below (Place i) A)
StandsBefore-items A B i j (item d ds) lt =
    StandsBefore-or (Below (Place i) A) (Below (Place j) (B (Some d))) (BadItems B (suc j) ds)
    (StandsBefore-below (Place i) (Place j) A (B (Some d)) lt) (StandsBefore-items A B i (suc j) ds (omega arith))

pub NamesFirst-items : {X : Type 0} (f : Option Data → Checked X) (B : Option Data → Path → Type 0) (i : ℕ) (ds : Items) → ItemsAreSorted ds
    → ((o : Option Data) → IsSortedThere o → NamesFirst (f o) (B o)) → NamesFirst (items_by f i ds) (BadItems B i ds)
NamesFirst-items f B i no_items s h = λ q b. b
NamesFirst-items f B i (item d ds) s h =
    let one = under (Place i) (f (Some d)) in
    let rest = items_by f (suc i) ds in
    NamesFirst-map (BadItems B i (item d ds)) (λ p. p.0 ∷ p.1) (both one rest)
    (NamesFirst-both (Below (Place i) (B (Some d))) (BadItems B (suc i) ds) one rest
    (NamesFirst-under (Place i) (B (Some d)) (f (Some d)) (h (Some d) s.0)) (NamesFirst-items f B (suc i) ds s.1 h)
    (StandsBefore-items (B (Some d)) B i (suc i) ds (omega arith)))

StandsBefore-members : (A : Path → Type 0) (B : Option Data → Path → Type 0) (k : List ℕ) (ms : Members) → IsBelowAll k ms → StandsBefore (Below (Name k) A) (BadMembers B ms)
StandsBefore-members A B k no_members h = StandsBefore-nothing (Below (Name k) A)
StandsBefore-members A B k (member l d ms) h =
    StandsBefore-or (Below (Name k) A) (Below (Name l) (B (Some d))) (BadMembers B ms)
    (StandsBefore-below (Name k) (Name l) A (B (Some d)) h.0) (StandsBefore-members A B k ms h.1)

pub NamesFirst-members : {X : Type 0} (f : List ℕ → Option Data → Checked X) (B : Option Data → Path → Type 0) (ms : Members) → MembersAreSorted ms
    → ((k : List ℕ) (o : Option Data) → IsSortedThere o → NamesFirst (f k o) (B o)) → NamesFirst (members_by f ms) (BadMembers B ms)
NamesFirst-members f B no_members s h = λ q b. b
NamesFirst-members f B (member k d ms) s h =
    let one = under (Name k) (f k (Some d)) in
    let rest = members_by f ms in
    NamesFirst-map (BadMembers B (member k d ms)) (λ p. p.0 ∷ p.1) (both one rest)
    (NamesFirst-both (Below (Name k) (B (Some d))) (BadMembers B ms) one rest
    (NamesFirst-under (Name k) (B (Some d)) (f k (Some d)) (h k (Some d) s.1.0)) (NamesFirst-members f B ms s.1.1 h)
    (StandsBefore-members (B (Some d)) B k ms s.0))

pub NamesFirst-text : (o : Option Data) → NamesFirst (text_of o) (BadText o)
NamesFirst-text None = NamesFirst-itself (List ℕ)
NamesFirst-text (Some null) = NamesFirst-itself (List ℕ)
NamesFirst-text (Some (boolean b)) = NamesFirst-itself (List ℕ)
NamesFirst-text (Some (number n)) = NamesFirst-itself (List ℕ)
NamesFirst-text (Some (string s)) = λ q b. b
NamesFirst-text (Some (array ds)) = NamesFirst-itself (List ℕ)
NamesFirst-text (Some (object ms)) = NamesFirst-itself (List ℕ)

pub NamesFirst-optional_list : {X : Type 0} (f : Option Data → Checked X) (B : Option Data → Path → Type 0) (o : Option Data) → IsSortedThere o
    → ((o : Option Data) → IsSortedThere o → NamesFirst (f o) (B o)) → NamesFirst (optional_list f o) (BadOptionalList B o)
NamesFirst-optional_list f B None s h = λ q b. b
NamesFirst-optional_list f B (Some null) s h = λ q b. b
NamesFirst-optional_list {X} f B (Some (boolean b)) s h = NamesFirst-itself (List X)
NamesFirst-optional_list {X} f B (Some (number n)) s h = NamesFirst-itself (List X)
NamesFirst-optional_list {X} f B (Some (string t)) s h = NamesFirst-itself (List X)
NamesFirst-optional_list f B (Some (array ds)) s h = NamesFirst-items f B 0 ds s h
NamesFirst-optional_list {X} f B (Some (object ms)) s h = NamesFirst-itself (List X)

pub NamesFirst-optional_object : {X : Type 0} (f : List ℕ → Option Data → Checked X) (B : Option Data → Path → Type 0) (o : Option Data) → IsSortedThere o
    → ((k : List ℕ) (o : Option Data) → IsSortedThere o → NamesFirst (f k o) (B o)) → NamesFirst (optional_object f o) (BadOptionalObject B o)
NamesFirst-optional_object f B None s h = λ q b. b
NamesFirst-optional_object f B (Some null) s h = λ q b. b
NamesFirst-optional_object {X} f B (Some (boolean b)) s h = NamesFirst-itself (List X)
NamesFirst-optional_object {X} f B (Some (number n)) s h = NamesFirst-itself (List X)
NamesFirst-optional_object {X} f B (Some (string t)) s h = NamesFirst-itself (List X)
NamesFirst-optional_object {X} f B (Some (array ds)) s h = NamesFirst-itself (List X)
NamesFirst-optional_object f B (Some (object ms)) s h = NamesFirst-members f B ms s h

-- ---- the members of an object, one by one

abbrev HeadAfter : Step → Path → Type 0
HeadAfter s [] = ⊥
HeadAfter s (t ∷ q) = IsBefore s t

-- each member of the set begins with a later step
abbrev pub IsAhead : Step → (Path → Type 0) → Type 0
IsAhead s R = (q : Path) → R q → HeadAfter s q

pub ahead-below : (s t : Step) (B : Path → Type 0) → IsBefore s t → IsAhead s (Below t B)
ahead-below s t B h [] b = absurd b
ahead-below s t B h (u ∷ q) b = rw (← b.0) h

pub ahead-or : (s : Step) (A B : Path → Type 0) → IsAhead s A → IsAhead s B → IsAhead s (A or B)
ahead-or s A B a b q h = elim h [ inl in_a ↦ a q in_a | inr in_b ↦ b q in_b ]

ahead-stands : (s : Step) (A R : Path → Type 0) → IsAhead s R → StandsBefore (Below s A) R
ahead-stands s A R h [] q a r = absurd a
ahead-stands s A R h (u ∷ p) q a r = by_head u q (rw a.0 at (h q r))
  where
    by_head : (u : Step) (q : Path) → HeadAfter u q → HeadBefore (u ∷ p) q
    by_head u [] g = absurd g
    by_head u (t ∷ q) g = g

-- one more member in front of those that are read
pub NamesFirst-member : {X Y : Type 0} (s : Step) (A R : Path → Type 0) (x : Checked X) (y : Checked Y) → NamesFirst x A → NamesFirst y R → IsAhead s R → NamesFirst (both (under s x) y) (Below s A or R)
NamesFirst-member s A R x y a r h = NamesFirst-both (Below s A) R (under s x) y (NamesFirst-under s A x a) r (ahead-stands s A R h)

pub NamesFirst-or_nothing : {X : Type 0} (A : Path → Type 0) (x : Checked X) → NamesFirst x A → NamesFirst x (A or Nothing)
NamesFirst-or_nothing A (Ok x) a = λ q h. elim h [ inl in_a ↦ a q in_a | inr none ↦ none ]
NamesFirst-or_nothing A (Err p) a = record { here = inl a.here; first = λ q h. elim h [ inl in_a ↦ a.first q in_a | inr none ↦ absurd none ] }

-- five members, whose steps stand in order
pub record IsInOrder (s1 s2 s3 s4 s5 : Step) : Type 0 where
  pub h12 : IsBefore s1 s2
  pub h13 : IsBefore s1 s3
  pub h14 : IsBefore s1 s4
  pub h15 : IsBefore s1 s5
  pub h23 : IsBefore s2 s3
  pub h24 : IsBefore s2 s4
  pub h25 : IsBefore s2 s5
  pub h34 : IsBefore s3 s4
  pub h35 : IsBefore s3 s5
  pub h45 : IsBefore s4 s5

pub NamesFirst-five : {X1 X2 X3 X4 X5 : Type 0} (s1 s2 s3 s4 s5 : Step) (b1 b2 b3 b4 b5 : Path → Type 0) (x1 : Checked X1) (x2 : Checked X2) (x3 : Checked X3) (x4 : Checked X4) (x5 : Checked X5)
    → NamesFirst x1 b1 → NamesFirst x2 b2 → NamesFirst x3 b3 → NamesFirst x4 b4 → NamesFirst x5 b5 → IsInOrder s1 s2 s3 s4 s5
    → NamesFirst (both (under s1 x1) (both (under s2 x2) (both (under s3 x3) (both (under s4 x4) (under s5 x5))))) (Below s1 b1 or (Below s2 b2 or (Below s3 b3 or (Below s4 b4 or Below s5 b5))))
NamesFirst-five s1 s2 s3 s4 s5 b1 b2 b3 b4 b5 x1 x2 x3 x4 x5 n1 n2 n3 n4 n5 h =
    let r5 = Below s5 b5 in
    let r4 = Below s4 b4 or r5 in
    let r3 = Below s3 b3 or r4 in
    let r2 = Below s2 b2 or r3 in
    let y5 = under s5 x5 in
    let y4 = both (under s4 x4) y5 in
    let y3 = both (under s3 x3) y4 in
    let y2 = both (under s2 x2) y3 in
    let m5 = NamesFirst-under s5 b5 x5 n5 in
    let m4 = NamesFirst-member s4 b4 r5 x4 y5 n4 m5 (ahead-below s4 s5 b5 h.h45) in
    let m3 = NamesFirst-member s3 b3 r4 x3 y4 n3 m4 (ahead-or s3 (Below s4 b4) r5 (ahead-below s3 s4 b4 h.h34) (ahead-below s3 s5 b5 h.h35)) in
    let m2 = NamesFirst-member s2 b2 r3 x2 y3 n2 m3 (ahead-or s2 (Below s3 b3) r4 (ahead-below s2 s3 b3 h.h23) (ahead-or s2 (Below s4 b4) r5 (ahead-below s2 s4 b4 h.h24) (ahead-below s2 s5 b5 h.h25))) in
    NamesFirst-member s1 b1 r2 x1 y2 n1 m2 (ahead-or s1 (Below s2 b2) r3 (ahead-below s1 s2 b2 h.h12) (ahead-or s1 (Below s3 b3) r4 (ahead-below s1 s3 b3 h.h13) (ahead-or s1 (Below s4 b4) r5 (ahead-below s1 s4 b4 h.h14) (ahead-below s1 s5 b5 h.h15))))

-- ---- the order of paths

step-trans : (s t u : Step) → IsBefore s t → IsBefore t u → IsBefore s u
step-trans (Name a) (Name b) (Name c) h k = nat_list_cmp_total.trans a b c h k
step-trans (Name a) (Name b) (Place l) h k = absurd k
step-trans (Name a) (Place j) u h k = absurd h
step-trans (Place i) (Name b) u h k = absurd h
step-trans (Place i) (Place j) (Name c) h k = absurd k
step-trans (Place i) (Place j) (Place l) h k = omega arith

at_most-trans : (p q r : Path) → IsAtMost p q → IsAtMost q r → IsAtMost p r
at_most-trans [] [] r h k = k
at_most-trans [] (t ∷ q) r h k = absurd h
at_most-trans (s ∷ p) [] r h k = absurd h
at_most-trans (s ∷ p) (t ∷ q) [] h k = absurd k
at_most-trans (s ∷ p) (t ∷ q) (u ∷ r) h k =
    elim h [
      | inl st ↦ elim k [ inl tu ↦ inl (step-trans s t u st tu) | inr e ↦ inl (rw (← e.0) st) ]
      | inr e ↦ elim k [ inl tu ↦ inl (rw e.0 tu) | inr f ↦ inr (e.0 ∙ f.0, at_most-trans p q r e.1 f.1) ]
    ]

at_most-refl : (p : Path) → IsAtMost p p
at_most-refl [] = tt
at_most-refl (s ∷ p) = inr (refl, at_most-refl p)

pub no_later-refl : (p : Path) → IsNoLater p p
no_later-refl p = inr (refl, at_most-refl p)

pub no_later-trans : (p q r : Path) → IsNoLater p q → IsNoLater q r → IsNoLater p r
no_later-trans p q r (inl lt) k = let le = no_later-length q r k in inl (omega arith)
no_later-trans p q r (inr e) (inl lt) = inl (omega (arith, e.0))
no_later-trans p q r (inr e) (inr f) = inr (e.0 ∙ f.0, at_most-trans p q r e.1 f.1)

-- a reading that names the first of some bad members names the first of more, none of which comes sooner
pub NamesFirst-more : {X : Type 0} (A B : Path → Type 0) (x : Checked X) → NamesFirst x A → ((p : Path) → A p → B p)
    → ((q : Path) → B q → (p : Path) × A p × IsNoLater p q) → NamesFirst x B
NamesFirst-more A B (Ok x) a wider sooner = λ q b. let s = sooner q b in a s.0 s.1
NamesFirst-more A B (Err p) a wider sooner = record {
  here = wider p a.here;
  first = λ q b. let s = sooner q b in no_later-trans p s.0 q (a.first s.0 s.1) s.2;
}
