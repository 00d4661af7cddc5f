-- Steps that come to what a tree says, or to want of memory.
use Rattle.std.proofs.Common.{◌≡◌, ◌∙◌, ◌≤◌, ◌<◌, Bool, true, false, ℕ, zero, suc, List, [], ◌∷◌, ◌⊎◌, Option, Some, None, Result, Ok, Err, IfSome, length, slice_get, inl, inr, refl, sym, ap, subst, arith}
use Rattle.skopeo_outside.specs.Tree.{Tree}
use Rattle.skopeo_outside.specs.Outside.{Rose}
use Rattle.skopeo_outside.specs.LaneTold.{LaneTold, IsLater}
use Rattle.skopeo_outside.specs.LaneLaws.{later_then, later_same, lane_at, each_same, each_then}
use Rattle.skopeo_outside.specs.Seen.{Seen, OnFirst, OnEach, KeepsFrom}
use Rattle.skopeo_outside.specs.Steps.{goes, stops, ◌>>=◌, given, Course, Ends}
use Rattle.skopeo_outside.specs.OnLanes.{LaneStep, SeenStep, on_first}
use Rattle.copy_engine.proofs.LiftLemmas.{first_with}
use Rattle.skopeo_app.specs.Headline.{first_tree}
use Rattle.skopeo_app.specs.Complete.{IsCalm}
use Rattle.skopeo_app.specs.ByTree.{and_then}

-- ---- answers

-- an answer is want of memory
abbrev pub wants : {A E : Type 0} → (E → Bool) → Result A E → Bool
wants memory (Ok x) = false
wants memory (Err e) = memory e

-- want of memory, or this answer
abbrev pub Comes : {A E : Type 0} → (E → Bool) → Result A E → Result A E → Type 0
Comes memory r w = (wants memory r ≡ true) ⊎ (r ≡ w)

pub value_is : {A E : Type 0} (memory : E → Bool) (x : A) (w : Result A E) → Comes memory (Ok x) w → Ok x ≡ w
value_is memory x w (inl bad) = let n : false ≡ true = bad in cc
value_is memory x w (inr is) = is

pub comes_as : {A E : Type 0} (memory : E → Bool) (r w v : Result A E) → Comes memory r w → w ≡ v → Comes memory r v
comes_as memory r w v comes is = subst (λ u. Comes memory r u) is comes

pub flat : {A B C E : Type 0} (m : Result A E) (f : A → Result B E) (g : B → Result C E) → and_then (and_then m f) g ≡ and_then m (λ x. and_then (f x) g)
flat (Ok x) f g = refl
flat (Err e) f g = refl

pub refused_as : {A B E : Type 0} (memory : E → Bool) (e : E) (w : Result A E) (F : Result A E → Result B E) → ((d : E) → F (Err d) ≡ Err d) → Comes {A = A} memory (Err e) w → Comes {A = B} memory (Err e) (F w)
refused_as memory e w F stop (inl is) = inl is
refused_as memory e w F stop (inr is) = inr (sym (stop e) ∙ ap F is)

-- ---- one lane, of which the files tell the tree

abbrev pub Tells : Tree → LaneTold → Type 0
Tells tree a = a.files.tree ≡ Some tree

pub told : (tree : Tree) (P : Tree → Type 0) (x : Option Tree) → x ≡ Some tree → IfSome x P → P tree
told tree P x e h = subst (λ v. IfSome v P) e h

-- a step that touches nothing comes to this
abbrev pub Equals : {A E : Type 0} → Tree → LaneStep E A → Result A E → Type 0
Equals {A} {E} tree p w = (a b : LaneTold) (r : Result A E) → p a b r → Tells tree a → (r ≡ w) × Tells tree b

pub equal_then : {A B E : Type 0} (tree : Tree) (p : LaneStep E A) (q : A → LaneStep E B) (wp : Result A E) (F : Result A E → Result B E)
    → ((e : E) → F (Err e) ≡ Err e) → Equals tree p wp → ((v : A) → Ok v ≡ wp → Equals tree (q v) (F (Ok v))) → Equals tree (p >>= q) (F wp)
equal_then tree p q wp F stop f g a b r (goes s m t v w one two) tells =
    let first = f s m (Ok v) one tells in
    let second = g v first.0 m t w two first.1 in
    (subst (λ u. w ≡ F u) first.0 second.0, second.1)
equal_then tree p q wp F stop f g a b r (stops s t e one) tells =
    let first = f s t (Err e) one tells in
    (sym (stop e) ∙ ap F first.0, first.1)

pub given_as : {A E : Type 0} (tree : Tree) (w v : Result A E) → w ≡ v → Equals tree (given w) v
unfolding given
given_as tree w v is a b r end tells = (end.1 ∙ is, subst (Tells tree) (sym end.0) tells)

-- ---- all lanes

abbrev pub Goes : {A E : Type 0} → SeenStep E A → Type 0
Goes {A} {E} p = (x y : Seen) (r : Result A E) → p x y r → OnEach (λ place a b. IsLater a b) x.lanes y.lanes

pub goes_then : {A B E : Type 0} (p : SeenStep E A) (q : A → SeenStep E B) → Goes p → ((v : A) → Goes (q v)) → Goes (p >>= q)
goes_then p q f g x y r (goes s m t v w one two) =
    each_then (λ place a b. IsLater a b) (λ place a b. IsLater a b) (λ place a b. IsLater a b) (λ place a b c i j. later_then a b c i j) s.lanes m.lanes t.lanes (f s m (Ok v) one) (g v m t w two)
goes_then p q f g x y r (stops s t e one) = f s t (Err e) one

pub goes_given : {A E : Type 0} (w : Result A E) → Goes (given w)
unfolding given
goes_given w x y r end = subst (λ (v : Seen). OnEach (λ place a b. IsLater a b) x.lanes v.lanes) (sym end.0) (each_same x.lanes)

some_same : {A : Type 0} (t u : A) → Some t ≡ Some u → t ≡ u
some_same t u e = cc

-- a relation of the first lane that holds of each other lane and itself
pub first_each : (R : LaneTold → LaneTold → Type 0) → ((a : LaneTold) → R a a) → (x y : List LaneTold) → OnFirst R x y → KeepsFrom 1 x y → OnEach (λ place a b. R a b) x y
first_each R same x y first kept = record { count = kept.same; each = each x y first kept }
  where
    each : (x y : List LaneTold) → OnFirst R x y → KeepsFrom 1 x y → (place : ℕ) (a b : LaneTold) → slice_get x place ≡ Some a → slice_get y place ≡ Some b → R a b
    each [] y first kept place a b ea eb = let no : None ≡ Some a = ea in cc
    each (s ∷ x) [] first kept place a b ea eb = absurd first
    each (s ∷ x) (t ∷ y) first kept zero a b ea eb = subst (λ v. R v b) (some_same s a ea) (subst (R s) (some_same t b eb) first)
    each (s ∷ x) (t ∷ y) first kept (suc place) a b ea eb = subst (R a) (some_same a b (sym ea ∙ sym (kept.rest (suc place) (omega arith)) ∙ eb)) (same a)

pub goes_first : {A E : Type 0} (course : Course LaneTold E) (step : LaneStep E A) → ((a b : LaneTold) (r : Result A E) → Ends course step a b r → IsLater a b) → Goes (on_first course step)
unfolding on_first
goes_first course step later x y r end = first_each IsLater later_same x.lanes y.lanes (first_with (λ a b. Ends course step a b r) IsLater (λ a b e. later a b r e) x.lanes y.lanes end.0) end.1

-- ---- no count rose

abbrev pub Calm : Seen → Seen → Type 0
Calm x y = OnEach (λ place a b. IsCalm a b) x.lanes y.lanes

rose_earlier : (a b c : ℕ) → a ≤ b → Rose b c → Rose a c
rose_earlier a b c le rose = omega arith

rose_later : (a b c : ℕ) → Rose a b → b ≤ c → Rose a c
rose_later a b c rose le = omega arith

calm_front : (a b c : LaneTold) → IsCalm a c → IsLater b c → IsCalm a b
calm_front a b c calm later = record {
  files = λ rose. calm.files (rose_later a.files.faults b.files.faults c.files.faults rose later.files.faults);
  from = λ rose. calm.from (rose_later a.from.faults b.from.faults c.from.faults rose later.from.faults);
  to = λ rose. calm.to (rose_later a.to.faults b.to.faults c.to.faults rose later.to.faults);
}

calm_back : (a b c : LaneTold) → IsCalm a c → IsLater a b → IsCalm b c
calm_back a b c calm later = record {
  files = λ rose. calm.files (rose_earlier a.files.faults b.files.faults c.files.faults later.files.faults rose);
  from = λ rose. calm.from (rose_earlier a.from.faults b.from.faults c.from.faults later.from.faults rose);
  to = λ rose. calm.to (rose_earlier a.to.faults b.to.faults c.to.faults later.to.faults rose);
}

module _ (x y z : List LaneTold) (calm : OnEach (λ place a b. IsCalm a b) x z) (one : OnEach (λ place a b. IsLater a b) x y) (two : OnEach (λ place a b. IsLater a b) y z) where
  pub front : OnEach (λ place a b. IsCalm a b) x y
  front = record { count = one.count; each = λ place a b ea eb. (let m = lane_at y z place b two.count eb in calm_front a b m.0 (calm.each place a m.0 ea m.1) (two.each place b m.0 eb m.1)) }

  pub back : OnEach (λ place a b. IsCalm a b) y z
  back = record { count = two.count; each = λ place b c eb ec. (let m = lane_at y x place b (sym one.count) eb in calm_back m.0 b c (calm.each place m.0 c m.1 ec) (one.each place m.0 b m.1 eb)) }

-- ---- one step after the other

pub comes_then : {A B E : Type 0} (memory : E → Bool) (p : SeenStep E A) (q : A → SeenStep E B) (wp : Result A E) (F : Result A E → Result B E) (I J : Seen → Type 0)
    → ((e : E) → F (Err e) ≡ Err e) → Goes p → ((v : A) → Goes (q v))
    → ((x m : Seen) (s : Result A E) → p x m s → I x → Calm x m → Comes memory s wp)
    → ((x m : Seen) (v : A) → p x m (Ok v) → I x → J m)
    → ((m y : Seen) (v : A) (r : Result B E) → Ok v ≡ wp → q v m y r → J m → Calm m y → Comes memory r (F (Ok v)))
    → (x y : Seen) (r : Result B E) → (p >>= q) x y r → I x → Calm x y → Comes memory r (F wp)
comes_then memory p q wp F I J stop gp gq f j g x y r (goes s m t v w one two) i calm =
    let before = gp s m (Ok v) one in
    let behind = gq v m t w two in
    let is : Ok v ≡ wp = value_is memory v wp (f s m (Ok v) one i (front s.lanes m.lanes t.lanes calm before behind)) in
    subst (λ u. Comes memory w (F u)) is (g m t v w is two (j s m v one i) (back s.lanes m.lanes t.lanes calm before behind))
comes_then memory p q wp F I J stop gp gq f j g x y r (stops s t e one) i calm = refused_as memory e wp F stop (f s t (Err e) one i calm)

pub comes_given : {A E : Type 0} (memory : E → Bool) (w v : Result A E) → w ≡ v → (x y : Seen) (r : Result A E) → given w x y r → Comes memory r v
unfolding given
comes_given memory w v is x y r end = inr (end.1 ∙ is)

pub given_same : {A E : Type 0} (w : Result A E) (P : Seen → Type 0) (x y : Seen) (r : Result A E) → given w x y r → P x → P y
unfolding given
given_same w P x y r end p = subst P (sym end.0) p

-- ---- the first lane

pub some_lane : (tree : Tree) (x : List LaneTold) → first_tree x ≡ Some tree → 0 < length x
some_lane tree [] first = let no : None ≡ Some tree = first in cc
some_lane tree (a ∷ x) first = omega arith

pub first_tells : (tree : Tree) (x : List LaneTold) (a : LaneTold) → first_tree x ≡ Some tree → slice_get x 0 ≡ Some a → Tells tree a
first_tells tree [] a first at = let no : None ≡ Some a = at in cc
first_tells tree (b ∷ x) a first at = subst (Tells tree) (some_same b a at) first

module _ {A E : Type 0} (memory : E → Bool) (course : Course LaneTold E) (step : LaneStep E A) where
  -- what the step on the first lane comes to, it comes to on all
  pub first_comes : (w : Result A E) → ((a b : LaneTold) (r : Result A E) → IsCalm a b → Ends course step a b r → ((s : Result A E) → step a b s → s ≡ w) → Comes memory r w)
      → (x y : Seen) (r : Result A E) → 0 < length x.lanes → Calm x y → on_first course step x y r → ((a b : LaneTold) (s : Result A E) → slice_get x.lanes 0 ≡ Some a → step a b s → s ≡ w) → Comes memory r w
  unfolding on_first
  first_comes w lane x y r some calm end is = by x.lanes y.lanes some calm end.0 is
    where
      by : (x y : List LaneTold) → 0 < length x → OnEach (λ place a b. IsCalm a b) x y → OnFirst (λ a b. Ends course step a b r) x y → ((a b : LaneTold) (s : Result A E) → slice_get x 0 ≡ Some a → step a b s → s ≡ w) → Comes memory r w
      by [] y some calm end is = absurd (omega (arith, some))
      by (a ∷ x) [] some calm end is = absurd end
      by (a ∷ x) (b ∷ y) some calm end is = lane a b r (calm.each 0 a b refl refl) end (λ s one. is a b s refl one)

  -- where it touches nothing, the first lane tells the tree behind it
  pub first_still : (tree : Tree) (w : Result A E) → Equals tree step w → ((a b : LaneTold) (v : A) → Ends course step a b (Ok v) → step a b (Ok v))
      → (x y : Seen) (v : A) → first_tree x.lanes ≡ Some tree → on_first course step x y (Ok v) → first_tree y.lanes ≡ Some tree
  unfolding on_first
  first_still tree w equals value x y v first end = by x.lanes y.lanes first end.0
    where
      by : (x y : List LaneTold) → first_tree x ≡ Some tree → OnFirst (λ a b. Ends course step a b (Ok v)) x y → first_tree y ≡ Some tree
      by [] y first end = let no : None ≡ Some tree = first in cc
      by (a ∷ x) [] first end = absurd end
      by (a ∷ x) (b ∷ y) first end = (equals a b (Ok v) (value a b v end) first).1
