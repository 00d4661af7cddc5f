-- Laws of how lanes go on, which courses rest on.
use Rattle.std.proofs.Common.{◌≡◌, ◌≤◌, ◌+◌, ◌-◌, ◌^◌, ◌++◌, ◌∙◌, ℕ, List, [], ◌∷◌, Option, Some, None, min, length, slice_get, get_or, inl, inr, refl, sym, ap, subst, append_assoc, arith}
use Rattle.std.proofs.lemmas.Option.{slice_get-get_or, slice_get_within}
use Rattle.skopeo_outside.specs.Wire.{Conversation}
use Rattle.skopeo_outside.specs.Outside.{Told, Rose}
use Rattle.skopeo_outside.specs.LaneTold.{WireTold, FilesTold, LaneTold, AreMore, IsLaterWire, IsLaterFiles, IsLater, BlamesFiles, BlamesOne, BlamesWire}
use Rattle.skopeo_outside.specs.Seen.{OnEach}

-- relations of what was told, one behind the other
pub told_then : {A : Type 0} (R S T : A → A → Type 0) → ((a b c : A) → R a b → S b c → T a c) → (x y z : Option A) → Told R x y → Told S y z → Told T x z
told_then R S T f None y z r s = tt
told_then R S T f (Some a) None z r s = absurd r
told_then R S T f (Some a) (Some b) None r s = absurd s
told_then R S T f (Some a) (Some b) (Some c) r s = f a b c r s

pub told_same : {A : Type 0} (R : A → A → Type 0) → ((a : A) → R a a) → (x : Option A) → Told R x x
told_same R f None = tt
told_same R f (Some a) = f a

append_nil : {A : Type 0} (t : List A) → t ++ [] ≡ t
append_nil [] = refl
append_nil (x ∷ t) = ap (λ s. x ∷ s) (append_nil t)

-- ---- conversations

pub more_same : (a : List Conversation) → AreMore a a
more_same a = record { more = []; is = sym (append_nil a) }

pub more_then : (a b c : List Conversation) → AreMore a b → AreMore b c → AreMore a c
more_then a b c r s = record { more = r.more ++ s.more; is = s.is ∙ ap (λ x. x ++ s.more) r.is ∙ append_assoc a r.more s.more }

-- ---- a lane

wire_same : (a : WireTold) → IsLaterWire a a
wire_same a = record { talks = told_same AreMore more_same a.talks; faults = omega arith }

wire_then : (a b c : WireTold) → IsLaterWire a b → IsLaterWire b c → IsLaterWire a c
wire_then a b c r s = record {
  talks = told_then AreMore AreMore AreMore more_then a.talks b.talks c.talks r.talks s.talks;
  faults = (let x = r.faults in let y = s.faults in omega arith);
}

files_same : (a : FilesTold) → IsLaterFiles a a
files_same a = record { tells = told_same (λ _ _. Unit {0}) (λ t. tt) a.tree; faults = omega arith }

files_then : (a b c : FilesTold) → IsLaterFiles a b → IsLaterFiles b c → IsLaterFiles a c
files_then a b c r s = record {
  tells = told_then (λ _ _. Unit {0}) (λ _ _. Unit {0}) (λ _ _. Unit {0}) (λ x y z p q. tt) a.tree b.tree c.tree r.tells s.tells;
  faults = (let x = r.faults in let y = s.faults in omega arith);
}

pub later_same : (a : LaneTold) → IsLater a a
later_same a = record { from = wire_same a.from; to = wire_same a.to; files = files_same a.files; number = refl }

pub later_then : (a b c : LaneTold) → IsLater a b → IsLater b c → IsLater a c
later_then a b c r s = record {
  from = wire_then a.from b.from c.from r.from s.from;
  to = wire_then a.to b.to c.to r.to s.to;
  files = files_then a.files b.files c.files r.files s.files;
  number = s.number ∙ r.number;
}

-- what is related is told
pub told_tells : {A : Type 0} (R : A → A → Type 0) (x y : Option A) → Told R x y → Told (λ _ _. Unit {0}) x y
told_tells R None y r = tt
told_tells R (Some a) None r = r
told_tells R (Some a) (Some b) r = tt

-- a call that only the files take part in
pub later_files : (a b : LaneTold) → b.from ≡ a.from → b.to ≡ a.to → b.number ≡ a.number → IsLaterFiles a.files b.files → IsLater a b
later_files a b from to number files = record {
  from = subst (IsLaterWire a.from) (sym from) (wire_same a.from);
  to = subst (IsLaterWire a.to) (sym to) (wire_same a.to);
  files = files;
  number = number;
}

-- ---- faults

rose_earlier : (a b c : ℕ) → a ≤ b → Rose b c → Rose a c
rose_earlier a b c le rose = omega arith

pub files_earlier : (count : ℕ) (a b c : LaneTold) → IsLater a b → BlamesFiles count b c → BlamesFiles count a c
files_earlier count a b c later f = record { is = f.is; rose = rose_earlier a.files.faults b.files.faults c.files.faults later.files.faults f.rose }

one_earlier : (count : ℕ) (a b c : WireTold) → a.faults ≤ b.faults → BlamesOne count b c → BlamesOne count a c
one_earlier count a b c le f = record { is = f.is; rose = rose_earlier a.faults b.faults c.faults le f.rose }

pub wire_earlier : (count : ℕ) (a b c : LaneTold) → IsLater a b → BlamesWire count b c → BlamesWire count a c
wire_earlier count a b c later (inl f) = inl (one_earlier count a.from b.from c.from later.from.faults f)
wire_earlier count a b c later (inr f) = inr (one_earlier count a.to b.to c.to later.to.faults f)

-- ---- all lanes

some_same : {A : Type 0} (t u : A) → Some t ≡ Some u → t ≡ u
some_same t u e = cc

pub each_same : (x : List LaneTold) → OnEach (λ place a b. IsLater a b) x x
each_same x = record { count = refl; each = λ place a b ea eb. subst (IsLater a) (some_same a b (sym ea ∙ eb)) (later_same a) }

-- the lane at a place of a list that is as long
pub lane_at : (x y : List LaneTold) (place : ℕ) (a : LaneTold) → length y ≡ length x → slice_get x place ≡ Some a → (b : LaneTold) × (slice_get y place ≡ Some b)
lane_at x y place a same e = let lt = slice_get_within x place a e in (get_or y place a, slice_get-get_or y place a (omega (arith, lt, same)))

pub each_then : (R S T : ℕ → LaneTold → LaneTold → Type 0) → ((place : ℕ) (a b c : LaneTold) → R place a b → S place b c → T place a c) → (x y z : List LaneTold) → OnEach R x y → OnEach S y z → OnEach T x z
each_then R S T step x y z r s = record {
  count = s.count ∙ r.count;
  each = λ place a c ea ec. (let m = lane_at x y place a r.count ea in step place a m.0 c (r.each place a m.0 ea m.1) (s.each place m.0 c m.1 ec));
}
