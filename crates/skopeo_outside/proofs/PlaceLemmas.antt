-- Relations of lanes by places.
use Rattle.std.proofs.Common.{◌≡◌, ◌∙◌, ◌≤◌, ℕ, List, Some, slice_get, refl, sym, subst}
use Rattle.skopeo_outside.specs.LaneTold.{LaneTold}
use Rattle.skopeo_outside.specs.LaneLaws.{lane_at}
use Rattle.skopeo_outside.specs.Seen.{OnEach, OnSome, KeepsFrom}

some_same : {A : Type 0} (t u : A) → Some t ≡ Some u → t ≡ u
some_same t u e = cc

-- what holds of a lane and itself holds of each
pub each_self : (R : ℕ → LaneTold → LaneTold → Type 0) → ((place : ℕ) (a : LaneTold) → R place a a) → (x : List LaneTold) → OnEach R x x
each_self R same x = record { count = refl; each = λ place a b ea eb. subst (R place a) (some_same a b (sym ea ∙ eb)) (same place a) }

-- what holds on some lane holds there later, where each lane goes on so
pub some_then : (R S T : ℕ → LaneTold → LaneTold → Type 0) → ((place : ℕ) (a b c : LaneTold) → R place a b → S place b c → T place a c) → (x y z : List LaneTold) → OnSome R x y → OnEach S y z → OnSome T x z
some_then R S T step x y z r s =
    let m = lane_at y z r.place r.after s.count r.now in
    record { place = r.place; before = r.before; after = m.0; was = r.was; now = m.1; holds = step r.place r.before r.after m.0 r.holds (s.each r.place r.after m.0 r.now m.1) }

-- and held between wider states, where each lane had gone on so
pub some_earlier : (R S T : ℕ → LaneTold → LaneTold → Type 0) → ((place : ℕ) (a b c : LaneTold) → R place a b → S place b c → T place a c) → (x y z : List LaneTold) → OnEach R x y → OnSome S y z → OnSome T x z
some_earlier R S T step x y z r s =
    let m = lane_at y x s.place s.before (sym r.count) s.was in
    record { place = s.place; before = m.0; after = s.after; was = m.1; now = s.now; holds = step s.place m.0 s.before s.after (r.each s.place m.0 s.before m.1 s.was) s.holds }

pub keeps_same : (count : ℕ) (x : List LaneTold) → KeepsFrom count x x
keeps_same count x = record { same = refl; rest = λ place le. refl }

pub keeps_then : (count : ℕ) (x y z : List LaneTold) → KeepsFrom count x y → KeepsFrom count y z → KeepsFrom count x z
keeps_then count x y z r s = record { same = s.same ∙ r.same; rest = λ place le. s.rest place le ∙ r.rest place le }
