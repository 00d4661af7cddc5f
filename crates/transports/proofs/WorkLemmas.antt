-- What a lane does at a destination, one piece of work behind the other.
use Rattle.std.proofs.Common.{◌≡◌, ◌⊎◌, ◌∙◌, ℕ, List, Option, Some, None, Contains, inl, inr, refl, sym, subst}
use Rattle.skopeo_outside.specs.Tree.{Tree, file_at}
use Rattle.skopeo_outside.specs.Outside.{Told}
use Rattle.skopeo_outside.specs.LaneTold.{LaneTold, IsLater}
use Rattle.skopeo_outside.specs.LaneLaws.{told_then, told_same, later_then}
use Rattle.layouts.specs.Trees.{SameOrGone, OnlyIn}
use Rattle.layouts.specs.Paths.{IsIn, blob_path}
use Rattle.transports.specs.declared.dest.Dest.{Dest}
use Rattle.transports.specs.declared.dest.Dest.TheVariants.{Folder}
use Rattle.transports.specs.Has.{OnlyAtDest}
use Rattle.transports.specs.Writes.{KeepsManifests, WritesNone, Spot, AtPath, IsWrite, KeepsOthers, WritesOnly, IsFileWrite, ShowsWrite}
use Rattle.transports.specs.Fair.{IsFair, IsFairOn, Works}
use Rattle.transports.specs.Named.{AddsIn, AddsOnly}

pub same_then : (a b c : Tree) (q : List ℕ) → SameOrGone a b q → SameOrGone b c q → SameOrGone a c q
same_then a b c q (inl r) (inl s) = inl (s ∙ r)
same_then a b c q (inr r) (inl s) = inr (s ∙ r)
same_then a b c q r (inr s) = inr s

only_in_then : (folder : List ℕ) (a b c : Tree) → OnlyIn folder a b → OnlyIn folder b c → OnlyIn folder a c
only_in_then folder a b c r s = record {
  files = λ q out. s.files q out ∙ r.files q out;
  folders = record { made = λ p here. by p (s.folders.made p here); kept = λ p here. s.folders.kept p (r.folders.kept p here) };
}
  where
    by : (p : List ℕ) → Contains b.folders p ⊎ (p ≡ folder) → Contains a.folders p ⊎ (p ≡ folder)
    by p (inl here) = r.folders.made p here
    by p (inr is) = inr is

pub only_then : (dest : Dest) (a b c : LaneTold) → OnlyAtDest dest a b → OnlyAtDest dest b c → OnlyAtDest dest a c
unfolding OnlyAtDest
only_then (Folder path) a b c r s = (told_then (OnlyIn path) (OnlyIn path) (OnlyIn path) (only_in_then path) a.files.tree b.files.tree c.files.tree r.0 s.0, s.1 ∙ r.1)

pub none_then : (a b c : LaneTold) → WritesNone a b → WritesNone b c → WritesNone a c
unfolding WritesNone
none_then a b c r s = told_then KeepsManifests KeepsManifests KeepsManifests (λ x y z p q path m. same_then x y z path (p path m) (q path m)) a.files.tree b.files.tree c.files.tree r s

-- where no manifest was written, none is shown
pub none_written : (a b : LaneTold) (at : Spot) (bytes : List ℕ) → WritesNone a b → IsWrite a b at bytes → ⊥
unfolding WritesNone
none_written a b (AtPath path) bytes none write = by a.files.tree b.files.tree none write
  where
    of : (t u : Tree) → IsFileWrite t u path bytes → SameOrGone t u path → ⊥
    of t u w (inl same) = w.changed (sym same ∙ w.stands)
    of t u w (inr gone) = let no : Some bytes ≡ None = sym w.stands ∙ gone in cc

    by : (x y : Option Tree) → Told KeepsManifests x y → ShowsWrite x y path bytes → ⊥
    by None y n w = w
    by (Some t) None n w = w
    by (Some t) (Some u) n w = of t u w (n path w.manifest)

-- where one was written, it is that one
pub only_written : (a b : LaneTold) (spot at : Spot) (wanted bytes : List ℕ) → WritesOnly spot wanted a b → IsWrite a b at bytes → (at ≡ spot) × (bytes ≡ wanted)
unfolding WritesOnly
only_written a b (AtPath there) (AtPath path) wanted bytes only write = by a.files.tree b.files.tree only write
  where
    of : (t u : Tree) → IsFileWrite t u path bytes → SameOrGone t u path ⊎ ((path ≡ there) × (file_at u path ≡ Some wanted)) → (AtPath path ≡ AtPath there) × (bytes ≡ wanted)
    of t u w (inl (inl same)) = absurd (w.changed (sym same ∙ w.stands))
    of t u w (inl (inr gone)) = let no : Some bytes ≡ None = sym w.stands ∙ gone in cc
    of t u w (inr is) = (let p = is.0 in cc, let e : Some bytes ≡ Some wanted = sym w.stands ∙ is.1 in cc)

    by : (x y : Option Tree) → Told (KeepsOthers there wanted) x y → ShowsWrite x y path bytes → (AtPath path ≡ AtPath there) × (bytes ≡ wanted)
    by None y n w = absurd w
    by (Some t) None n w = absurd w
    by (Some t) (Some u) n w = of t u w (n path w.manifest)

fair_path : (folder : List ℕ) (lane : ℕ) (a b c : Tree) (q : List ℕ) → IsFair folder lane a b q → IsFair folder lane b c q → IsFair folder lane a c q
fair_path folder lane a b c q r (inr s) = inr s
fair_path folder lane a b c q r (inl (inr gone)) = inl (inr gone)
fair_path folder lane a b c q (inl (inl r)) (inl (inl same)) = inl (inl (same ∙ r))
fair_path folder lane a b c q (inl (inr r)) (inl (inl same)) = inl (inr (same ∙ r))
fair_path folder lane a b c q (inr (inl r)) (inl (inl same)) = inr (inl (record { bytes = r.bytes; path_is = r.path_is; there = same ∙ r.there }))
fair_path folder lane a b c q (inr (inr r)) (inl (inl same)) = inr (inr r)

pub fair_then : (dest : Dest) (lane : ℕ) (a b c : LaneTold) → IsFairOn dest lane a b → IsFairOn dest lane b c → IsFairOn dest lane a c
unfolding IsFairOn
fair_then (Folder path) lane a b c r s =
    let R : Tree → Tree → Type 0 = λ t u. (q : List ℕ) → IsIn path q → IsFair path lane t u q in
    told_then R R R (λ x y z p q at here. fair_path path lane x y z at (p at here) (q at here)) a.files.tree b.files.tree c.files.tree r s

pub works_then : (dest : Dest) (a b c : LaneTold) → Works dest a b → Works dest b c → Works dest a c
unfolding Works
works_then dest a b c r s = record {
  later = later_then a b c r.later s.later;
  only = only_then dest a b c r.only s.only;
  none = none_then a b c r.none s.none;
  fair = fair_then dest a.number a b c r.fair (subst (λ n. IsFairOn dest n b c) r.later.number s.fair);
}

pub works_later : (dest : Dest) (a b : LaneTold) → Works dest a b → IsLater a b
unfolding Works
works_later dest a b r = r.later

pub works_only : (dest : Dest) (a b : LaneTold) → Works dest a b → OnlyAtDest dest a b
unfolding Works
works_only dest a b r = r.only

-- ---- what was added

adds_path : (folder : List ℕ) (P Q R : List ℕ → Type 0) → ((d : List ℕ) → P d → R d) → ((d : List ℕ) → Q d → R d) → (a b c : Tree) → AddsIn folder P a b → AddsIn folder Q b c → AddsIn folder R a c
adds_path folder P Q R f g a b c r s = record {
  folders = λ p here. s.folders p (r.folders p here);
  version = s.version ∙ r.version;
  files = λ q here. by q (r.files q here) (s.files q here);
}
  where
    by : (q : List ℕ) → SameOrGone a b q ⊎ ((d : List ℕ) × P d × (q ≡ blob_path folder d)) → SameOrGone b c q ⊎ ((d : List ℕ) × Q d × (q ≡ blob_path folder d)) → SameOrGone a c q ⊎ ((d : List ℕ) × R d × (q ≡ blob_path folder d))
    by q (inl x) (inl y) = inl (same_then a b c q x y)
    by q (inr x) (inl y) = inr (x.0, f x.0 x.1, x.2)
    by q x (inr y) = inr (y.0, g y.0 y.1, y.2)

-- blobs of either sort were added
pub adds_then : (dest : Dest) (P Q R : List ℕ → Type 0) → ((d : List ℕ) → P d → R d) → ((d : List ℕ) → Q d → R d) → (a b c : LaneTold) → AddsOnly dest P a b → AddsOnly dest Q b c → AddsOnly dest R a c
unfolding AddsOnly
adds_then (Folder path) P Q R f g a b c r s = told_then (AddsIn path P) (AddsIn path Q) (AddsIn path R) (adds_path path P Q R f g) a.files.tree b.files.tree c.files.tree r s

pub adds_same : (dest : Dest) (P : List ℕ → Type 0) (a : LaneTold) → AddsOnly dest P a a
unfolding AddsOnly
adds_same (Folder path) P a = told_same (AddsIn path P) (λ t. record { folders = λ p here. here; version = refl; files = λ q here. inl (inl refl) }) a.files.tree

adds_more : (folder : List ℕ) (P R : List ℕ → Type 0) → ((d : List ℕ) → P d → R d) → (a b : Tree) → AddsIn folder P a b → AddsIn folder R a b
adds_more folder P R f a b r = record { folders = r.folders; version = r.version; files = λ q here. by q (r.files q here) }
  where
    by : (q : List ℕ) → SameOrGone a b q ⊎ ((d : List ℕ) × P d × (q ≡ blob_path folder d)) → SameOrGone a b q ⊎ ((d : List ℕ) × R d × (q ≡ blob_path folder d))
    by q (inl x) = inl x
    by q (inr x) = inr (x.0, f x.0 x.1, x.2)

pub adds_wider : (dest : Dest) (P R : List ℕ → Type 0) → ((d : List ℕ) → P d → R d) → (a b : LaneTold) → AddsOnly dest P a b → AddsOnly dest R a b
unfolding AddsOnly
adds_wider (Folder path) P R f a b r = by a.files.tree b.files.tree r
  where
    by : (x y : Option Tree) → Told (AddsIn path P) x y → Told (AddsIn path R) x y
    by None y o = tt
    by (Some t) None o = absurd o
    by (Some t) (Some u) o = adds_more path P R f t u o
