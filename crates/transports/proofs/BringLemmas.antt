-- What was added at a destination, parts of blobs among it.
use Rattle.std.proofs.Common.{◌≡◌, ◌≢◌, ◌⊎◌, ℕ, List, inl, inr, refl, subst}
use Rattle.skopeo_outside.specs.Tree.{Tree}
use Rattle.skopeo_outside.specs.Outside.{Told}
use Rattle.skopeo_outside.specs.LaneTold.{LaneTold}
use Rattle.skopeo_outside.specs.LaneLaws.{told_then, told_same}
use Rattle.skopeo_outside.proofs.Trees.{path_cases}
use Rattle.digest_reader.specs.declared.job.Job.{Job}
use Rattle.layouts.specs.Trees.{SameOrGone, OnlyAt}
use Rattle.layouts.specs.Paths.{blob_path, blob_part}
use Rattle.transports.specs.declared.source.Source.{Source}
use Rattle.transports.specs.declared.dest.Dest.{Dest}
use Rattle.transports.specs.declared.dest.Dest.TheVariants.{Folder}
use Rattle.transports.specs.Named.{AddsIn, AddsOnly, BringsIn, BringsOnly}
use Rattle.transports.specs.Uploads.{OnlyPart, IsLeft}
use Rattle.transports.proofs.ToldLemmas.{told_as}
use Rattle.transports.proofs.WorkLemmas.{same_then}

pub brings_then : (dest : Dest) (P Q R : List ℕ → Type 0) → ((d : List ℕ) → P d → R d) → ((d : List ℕ) → Q d → R d) → (a b c : LaneTold) → b.number ≡ a.number → BringsOnly dest P a b → BringsOnly dest Q b c → BringsOnly dest R a c
unfolding BringsOnly
brings_then (Folder path) P Q R f g a b c number r s =
    told_then (BringsIn path a.number P) (BringsIn path a.number Q) (BringsIn path a.number R) step a.files.tree b.files.tree c.files.tree r (subst (λ n. Told (BringsIn path n Q) b.files.tree c.files.tree) number s)
  where
    by : (x y z : Tree) (q : List ℕ) → SameOrGone x y q ⊎ ((d : List ℕ) × P d × ((q ≡ blob_path path d) ⊎ (q ≡ blob_part path d a.number))) → SameOrGone y z q ⊎ ((d : List ℕ) × Q d × ((q ≡ blob_path path d) ⊎ (q ≡ blob_part path d a.number)))
        → SameOrGone x z q ⊎ ((d : List ℕ) × R d × ((q ≡ blob_path path d) ⊎ (q ≡ blob_part path d a.number)))
    by x y z q (inl i) (inl j) = inl (same_then x y z q i j)
    by x y z q (inr i) (inl j) = inr (i.0, f i.0 i.1, i.2)
    by x y z q i (inr j) = inr (j.0, g j.0 j.1, j.2)

    step : (x y z : Tree) → BringsIn path a.number P x y → BringsIn path a.number Q y z → BringsIn path a.number R x z
    step x y z i j = record { files = λ q here. by x y z q (i.files q here) (j.files q here) }

pub brings_same : (dest : Dest) (P : List ℕ → Type 0) (a : LaneTold) → BringsOnly dest P a a
unfolding BringsOnly
brings_same (Folder path) P a = told_same (BringsIn path a.number P) (λ t. record { files = λ q here. inl (inl refl) }) a.files.tree

pub brings_wider : (dest : Dest) (P R : List ℕ → Type 0) → ((d : List ℕ) → P d → R d) → (a b : LaneTold) → BringsOnly dest P a b → BringsOnly dest R a b
unfolding BringsOnly
brings_wider (Folder path) P R f a b r = told_as (BringsIn path a.number P) (BringsIn path a.number R) (λ x y i. record { files = λ q here. by x y q (i.files q here) }) a.files.tree b.files.tree r
  where
    by : (x y : Tree) (q : List ℕ) → SameOrGone x y q ⊎ ((d : List ℕ) × P d × ((q ≡ blob_path path d) ⊎ (q ≡ blob_part path d a.number))) → SameOrGone x y q ⊎ ((d : List ℕ) × R d × ((q ≡ blob_path path d) ⊎ (q ≡ blob_part path d a.number)))
    by x y q (inl i) = inl i
    by x y q (inr i) = inr (i.0, f i.0 i.1, i.2)

-- blobs alone were added
pub adds_brings : (dest : Dest) (P : List ℕ → Type 0) (a b : LaneTold) → AddsOnly dest P a b → BringsOnly dest P a b
unfolding AddsOnly BringsOnly
adds_brings (Folder path) P a b r = told_as (AddsIn path P) (BringsIn path a.number P) (λ x y i. record { files = λ q here. by x y q (i.files q here) }) a.files.tree b.files.tree r
  where
    by : (x y : Tree) (q : List ℕ) → SameOrGone x y q ⊎ ((d : List ℕ) × P d × (q ≡ blob_path path d)) → SameOrGone x y q ⊎ ((d : List ℕ) × P d × ((q ≡ blob_path path d) ⊎ (q ≡ blob_part path d a.number)))
    by x y q (inl i) = inl i
    by x y q (inr i) = inr (i.0, i.1, inl i.2)

-- the part of one blob alone was touched
pub part_brings : (dest : Dest) (job : Job) (a b : LaneTold) → OnlyPart dest job a b → BringsOnly dest (λ d. d ≡ job.digest) a b
unfolding OnlyPart BringsOnly
part_brings (Folder path) job a b r =
    told_as (OnlyAt (blob_part path job.digest a.number)) (BringsIn path a.number (λ d. d ≡ job.digest)) (λ x y o. record { files = λ q here. by x y q o (path_cases q (blob_part path job.digest a.number)) }) a.files.tree b.files.tree r.0
  where
    by : (x y : Tree) (q : List ℕ) → OnlyAt (blob_part path job.digest a.number) x y → (q ≡ blob_part path job.digest a.number) ⊎ (q ≢ blob_part path job.digest a.number)
        → SameOrGone x y q ⊎ ((d : List ℕ) × (d ≡ job.digest) × ((q ≡ blob_path path d) ⊎ (q ≡ blob_part path d a.number)))
    by x y q o (inl at) = inr (job.digest, refl, inr at)
    by x y q o (inr other) = inl (inl (o.files q other))

pub left_part : (s : Source) (dest : Dest) (job : Job) (a b : LaneTold) → IsLeft s dest job a b → OnlyPart dest job a b
unfolding IsLeft
left_part s dest job a b left = left.only
