-- The outcomes of all lanes, before they are put in order.
use Rattle.std.specs.Prelude.{◌≡◌, ◌⊎◌, ℕ, ◌+◌, ◌<◌, nat_le, cond, Some, None, List, [], ◌∷◌, length, slice_get, Contains, IsErr}
use Rattle.digest_reader.specs.declared.job.Job.{Job}
use Rattle.location_cache.specs.declared.view.View.{View}
use Rattle.location_cache.specs.Rule.{times}
use Rattle.copy_workers.specs.declared.receipt.Outcome.{Outcome}
use Rattle.copy_workers.specs.Lanes.{Lore, EndsAs}
use Rattle.copy_workers.specs.Works.{ended}

-- the outcomes are those of the jobs from k + 1 on, in order
abbrev pub InOrder : ℕ → List Outcome → Type 0
InOrder k [] = Unit {0}
InOrder k (o ∷ os) = (o.job ≡ k + 1) × InOrder (k + 1) os

-- outcomes of all lanes, with the view of their joined seats
pub record Gathered {L O : Type 0} (tells : Lore L O) (jobs : List Job) (lanes : List L) (outcomes : List Outcome) (v : View) : Type 0 where
  pub told : (o : Outcome) (j : Job) → Contains outcomes o → Contains jobs j → j.number ≡ o.job
      → (l : L) × (slice_get lanes o.lane ≡ Some l) × EndsAs tells l j o.end
  pub blame : (l : L) (j : Job) → Contains lanes l → Contains jobs j
      → (tells.failed l j ≡ None) ⊎ ((o : Outcome) × Contains outcomes o × (o.job ≡ j.number) × IsErr o.end)
  pub asked : (m : ℕ) (l : L) (j : Job) → slice_get lanes m ≡ Some l → Contains jobs j
      → (tells.asked l j ≡ []) ⊎ ((o : Outcome) × Contains outcomes o × (o.job ≡ j.number) × (o.lane ≡ m))
  pub drawn : (job : ℕ) → ended job outcomes ≡ cond (nat_le job (length jobs)) (times job v.drawn) 0
  pub fails : (job : ℕ) → 0 < times job v.failed → (o : Outcome) × Contains outcomes o × IsErr o.end
