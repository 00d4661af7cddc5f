-- What contracts see of a desk's seat.
use Rattle.std.specs.Prelude.{◌≡◌, ◌⊎◌, ℕ, ◌<◌, ◌≤◌, true, false}
pub use Rattle.atomic_table.specs.Seated.{TableId}
use Rattle.location_cache.specs.declared.view.View.{View}
use Rattle.location_cache.specs.Rule.{times, once_to, none_failed, with_drawn}

-- which desk the seat is at, and what it knows
pub record Seated : Type 0 where
  pub desk : TableId
  pub view : View

-- a job that the seat has drawn
abbrev pub HasDrawn : View → ℕ → Type 0
HasDrawn v job = 0 < times job v.drawn

-- a job that the seat has noted as failed
abbrev pub HasFailed : View → ℕ → Type 0
HasFailed v job = 0 < times job v.failed

-- one of the jobs was drawn
pub record IsDrawn (jobs job : ℕ) (old new : View) : Type 0 where
  pub going : old.done ≡ false
  pub first : 0 < job
  pub last : job ≤ jobs
  pub view : new ≡ with_drawn jobs job old

-- the seat was done, or what it drew is past the jobs
abbrev pub DrewNone : ℕ → View → View → Type 0
DrewNone jobs old new =
    ((old.done ≡ true) × (new ≡ old))
    ⊎ ((old.done ≡ false) × ((job : ℕ) × (jobs < job) × (new ≡ with_drawn jobs job old)))

-- no failed job of the seat is below this one; where the seat has all the room, it has failed there
pub record IsLeast (least : ℕ) (v : View) : Type 0 where
  pub lowest : (job : ℕ) → HasFailed v job → least ≤ job
  pub stands : v.room ≡ 16 → HasFailed v least

-- the jobs were drawn in order from 1, each once
pub record AreDrawn (jobs : ℕ) (v : View) : Type 0 where
  pub draws : ℕ
  pub once : (job : ℕ) → times job v.drawn ≡ once_to draws job
  pub past : v.done ≡ true → jobs < draws

-- where a failed job was read, a job has failed that is not above it
abbrev pub SawFailed : View → Type 0
SawFailed v = v.seen < none_failed → (job : ℕ) × HasFailed v job × (job ≤ v.seen)
