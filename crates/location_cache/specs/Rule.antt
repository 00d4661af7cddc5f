-- The rule of a desk, over its words and over what all seats know.
use Rattle.std.specs.Prelude.{◌≡◌, ◌≢◌, ℕ, ◌+◌, ◌-◌, ◌^◌, ◌<◌, ◌≤◌, ◌==◌, ◌||◌, true, false, nat_lt, cond, min, List, [], ◌∷◌, ◌++◌, count_by, sum_by}
use mathlib.Core.Option.{some}
use lib.ListN.{get_elem?}
use Rattle.atomic_table.specs.Table.{Me}
use Rattle.location_cache.specs.declared.view.View.{View}

-- how often a job stands in a list
abbrev pub times : ℕ → List ℕ → ℕ
times job jobs = count_by (λ x. x == job) jobs

-- 1 of each job from 1 up to a last one
abbrev pub once_to : ℕ → ℕ → ℕ
once_to last job = cond (nat_lt 0 job) (cond (nat_lt last job) 0 1) 0

-- the sentinel: what word 1 holds where no job has failed
abbrev pub none_failed : ℕ
none_failed = 2 ^ 64 - 1

-- the view of the first seat, which has all the room
abbrev pub first_view : View
first_view = record { drawn = []; failed = []; done = false; room = 16; seen = none_failed }

-- the view of a seat that was joined to another
abbrev pub spent : View
spent = record { drawn = []; failed = []; done = false; room = 0; seen = none_failed }

-- the view that is split gives up a room of 1
abbrev pub left_of : View → View
left_of v = record v { room = v.room - 1 }

-- the view of the new seat: a room of 1, and empty lists
abbrev pub right_of : View → View
right_of v = record v { drawn = []; failed = []; room = 1 }

-- the lists and rooms of both; done where either was; the lesser value that they have seen
abbrev pub joined : View → View → View
joined v w = record {
  drawn = v.drawn ++ w.drawn;
  failed = v.failed ++ w.failed;
  done = v.done || w.done;
  room = v.room + w.room;
  seen = min v.seen w.seen;
}

-- a job was drawn; the seat is done where it is past the jobs
abbrev pub with_drawn : ℕ → ℕ → View → View
with_drawn jobs job v = record v { drawn = v.drawn ++ job ∷ []; done = nat_lt jobs job }

-- a job was noted as failed
abbrev pub with_failed : ℕ → View → View
with_failed job v = record v { failed = v.failed ++ job ∷ [] }

-- word 1 was read
abbrev pub with_seen : ℕ → View → View
with_seen least v = record v { seen = least }

-- the room of a seat that may draw
abbrev pub waiting : View → ℕ
waiting v = cond v.done 0 v.room

-- of each view
abbrev pub Each : (View → Type 0) → List View → Type 0
Each P views = (seat : ℕ) (v : View) → get_elem? views seat ≡ some v → P v

-- what the rule says of one view: its failed jobs are its own draws, a done seat has seen the jobs run out,
-- the word has not risen above what was seen, and a view without room is the spent one
pub record Fits (jobs draws least : ℕ) (v : View) : Type 0 where
  pub own : (job : ℕ) → 0 < times job v.failed → 0 < times job v.drawn
  pub past : v.done ≡ true → jobs < draws
  pub seen : least ≤ v.seen
  pub idle : v.room ≡ 0 → v ≡ spent

-- the rule: the views have drawn the jobs from 1 up to word 0, each once; word 1 is the least failed job, or the
-- sentinel; all rooms are 16, and the draws past the jobs with the rooms of seats that may draw are no more
pub record IsKept (jobs : ℕ) (words : List ℕ) (views : List View) : Type 0 where
  pub draws : ℕ
  pub least : ℕ
  pub words_are : words ≡ draws ∷ least ∷ []
  pub drawn : (job : ℕ) → sum_by (λ v. times job v.drawn) views ≡ once_to draws job
  pub below : (job : ℕ) → job < least → sum_by (λ v. times job v.failed) views ≡ 0
  pub stands : least ≢ none_failed → 0 < sum_by (λ v. times least v.failed) views
  pub top : least ≤ none_failed
  pub rooms : sum_by (λ v. v.room) views ≡ 16
  pub spare : (draws - jobs) + sum_by waiting views ≤ 16
  pub each : Each (Fits jobs draws least) views

-- a job was drawn, greater than all that the seat drew before
pub record Draws (jobs : ℕ) (me : Me (Unit {0}) View) (found : ℕ) (after : Me (Unit {0}) View) : Type 0 where
  pub view : after.0 ≡ with_drawn jobs (found + 1) me.0
  pub slots : after.1 ≡ me.1
  pub greater : (job : ℕ) → 0 < times job me.0.drawn → job ≤ found
  pub few : found ≤ jobs + 16

-- a failed job was noted
pub record Lowers (job : ℕ) (me after : Me (Unit {0}) View) : Type 0 where
  pub view : after.0 ≡ with_failed job me.0
  pub slots : after.1 ≡ me.1

-- word 1 was seen
pub record Looks (jobs : ℕ) (me : Me (Unit {0}) View) (found : ℕ) (after : Me (Unit {0}) View) : Type 0 where
  pub view : after.0 ≡ with_seen found me.0
  pub slots : after.1 ≡ me.1
  pub few : found ≢ none_failed → found ≤ jobs + 16
  pub low : (job : ℕ) → 0 < times job me.0.failed → (found ≤ job) × (job ≤ jobs + 16)
  pub stands : me.0.room ≡ 16 → found ≢ none_failed → 0 < times found me.0.failed
