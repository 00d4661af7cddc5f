-- What a lane keeps of its answers.
use Rattle.std.specs.Prelude.{◌≡◌, ◌≢◌, ℕ, List, [], ◌∷◌, ◌++◌, map, filter}
use Rattle.std.specs.Str.{bytes_eq}
use Rattle.copy_workers.specs.declared.asked.LaneAnswer.{LaneAnswer}
use Rattle.copy_workers.specs.declared.asked.Trail.{Trail, Start, Then'}

-- the answers so far, each with the digest of the job for which it was given
abbrev pub Answered : Type 0
Answered = List (List ℕ × LaneAnswer)

-- those of a trail, the first one first
abbrev pub trail_of : Trail → Answered
trail_of Start = []
trail_of (Then' marker before of last) = trail_of before ++ (of, last) ∷ []

-- the answers that were given for jobs of this digest, in order
unfoldable pub answers_to : Answered → List ℕ → List LaneAnswer
answers_to asked digest = map (λ e. e.1) (filter (λ e. bytes_eq e.0 digest) asked)

-- one answer more was given for jobs of this digest, and none for others
pub record Adds (digest : List ℕ) (answer : LaneAnswer) (old new : Answered) : Type 0 where
  pub this : answers_to new digest ≡ answers_to old digest ++ answer ∷ []
  pub others : (other : List ℕ) → other ≢ digest → answers_to new other ≡ answers_to old other
