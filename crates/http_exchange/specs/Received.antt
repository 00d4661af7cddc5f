-- What a call that receives did: which bytes came, and what they gave behind those that waited.
use Rattle.std.specs.Prelude.{◌≡◌, ℕ, ◌-◌, ◌<◌, ◌≤◌, Bool, true, false, not, List, [], ◌++◌, length, take, Result, IsErrOf}
use Rattle.skopeo_outside.specs.Outside.{Rose}
use Rattle.skopeo_outside.specs.Wire.{Conversations, GoesOn, with_received}
use Rattle.skopeo_outside.specs.declared.stop.Stop.{Stop}
use Rattle.skopeo_outside.specs.declared.stop.Stop.TheVariants.{Fault, Memory as Want}
use Rattle.http_message.specs.declared.fault.AnswerFault.{AnswerFault}
use Rattle.http_message.specs.declared.fault.AnswerFault.TheVariants.{Wire, Memory}
use Rattle.http_message.specs.Outcome.{Outcome, Gives, unfinished}
use Rattle.http_message.specs.Faults.{most_shown}

-- what is held of the bytes that came: the first 64 of all, and those that were not read yet
pub record Held : Type 0 where
  pub first : List ℕ
  pub waiting : List ℕ

-- nothing came
abbrev pub empty : Held
empty = record { first = []; waiting = [] }

-- the first bytes of all, once these were added
pub record Notes (old added new : List ℕ) : Type 0 where
  pub shows : new ≡ old ++ take (most_shown - length old) added

-- The call received these bytes, and perhaps the end. Behind those that waited, they are what it found, or what stopped it.
pub record Receives {T : Type 0} (old new : Conversations) (before after : Held)
    (Found : T → List ℕ → Bool → Type 0) (Stops : Outcome → List ℕ → Bool → Type 0) (result : Result T AnswerFault) : Type 0 where
  pub added : List ℕ
  pub ended : Bool
  pub told : GoesOn (with_received added ended) old new
  pub noted : Notes before.first added after.first
  pub gives : Gives (λ x. Found x (before.waiting ++ added) ended) (λ o. Stops o (before.waiting ++ added) ended) result

-- the fault that a stop of the wire comes to
abbrev pub fault_of_stop : Stop → AnswerFault
fault_of_stop Fault = Wire
fault_of_stop Want = Memory

-- the count of faults never falls, and the wire is named only where it rose
pub record CountsFaults {T : Type 0} (before after : ℕ) (result : Result T AnswerFault) : Type 0 where
  pub later : before ≤ after
  pub wire : IsErrOf result Wire → Rose before after

-- all that came waits now, and it has grown or the end has come
pub record Filled (before after : List ℕ) (more : Bool) (all : List ℕ) (ended : Bool) : Type 0 where
  pub waits : after ≡ all
  pub end_is : ended ≡ not more
  pub grown : more ≡ true → length before < length after
  pub same : more ≡ false → after ≡ before

-- nothing came
pub record NotFilled (before : List ℕ) (o : Outcome) (all : List ℕ) (ended : Bool) : Type 0 where
  pub unknown : o ≡ unfinished
  pub more : ended ≡ false
  pub same : all ≡ before

-- some bytes came, and all of them wait now
pub record Came (old new : Conversations) (before after : Held) : Type 0 where
  pub added : List ℕ
  pub told : GoesOn (with_received added false) old new
  pub waits : after.waiting ≡ before.waiting ++ added
  pub noted : Notes before.first added after.first
