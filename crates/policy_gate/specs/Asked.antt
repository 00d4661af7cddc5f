-- One question to the program that judges signatures: what the helper gained, and what was answered.
use Rattle.std.specs.Prelude.{◌≡◌, ◌⊎◌, ℕ, ◌≤◌, ℤ, List, [], ◌∷◌, ◌++◌, Option, Result, Ok, Err}
use Rattle.std.specs.Option.{option_map}
use Rattle.skopeo_outside.specs.Outside.{Rose}
use Rattle.skopeo_outside.specs.Helper.{HelperRun, RunEnd, Runs, ended_run, failed_run}
use Rattle.policy_gate.specs.declared.verdict.Verdict.{Verdict}
use Rattle.policy_gate.specs.declared.fault.AskFault.{AskFault}
use Rattle.policy_gate.specs.declared.fault.AskFault.TheVariants.{Fault, Garbled, TooLarge, Memory}
use Rattle.policy_gate.specs.Verifier.{answer_of}

-- the runs that a helper tells, with more at their end
abbrev pub Gains : List HelperRun → Runs → Runs → Type 0
Gains gained old new = new ≡ option_map (λ runs. runs ++ gained) old

-- one run of the program on the input, which came to an end, and its answer says this
abbrev pub IsEnded : List ℕ → List ℕ → Result Verdict AskFault → List HelperRun → Type 0
IsEnded program input said gained =
    (status : ℤ) × ((bytes : List ℕ) × ((answer_of status bytes ≡ said) × (gained ≡ ended_run program input status bytes ∷ [])))

-- no run, or one of the program on the input
abbrev pub IsOneAtMost : List ℕ → List ℕ → List HelperRun → Type 0
IsOneAtMost program input gained =
    (gained ≡ []) ⊎ ((how : Option RunEnd) × (gained ≡ record { program = program; input = input; ended = how } ∷ []))

-- the run, or the runs, of a question and its answer
abbrev pub IsAsked : List ℕ → List ℕ → Result Verdict AskFault → List HelperRun → Type 0
IsAsked program input (Err Fault) gained = gained ≡ failed_run program input ∷ []
IsAsked program input (Err Memory) gained = IsOneAtMost program input gained
IsAsked program input (Err (Garbled status front)) gained = IsEnded program input (Err (Garbled status front)) gained
IsAsked program input (Err (TooLarge length)) gained = IsEnded program input (Err (TooLarge length)) gained
IsAsked program input (Ok verdict) gained = IsEnded program input (Ok verdict) gained

-- what a question gained
pub record Asks (program input : List ℕ) (old new : Runs) (result : Result Verdict AskFault) : Type 0 where
  pub gained : List HelperRun
  pub told : Gains gained old new
  pub asked : IsAsked program input result gained

-- the count never falls, and a fault is answered only where it rose
pub record AskCause (before now : ℕ) (result : Result Verdict AskFault) : Type 0 where
  pub later : before ≤ now
  pub fault : result ≡ Err Fault → Rose before now
