-- What a helper tells: its runs, in order.
use Rattle.std.specs.Prelude.{◌≡◌, ℕ, ℤ, ◌⊎◌, List, [], ◌∷◌, ◌++◌, Option, Some, None}
use Rattle.std.specs.Option.{option_map}

-- how a run ended: its status, and as much of its output as was kept
pub record RunEnd : Type 0 where
  pub status : ℤ
  pub answer : List ℕ

-- one run of a program on an input; one that failed has no end
pub record HelperRun : Type 0 where
  pub program : List ℕ
  pub input : List ℕ
  pub ended : Option RunEnd

-- what a helper tells, if it tells
abbrev pub Runs : Type 0
Runs = Option (List HelperRun)

-- a run that came to its end
abbrev pub ended_run : List ℕ → List ℕ → ℤ → List ℕ → HelperRun
ended_run program input status answer =
    record { program = program; input = input; ended = Some (record { status = status; answer = answer }) }

-- a run that failed
abbrev pub failed_run : List ℕ → List ℕ → HelperRun
failed_run program input = record { program = program; input = input; ended = None }

-- the helper has gained this run
abbrev pub GainsRun : HelperRun → Runs → Runs → Type 0
GainsRun run old new = new ≡ option_map (λ runs. runs ++ run ∷ []) old

-- the helper has gained this run, or none
abbrev pub GainsRunOrNot : HelperRun → Runs → Runs → Type 0
GainsRunOrNot run old new = GainsRun run old new ⊎ (new ≡ old)
