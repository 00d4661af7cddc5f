-- A component of a path.
--
--   component = run {separator run}
--   run       = one or more of "a" .. "z" and "0" .. "9"
--   separator = "." | "_" | "__" | one or more "-"
use Rattle.std.specs.Prelude.{ℕ, ◌<◌, List, ◌++◌, length, ◌==◌, codes}
use Rattle.std.specs.List.{AllPass}
use Rattle.image_ref.specs.Characters.{is_run_byte, dash}

-- a run
pub record IsRun (text : List ℕ) : Type 0 where
  pub some : 0 < length text
  pub bytes : AllPass is_run_byte text

-- one or more dashes
pub record IsDashes (text : List ℕ) : Type 0 where
  pub some : 0 < length text
  pub bytes : AllPass (λ b. b == dash) text

-- a separator
pub data IsSeparator : List ℕ → Type 0 where
  a_dot : IsSeparator (codes ".")
  one : IsSeparator (codes "_")
  two : IsSeparator (codes "__")
  dashes : (text : List ℕ) → IsDashes text → IsSeparator text

-- a component: a run, or a run, a separator and a component
pub data IsComponent : List ℕ → Type 0 where
  last : (run : List ℕ) → IsRun run → IsComponent run
  joined :
      (run separator rest : List ℕ) → IsRun run → IsSeparator separator → IsComponent rest
      → IsComponent (run ++ (separator ++ rest))
