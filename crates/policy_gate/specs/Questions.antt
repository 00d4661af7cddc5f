-- What the program is asked at most: at every exit of a gate each run that was gained asked the named program for one of the
-- signatures, by the keys that were read for some requirement.
use Rattle.std.specs.Prelude.{◌≡◌, ℕ, List, [], ◌∷◌, ◌++◌, Option, Some}
use Rattle.skopeo_outside.specs.Helper.{HelperRun}
use Rattle.policy_file.specs.declared.requirement.Keys.{Keys}
use Rattle.policy_gate.specs.declared.keys.KeysRead.TheVariants.{Read}
use Rattle.policy_gate.specs.KeyFiles.{AreRead}
use Rattle.policy_gate.specs.Verifier.{verifier_input}
use Rattle.policy_gate.specs.Gate.{Case}

-- the run is such a question
pub record IsQuestion (c : Case) (run : HelperRun) : Type 0 where
  pub program : c.program ≡ Some run.program
  pub requirement : Keys
  pub keys : List (List ℕ)
  pub read : AreRead c.cwd c.tree requirement (Read keys)
  pub earlier : List (List ℕ)
  pub signature : List ℕ
  pub later : List (List ℕ)
  pub one_of : c.signatures ≡ earlier ++ signature ∷ later
  pub input : run.input ≡ verifier_input keys signature

-- each run is one
abbrev pub AskOnly : Case → List HelperRun → Type 0
AskOnly c [] = Unit {0}
AskOnly c (run ∷ runs) = IsQuestion c run × AskOnly c runs
