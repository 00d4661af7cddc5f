-- What the code shortens and looks up, and how it holds what it found.
use Rattle.std.specs.Prelude.{◌≡◌, ℕ, List, [], ◌∷◌, ◌++◌, map, true, ◌==◌, if◌then◌else◌, Option, Some, None, option_map}
use Rattle.std.specs.Borrow.{Bor}
use Rattle.image_ref.specs.Characters.{slash}
use Rattle.image_ref.specs.Cuts.{lacks}
use Rattle.image_ref.specs.Reference.{Reference, full, repository_of}
use Rattle.policy_file.specs.PolicyLists.{Scope}
use Rattle.policy_file.specs.declared.requirement.Requirement.{Requirement}
use Rattle.policy_scope.specs.Chosen.{scope_at}
use Rattle.policy_scope.specs.Scopes.{wildcards}

-- a text, and what stands before each of its slashes, longest first
abbrev pub shortened : List ℕ → List (List ℕ)
shortened [] = [] ∷ []
shortened (b ∷ rest) = map (λ t. b ∷ t) (shortened rest) ++ (if b == slash then [] ∷ [] else [])

-- the first where there is one, else the second
abbrev pub or_else : Option Scope → Option Scope → Option Scope
or_else None second = second
or_else (Some s) second = Some s

-- the first of the names that is there, with its list
abbrev pub first_known : List Scope → List (List ℕ) → Option Scope
first_known there [] = None
first_known there (name ∷ more) = or_else (scope_at there name) (first_known there more)

-- the texts that a reference has beside it are its own
pub record IsSpelled (r : Reference) (text name : List ℕ) (stars : List (List ℕ)) : Type 0 where
  pub whole : text ≡ full r
  pub repository : name ≡ repository_of r
  pub wildcards : stars ≡ wildcards r.host
  pub host : lacks slash r.host ≡ true

-- a scope with its list, as the code finds it
abbrev pub seen : Option (Bor (List ℕ) × Bor (List Requirement)) → Option Scope
seen found = option_map (λ e. record { name = e.0.now; list = e.1.now }) found
