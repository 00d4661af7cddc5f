-- The list of requirements that a policy has for an image (containers-policy.json(5), "transports"): that of the most
-- specific scope of the image which the policy has, or the default one.
use Rattle.std.specs.Prelude.{◌≡◌, ◌⊎◌, ◌++◌, ◌∷◌, ℕ, List, All, Some, None}
use Rattle.image_ref.specs.declared.place.Place.{Place}
use Rattle.image_ref.specs.declared.place.Place.TheVariants.{Docker, Dir, Oci}
use Rattle.policy_file.specs.PolicyLists.{PolicyLists, Scope, list_at}
use Rattle.policy_file.specs.declared.requirement.Requirement.{Requirement}
use Rattle.policy_scope.specs.Scopes.{scopes}

-- the scopes that a policy has for the transport of a place
abbrev pub scopes_in : PolicyLists → Place → List Scope
scopes_in policy (Docker r) = policy.docker
scopes_in policy (Dir path) = policy.dir
scopes_in policy (Oci path tag) = policy.oci

-- none of the names is that of a scope here
abbrev pub AreAbsent : List Scope → List (List ℕ) → Type 0
AreAbsent here names = All (λ name. list_at name here ≡ None) names

-- the first of the names that is that of a scope here has this list
pub record IsFirstThere (here : List Scope) (names : List (List ℕ)) (list : List Requirement) : Type 0 where
  pub before : List (List ℕ)
  pub name : List ℕ
  pub after : List (List ℕ)
  pub joined : names ≡ before ++ (name ∷ after)
  pub absent : AreAbsent here before
  pub there : list_at name here ≡ Some list

-- the same, or the default list where none of the names is
abbrev pub IsFirstOr : List Requirement → List Scope → List (List ℕ) → List Requirement → Type 0
IsFirstOr default here names list = IsFirstThere here names list ⊎ (AreAbsent here names × (list ≡ default))

-- the list of the policy that counts for the image of a place; its scopes stand most specific first
abbrev pub ListCounts : PolicyLists → Place → List Requirement → Type 0
ListCounts policy place list = IsFirstOr policy.default (scopes_in policy place) (scopes place) list
