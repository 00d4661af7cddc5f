-- What a policy holds: its default list, and for each transport the lists of its scopes.
use Rattle.std.specs.Prelude.{ℕ, codes, List, [], ◌∷◌, Option, Some, None, if◌then◌else◌}
use Rattle.std.specs.Ordering.{nat_cmp, match_ordering}
use Rattle.std.specs.Cmp.Lexicographic.{slice_cmp}
use Rattle.std.specs.Str.{bytes_eq}
use Rattle.policy_file.specs.declared.requirement.Requirement.{Requirement}
use Rattle.policy_file.specs.declared.requirement.Requirement.TheVariants.{Accept}

-- a scope and its requirements
pub record Scope : Type 0 where
  pub name : List ℕ
  pub list : List Requirement

-- the scopes of each transport stand in byte order of their names, each name once
pub record PolicyLists : Type 0 where
  pub default : List Requirement
  pub docker : List Scope
  pub dir : List Scope
  pub oci : List Scope

-- the list of a scope, where the policy has the scope
abbrev pub list_at : List ℕ → List Scope → Option (List Requirement)
list_at name [] = None
list_at name (s ∷ ss) = if bytes_eq name s.name then Some s.list else list_at name ss

-- the policy with one list, for every image
abbrev pub of_default : List Requirement → PolicyLists
of_default list = record { default = list; docker = []; dir = []; oci = [] }

-- the policy that accepts every image
abbrev pub accepting : PolicyLists
accepting = of_default (Accept ∷ [])

-- the scopes with one more, at its place in byte order
abbrev pub with_scope : List ℕ → List Requirement → List Scope → List Scope
with_scope name list [] = record { name = name; list = list } ∷ []
with_scope name list (s ∷ ss) = match_ordering (slice_cmp nat_cmp name s.name)
    (record { name = name; list = list } ∷ s ∷ ss) (record { name = s.name; list = list } ∷ ss) (s ∷ with_scope name list ss)

-- the lists with these scopes for the transport of that name; those of another transport are not kept
abbrev pub with_transport : List ℕ → List Scope → PolicyLists → PolicyLists
with_transport name scopes lists =
    if bytes_eq name (codes "docker") then record lists { docker = scopes }
    else if bytes_eq name (codes "dir") then record lists { dir = scopes }
    else if bytes_eq name (codes "oci") then record lists { oci = scopes }
    else lists
