-- The list of a policy that counts for an image: that of the most specific scope that is there.
use Rattle.std.specs.Prelude.{ℕ, List, [], ◌∷◌, Option, Some, None, option_map}
use Rattle.std.specs.List.{filter_map}
use Rattle.image_ref.specs.declared.place.Place.{Place}
use Rattle.image_ref.specs.declared.place.Place.TheVariants.{Docker, Dir, Oci}
use Rattle.policy_file.specs.PolicyLists.{PolicyLists, Scope, list_at}
use Rattle.policy_file.specs.Lookup.{scopes_for}
use Rattle.policy_file.specs.declared.policy.Transport.{Transport}
use Rattle.policy_file.specs.declared.policy.Transport.TheVariants as of
use Rattle.policy_file.specs.declared.requirement.Requirement.{Requirement}
use Rattle.policy_scope.specs.Scopes.{scopes}

-- the transport of a place
abbrev pub transport_of : Place → Transport
transport_of (Docker r) = of.Docker
transport_of (Dir path) = of.Dir
transport_of (Oci path tag) = of.Oci

-- the scope of that name with its list, where it is there
abbrev pub scope_at : List Scope → List ℕ → Option Scope
scope_at there name = option_map (λ list. record { name = name; list = list }) (list_at name there)

-- the scopes of an image that the policy has, most specific first
abbrev pub known : PolicyLists → Place → List Scope
known policy place =
    filter_map (scope_at (scopes_for (transport_of place) policy)) (scopes place)

-- a list that counts, and the scope that has it, if it is not the default one
pub record Choice : Type 0 where
  pub scope : Option (List ℕ)
  pub list : List Requirement

-- the first scope and its list, else the default list
abbrev pub first_or : List Requirement → List Scope → Choice
first_or default [] = record { scope = None; list = default }
first_or default (s ∷ more) = record { scope = Some s.name; list = s.list }

-- the list that counts for an image
abbrev pub chosen : PolicyLists → Place → Choice
chosen policy place = first_or policy.default (known policy place)
