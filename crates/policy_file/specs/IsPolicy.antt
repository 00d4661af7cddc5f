-- What a policy file says (containers-policy.json(5), "Format"), as relations between JSON trees and the lists of a
-- policy. Of faults and their order nothing is said here.
use Rattle.std.specs.Prelude.{◌≡◌, ◌≢◌, codes, List, [], ◌∷◌, Option, Some, None, option_and_then}
use Rattle.serde_json.specs.Data.{Data, array, object, Items, no_items, item, Members, no_members, member}
use Rattle.serde_json.specs.Find.{get}
use Rattle.policy_file.specs.declared.requirement.Requirement.{Requirement}
use Rattle.policy_file.specs.IsRequirement.{IsObjectOf, IsRequirement}
use Rattle.policy_file.specs.PolicyLists.{PolicyLists, Scope}

-- the items are these requirements, one by one
abbrev pub AreRequirements : Items → List Requirement → Type 0
AreRequirements no_items [] = Unit {0}
AreRequirements (item d ds) (r ∷ rs) = IsRequirement d r × AreRequirements ds rs
AreRequirements _ _ = ⊥

-- a list of one or more requirements
abbrev pub IsList : Data → List Requirement → Type 0
IsList (array ds) list = (list ≢ []) × AreRequirements ds list
IsList _ list = ⊥

-- the members are these scopes with their lists, one by one
abbrev pub AreScopes : Members → List Scope → Type 0
AreScopes no_members [] = Unit {0}
AreScopes (member k d ms) (s ∷ ss) = (s.name ≡ k) × (IsList d s.list × AreScopes ms ss)
AreScopes _ _ = ⊥

-- an object from scopes to lists
abbrev pub IsScopes : Data → List Scope → Type 0
IsScopes (object ms) scopes = AreScopes ms scopes
IsScopes _ scopes = ⊥

-- each member is an object from scopes to lists
abbrev pub EachHasScopes : Members → Type 0
EachHasScopes no_members = Unit {0}
EachHasScopes (member k d ms) = ((scopes : List Scope) × IsScopes d scopes) × EachHasScopes ms

-- an object from transports, known or not, to scopes; it may be absent
abbrev pub MapsTransports : Option Data → Type 0
MapsTransports None = Unit {0}
MapsTransports (Some (object ms)) = EachHasScopes ms
MapsTransports (Some _) = ⊥

-- a transport that is absent has no scopes
abbrev pub HasScopes : Option Data → List Scope → Type 0
HasScopes None scopes = scopes ≡ []
HasScopes (Some d) scopes = IsScopes d scopes

-- the default list stands at `default`, which has to be there
abbrev pub HasList : Option Data → List Requirement → Type 0
HasList None list = ⊥
HasList (Some d) list = IsList d list

-- the tree says that policy
pub record IsPolicyOf (d : Data) (lists : PolicyLists) : Type 0 where
  pub only : IsObjectOf (codes "default" ∷ codes "transports" ∷ []) d
  pub default : HasList (get (codes "default") d) lists.default
  pub each : MapsTransports (get (codes "transports") d)
  pub docker : HasScopes (option_and_then (get (codes "docker")) (get (codes "transports") d)) lists.docker
  pub dir : HasScopes (option_and_then (get (codes "dir")) (get (codes "transports") d)) lists.dir
  pub oci : HasScopes (option_and_then (get (codes "oci")) (get (codes "transports") d)) lists.oci

-- bytes that are no JSON say none
abbrev pub IsPolicy : Option Data → PolicyLists → Type 0
IsPolicy None lists = ⊥
IsPolicy (Some d) lists = IsPolicyOf d lists
