-- The first fault of a policy file (containers-policy.json(5)): a table of rows for each part of it, of
-- which the first counts that finds a fault. A row says what is wrong, its kind, and the member.
use Rattle.std.specs.Prelude.{◌≡◌, ℕ, suc, codes, List, [], ◌∷◌, Option, Some, None, Contains}
use Rattle.serde_json.specs.Data.{Data, array, object, Items, no_items, item, Members, no_members, member}
use Rattle.serde_json.specs.Find.{get}
use Rattle.json_tree.specs.Tree.{pointer}
use Rattle.json_tree.specs.declared.path.Step.{Step}
use Rattle.json_tree.specs.declared.path.Step.TheVariants.{Name, Place}
use Rattle.policy_file.specs.declared.fault.PolicyFault.{PolicyFault}
use Rattle.policy_file.specs.declared.fault.PolicyFault.TheVariants.{Refused, Memory}
use Rattle.policy_file.specs.declared.fault.PolicyKind.TheVariants.{NotJson, Shape, UnknownKey, NoDefault, EmptyList, UnknownType, BadKeys, BadIdentity}
use Rattle.policy_file.specs.declared.requirement.IdentityRule.{IdentityRule}
use Rattle.policy_file.specs.declared.requirement.Keys.{Keys}
use Rattle.policy_file.specs.IsRequirement.{HasText, IsKeys, IsIdentity, key_names}
use Rattle.policy_file.specs.Rows.{Row, row, FirstOf, Under, Where}

-- the value is no object
abbrev pub IsNoObject : Data → Type 0
IsNoObject (object ms) = ⊥
IsNoObject _ = Unit {0}

-- the value is no array
abbrev pub IsNoArray : Data → Type 0
IsNoArray (array ds) = ⊥
IsNoArray _ = Unit {0}

-- each member of another name than these; members stand in byte order of their names
abbrev pub others_in : List (List ℕ) → Members → List Row
others_in names no_members = []
others_in names (member k d ms) =
    row (Contains names k → ⊥) UnknownKey (Name k ∷ []) ∷ others_in names ms

-- the members of an object that have another name
abbrev pub other_names : List (List ℕ) → Data → List Row
other_names names (object ms) = others_in names ms
other_names names _ = []

-- each member of an object, by the faults of values
abbrev pub members_in : (Data → Row) → Members → List Row
members_in faults no_members = []
members_in faults (member k d ms) = Under (Name k) (faults d) ∷ members_in faults ms

-- an object, each of whose members has no fault
abbrev pub object_fault : (Data → Row) → Data → Row
object_fault faults (object ms) = FirstOf (members_in faults ms)
object_fault faults _ = row (Unit {0}) Shape []

-- each item, the first at place i
abbrev pub items_in : (Data → Row) → ℕ → Items → List Row
items_in faults i no_items = []
items_in faults i (item d ds) = Under (Place i) (faults d) ∷ items_in faults (suc i) ds

-- a type of requirements
abbrev pub IsOf : List ℕ → Data → Type 0
IsOf word d = HasText (codes "type") d word

-- the value says none of the four types
pub record IsOfNone (d : Data) : Type 0 where
  pub accepts : IsOf (codes "insecureAcceptAnything") d → ⊥
  pub rejects : IsOf (codes "reject") d → ⊥
  pub signs : IsOf (codes "signedBy") d → ⊥
  pub sigstore : IsOf (codes "sigstoreSigned") d → ⊥

-- the names that the members of a `signedBy` may have
abbrev pub signed_names : List (List ℕ)
signed_names = codes "type" ∷ key_names

-- a `signedBy`
abbrev pub signed_table : Data → List Row
signed_table d =
    FirstOf (other_names signed_names d)
    ∷ row ((keys : Keys) → IsKeys d keys → ⊥) BadKeys []
    ∷ row ((rule : IdentityRule) → IsIdentity (get (codes "signedIdentity") d) rule → ⊥)
    BadIdentity (Name (codes "signedIdentity") ∷ [])
    ∷ []

-- a requirement; of a `sigstoreSigned` no other member is looked at
abbrev pub requirement_table : Data → List Row
requirement_table d =
    row (IsNoObject d) Shape []
    ∷ row ((word : List ℕ) → IsOf word d → ⊥) Shape (Name (codes "type") ∷ [])
    ∷ row (IsOfNone d) UnknownType (Name (codes "type") ∷ [])
    ∷ Where (IsOf (codes "insecureAcceptAnything") d) (FirstOf (other_names (codes "type" ∷ []) d))
    ∷ Where (IsOf (codes "reject") d) (FirstOf (other_names (codes "type" ∷ []) d))
    ∷ Where (IsOf (codes "signedBy") d) (FirstOf (signed_table d))
    ∷ []

abbrev pub requirement_fault : Data → Row
requirement_fault d = FirstOf (requirement_table d)

-- a list of requirements
abbrev pub list_fault : Data → Row
list_fault (array no_items) = row (Unit {0}) EmptyList []
list_fault (array (item d ds)) = FirstOf (items_in requirement_fault 0 (item d ds))
list_fault _ = row (Unit {0}) Shape []

-- an object from scopes to lists
abbrev pub scopes_fault : Data → Row
scopes_fault d = object_fault list_fault d

-- an object from transports to scopes
abbrev pub transports_fault : Data → Row
transports_fault d = object_fault scopes_fault d

-- the member of that name, where it is there
abbrev pub at_member : List ℕ → (Data → Row) → Option Data → Row
at_member name faults None fault = ⊥
at_member name faults (Some d) fault = Under (Name name) (faults d) fault

-- the whole
abbrev pub policy_table : Data → List Row
policy_table d =
    row (IsNoObject d) Shape []
    ∷ FirstOf (other_names (codes "default" ∷ codes "transports" ∷ []) d)
    ∷ row (get (codes "default") d ≡ None) NoDefault []
    ∷ at_member (codes "default") list_fault (get (codes "default") d)
    ∷ at_member (codes "transports") transports_fault (get (codes "transports") d)
    ∷ []

-- the first fault of the bytes of this tree; None is that they are no JSON
abbrev pub policy_fault : Option Data → Row
policy_fault None = row (Unit {0}) NotJson []
policy_fault (Some d) = FirstOf (policy_table d)

-- the fault as callers are told it, with the JSON Pointer of its member
abbrev pub IsFirstPolicyFault : Option Data → PolicyFault → Type 0
IsFirstPolicyFault tree (Refused kind place) =
    (path : List Step) × policy_fault tree (kind, path) × (place ≡ pointer path)
IsFirstPolicyFault tree Memory = ⊥
