-- The policy that a JSON tree is, or its first fault (containers-policy.json(5)).
-- Faults come in the order of these definitions: the whole, its member names, `default`, then
-- `transports` with its members and scopes in byte order, and the places of each list in order.
use Rattle.std.specs.Prelude.{ℕ, suc, codes, List, [], ◌∷◌, if◌then◌else◌, Option, Some, None, Ok, Result}
use Rattle.std.specs.Str.{bytes_eq}
use Rattle.serde_json.specs.Data.{Data, array, object, Items, no_items, item, Members, no_members, member}
use Rattle.serde_json.specs.Find.{get_member}
use Rattle.json_tree.specs.Tree.{tree}
use Rattle.json_tree.specs.declared.path.Step.TheVariants.{Name, Place}
use Rattle.policy_file.specs.declared.fault.PolicyKind.TheVariants.{NotJson, Shape, NoDefault, EmptyList, UnknownType}
use Rattle.policy_file.specs.declared.fault.PolicyFault.{PolicyFault}
use Rattle.policy_file.specs.declared.requirement.Requirement.{Requirement}
use Rattle.policy_file.specs.declared.requirement.Requirement.TheVariants.{Accept, Reject, SignedBy, Sigstore}
use Rattle.policy_file.specs.Judged.{Judged, ◌>>=◌, refuse, under, told_of}
use Rattle.policy_file.specs.Members.{only, text_at}
use Rattle.policy_file.specs.Keys.{keys_of}
use Rattle.policy_file.specs.Identity.{identity_of}
use Rattle.policy_file.specs.PolicyLists.{PolicyLists, Scope, of_default, with_transport}

-- each item in turn, the first at place i; the first fault counts
abbrev pub items_by : {A : Type 0} → (Data → Judged A) → ℕ → Items → Judged (List A)
items_by f i no_items = Ok []
items_by f i (item d ds) = under (Place i) (f d) >>= (λ x. items_by f (suc i) ds >>= (λ xs. Ok (x ∷ xs)))

-- each member in turn
abbrev pub members_by : {A : Type 0} → (List ℕ → Data → Judged A) → Members → Judged (List A)
members_by f no_members = Ok []
members_by f (member k d ms) = under (Name k) (f k d) >>= (λ x. members_by f ms >>= (λ xs. Ok (x ∷ xs)))

abbrev pub or_no_type : Option (List ℕ) → Judged (List ℕ)
or_no_type (Some word) = Ok word
or_no_type None = refuse Shape (Name (codes "type") ∷ [])

-- the text at `type`
abbrev pub type_word : Data → Judged (List ℕ)
type_word d = or_no_type (text_at (codes "type") d)

abbrev pub signed_by_names : List (List ℕ)
signed_by_names = codes "type" ∷ codes "keyData" ∷ codes "keyPath" ∷ codes "keyPaths" ∷ codes "keyType" ∷ codes "signedIdentity" ∷ []

-- `signedBy`: its names, its keys, its identity rule
unfoldable pub signed_by_of : Members → Judged Requirement
signed_by_of ms = do
  _ ← only signed_by_names ms
  keys ← keys_of (object ms)
  rule ← identity_of (get_member (codes "signedIdentity") ms)
  Ok (SignedBy keys rule)

-- `insecureAcceptAnything` and `reject`: `type` alone
unfoldable pub plain_of : Requirement → Members → Judged Requirement
plain_of requirement ms = do
  _ ← only (codes "type" ∷ []) ms
  Ok requirement

-- the requirement of that type; the members of `sigstoreSigned` are not looked at
unfoldable pub by_type : List ℕ → Members → Judged Requirement
by_type word ms =
    if bytes_eq word (codes "insecureAcceptAnything") then plain_of Accept ms
    else if bytes_eq word (codes "reject") then plain_of Reject ms
    else if bytes_eq word (codes "signedBy") then signed_by_of ms
    else if bytes_eq word (codes "sigstoreSigned") then Ok Sigstore
    else refuse UnknownType (Name (codes "type") ∷ [])

abbrev pub requirement_of : Data → Judged Requirement
requirement_of (object ms) = type_word (object ms) >>= (λ word. by_type word ms)
requirement_of _ = refuse Shape []

abbrev pub some_of : Items → Judged (List Requirement)
some_of no_items = refuse EmptyList []
some_of (item d ds) = items_by requirement_of 0 (item d ds)

-- a list of one or more requirements
abbrev pub list_of : Data → Judged (List Requirement)
list_of (array ds) = some_of ds
list_of _ = refuse Shape []

abbrev pub scope_of : List ℕ → Data → Judged Scope
scope_of name d = do
  list ← list_of d
  Ok (record { name = name; list = list })

-- an object from scopes to lists
abbrev pub scopes_of : Data → Judged (List Scope)
scopes_of (object ms) = members_by scope_of ms
scopes_of _ = refuse Shape []

-- each transport's scopes in turn, with those of known transports kept
abbrev pub with_transports : PolicyLists → Members → Judged PolicyLists
with_transports lists no_members = Ok lists
with_transports lists (member k d ms) = under (Name k) (scopes_of d) >>= (λ scopes. with_transports (with_transport k scopes lists) ms)

-- an object from transports to scopes, which may be absent
abbrev pub transports_of : PolicyLists → Option Data → Judged PolicyLists
transports_of lists None = Ok lists
transports_of lists (Some (object ms)) = under (Name (codes "transports")) (with_transports lists ms)
transports_of lists (Some _) = refuse Shape (Name (codes "transports") ∷ [])

abbrev pub default_of : Option Data → Judged (List Requirement)
default_of None = refuse NoDefault []
default_of (Some d) = under (Name (codes "default")) (list_of d)

unfoldable pub members_of : Members → Judged PolicyLists
members_of ms = do
  _ ← only (codes "default" ∷ codes "transports" ∷ []) ms
  list ← default_of (get_member (codes "default") ms)
  transports_of (of_default list) (get_member (codes "transports") ms)

abbrev pub policy_of : Option Data → Judged PolicyLists
policy_of None = refuse NotJson []
policy_of (Some (object ms)) = members_of ms
policy_of (Some _) = refuse Shape []

-- the policy that the bytes of a file are, or the first fault with the JSON Pointer of its member
abbrev pub policy_in : List ℕ → Result PolicyLists PolicyFault
policy_in bytes = told_of (policy_of (tree bytes))
