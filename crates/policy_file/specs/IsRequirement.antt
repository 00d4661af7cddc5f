-- What an element of a requirement list says (containers-policy.json(5), "Policy requirements"), as relations between
-- JSON trees and what they stand for. Of faults and their order nothing is said here.
use Rattle.std.specs.Prelude.{◌≡◌, ◌≢◌, ◌⊎◌, ◌++◌, ℕ, codes, List, [], ◌∷◌, Option, Some, None, Contains, IsSome}
use Rattle.serde_json.specs.Data.{Data, string, array, object, Items, no_items, item, Members, no_members, member}
use Rattle.serde_json.specs.Find.{get}
use Rattle.image_ref.specs.Reference.{Reference, Named}
use Rattle.policy_file.specs.declared.requirement.Keys.{Keys}
use Rattle.policy_file.specs.declared.requirement.Keys.TheVariants.{Paths, Bytes}
use Rattle.policy_file.specs.declared.requirement.IdentityRule.{IdentityRule}
use Rattle.policy_file.specs.declared.requirement.IdentityRule.TheVariants.{Exact, RepoDigestOrExact, Repository, ExactReference, ExactRepository, Remap}
use Rattle.policy_file.specs.declared.requirement.Requirement.{Requirement}
use Rattle.policy_file.specs.declared.requirement.Requirement.TheVariants.{Accept, Reject, SignedBy, Sigstore}
use Rattle.policy_file.specs.Keys.{base64_of}

-- each member has one of these names
abbrev pub HasOnly : List (List ℕ) → Members → Type 0
HasOnly names no_members = Unit {0}
HasOnly names (member k d ms) = Contains names k × HasOnly names ms

-- an object, each of whose members has one of these names
abbrev pub IsObjectOf : List (List ℕ) → Data → Type 0
IsObjectOf names (object ms) = HasOnly names ms
IsObjectOf names _ = ⊥

-- the member of that name is that text
abbrev pub HasText : List ℕ → Data → List ℕ → Type 0
HasText name d text = get name d ≡ Some (string text)

-- an object with that text at `type` and with no other member than these
pub record IsOfType (word : List ℕ) (names : List (List ℕ)) (d : Data) : Type 0 where
  pub only : IsObjectOf (codes "type" ∷ names) d
  pub named : HasText (codes "type") d word

-- a list of texts
abbrev pub texts_data : List (List ℕ) → Items
texts_data [] = no_items
texts_data (t ∷ ts) = item (string t) (texts_data ts)

-- the paths stand at `keyPath`, one alone, or at `keyPaths`, one or more
abbrev pub ArePaths : Option Data → Option Data → List (List ℕ) → Type 0
ArePaths path paths texts =
    ((paths ≡ None) × ((text : List ℕ) × ((path ≡ Some (string text)) × (texts ≡ text ∷ []))))
    ⊎ ((path ≡ None) × ((paths ≡ Some (array (texts_data texts))) × (texts ≢ [])))

-- the keys are what stands at `keyPath`, `keyPaths` and `keyData`, of which one alone is there
abbrev pub IsKeysFrom : Option Data → Option Data → Option Data → Keys → Type 0
IsKeysFrom path paths bytes (Paths texts) = (bytes ≡ None) × ArePaths path paths texts
IsKeysFrom path paths bytes (Bytes key) =
    (path ≡ None) × ((paths ≡ None) × ((text : List ℕ) × ((bytes ≡ Some (string text)) × (base64_of text ≡ Some key))))

-- the keys of a `signedBy`
pub record IsKeys (d : Data) (keys : Keys) : Type 0 where
  pub kind : HasText (codes "keyType") d (codes "GPGKeys")
  pub members : IsKeysFrom (get (codes "keyPath") d) (get (codes "keyPaths") d) (get (codes "keyData") d) keys

-- the text of the member names the reference
abbrev pub NamesAt : List ℕ → Data → Reference → Type 0
NamesAt name d r = (text : List ℕ) × (HasText name d text × Named text r)

-- the text of the member is not empty and does not end in a slash
pub record IsPrefixAt (name : List ℕ) (d : Data) (text : List ℕ) : Type 0 where
  pub there : HasText name d text
  pub some : text ≢ []
  pub ends : (front : List ℕ) → text ≢ front ++ codes "/"

-- the identity rule of a `signedIdentity`
abbrev pub IsRule : Data → IdentityRule → Type 0
IsRule d Exact = IsOfType (codes "matchExact") [] d
IsRule d RepoDigestOrExact = IsOfType (codes "matchRepoDigestOrExact") [] d
IsRule d Repository = IsOfType (codes "matchRepository") [] d
IsRule d (ExactReference r) =
    IsOfType (codes "exactReference") (codes "dockerReference" ∷ []) d × (NamesAt (codes "dockerReference") d r × (IsSome r.tag ⊎ IsSome r.digest))
IsRule d (ExactRepository r) =
    IsOfType (codes "exactRepository") (codes "dockerRepository" ∷ []) d × NamesAt (codes "dockerRepository") d r
IsRule d (Remap prefix signed) =
    IsOfType (codes "remapIdentity") (codes "prefix" ∷ codes "signedPrefix" ∷ []) d
    × (IsPrefixAt (codes "prefix") d prefix × IsPrefixAt (codes "signedPrefix") d signed)

-- without `signedIdentity` the rule is `matchRepoDigestOrExact`
abbrev pub IsIdentity : Option Data → IdentityRule → Type 0
IsIdentity None rule = rule ≡ RepoDigestOrExact
IsIdentity (Some d) rule = IsRule d rule

abbrev pub key_names : List (List ℕ)
key_names = codes "keyData" ∷ codes "keyPath" ∷ codes "keyPaths" ∷ codes "keyType" ∷ codes "signedIdentity" ∷ []

-- a `signedBy`
pub record IsSignedBy (d : Data) (keys : Keys) (rule : IdentityRule) : Type 0 where
  pub type : IsOfType (codes "signedBy") key_names d
  pub signers : IsKeys d keys
  pub identity : IsIdentity (get (codes "signedIdentity") d) rule

-- an element is that requirement; a `sigstoreSigned` may have any members
abbrev pub IsRequirement : Data → Requirement → Type 0
IsRequirement d Accept = IsOfType (codes "insecureAcceptAnything") [] d
IsRequirement d Reject = IsOfType (codes "reject") [] d
IsRequirement d (SignedBy keys rule) = IsSignedBy d keys rule
IsRequirement d Sigstore = HasText (codes "type") d (codes "sigstoreSigned")
