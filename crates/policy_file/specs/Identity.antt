-- The identity rule of a `signedBy` (containers-policy.json(5), "signedIdentity").
use Rattle.std.specs.Prelude.{ℕ, codes, List, [], ◌∷◌, length, nat_eq, Bool, true, false, ◌&&◌, ◌==◌, not, if◌then◌else◌, Option, Some, None, option_map, option_and_then, Ok}
use Rattle.std.specs.List.{ends_with}
use Rattle.std.specs.Str.{bytes_eq}
use Rattle.std.specs.Result.{result_ok}
use Rattle.serde_json.specs.Data.{Data}
use Rattle.image_ref.specs.Reference.{Reference}
use Rattle.image_ref.specs.Reading.{reading_of}
use Rattle.json_tree.specs.declared.path.Step.TheVariants.{Name}
use Rattle.policy_file.specs.declared.fault.PolicyKind.TheVariants.{BadIdentity}
use Rattle.policy_file.specs.declared.requirement.IdentityRule.{IdentityRule}
use Rattle.policy_file.specs.declared.requirement.IdentityRule.TheVariants.{Exact, RepoDigestOrExact, Repository, ExactReference, ExactRepository, Remap}
use Rattle.policy_file.specs.Judged.{Judged, refuse}
use Rattle.policy_file.specs.Members.{has_only, text_at}

-- the value, where the test holds
abbrev pub where_true : {A : Type 0} → Bool → Option A → Option A
where_true b o = if b then o else None

-- the reference that the text of a member names
abbrev pub reference_at : List ℕ → Data → Option Reference
reference_at name d = option_and_then (λ text. result_ok (reading_of text)) (text_at name d)

-- a reference has a tag or a digest
abbrev pub has_either : Option (List ℕ) → Option (List ℕ) → Bool
has_either None None = false
has_either (Some tag) digest = true
has_either None (Some digest) = true

abbrev pub is_versioned : Reference → Bool
is_versioned r = has_either r.tag r.digest

abbrev pub if_versioned : Reference → Option Reference
if_versioned r = where_true (is_versioned r) (Some r)

-- a prefix is not empty and does not end in a slash
abbrev pub is_prefix : List ℕ → Bool
is_prefix text = not (length text == 0) && not (ends_with nat_eq text (codes "/"))

abbrev pub if_prefix : List ℕ → Option (List ℕ)
if_prefix text = where_true (is_prefix text) (Some text)

abbrev pub prefix_at : List ℕ → Data → Option (List ℕ)
prefix_at name d = option_and_then if_prefix (text_at name d)

-- rules without members of their own
abbrev pub plain_rule : IdentityRule → Data → Option IdentityRule
plain_rule rule d = where_true (has_only (codes "type" ∷ []) d) (Some rule)

-- `exactReference`: `dockerReference` is a reference with a tag or a digest
abbrev pub exact_reference_of : Data → Option IdentityRule
exact_reference_of d = where_true (has_only (codes "type" ∷ codes "dockerReference" ∷ []) d)
    (option_map ExactReference (option_and_then if_versioned (reference_at (codes "dockerReference") d)))

-- `exactRepository`: `dockerRepository` is a reference
abbrev pub exact_repository_of : Data → Option IdentityRule
exact_repository_of d = where_true (has_only (codes "type" ∷ codes "dockerRepository" ∷ []) d)
    (option_map ExactRepository (reference_at (codes "dockerRepository") d))

-- `remapIdentity`: `prefix` and `signedPrefix` are prefixes
abbrev pub remap_of : Data → Option IdentityRule
remap_of d = where_true (has_only (codes "type" ∷ codes "prefix" ∷ codes "signedPrefix" ∷ []) d)
    (option_and_then (λ prefix. option_map (Remap prefix) (prefix_at (codes "signedPrefix") d)) (prefix_at (codes "prefix") d))

-- the rule of that type
unfoldable pub rule_by : List ℕ → Data → Option IdentityRule
rule_by word d =
    if bytes_eq word (codes "matchExact") then plain_rule Exact d
    else if bytes_eq word (codes "matchRepoDigestOrExact") then plain_rule RepoDigestOrExact d
    else if bytes_eq word (codes "matchRepository") then plain_rule Repository d
    else if bytes_eq word (codes "exactReference") then exact_reference_of d
    else if bytes_eq word (codes "exactRepository") then exact_repository_of d
    else if bytes_eq word (codes "remapIdentity") then remap_of d
    else None

abbrev pub rule_of : Data → Option IdentityRule
rule_of d = option_and_then (λ word. rule_by word d) (text_at (codes "type") d)

abbrev pub or_bad_identity : Option IdentityRule → Judged IdentityRule
or_bad_identity (Some rule) = Ok rule
or_bad_identity None = refuse BadIdentity (Name (codes "signedIdentity") ∷ [])

-- the rule of the member `signedIdentity`, and `matchRepoDigestOrExact` without one
abbrev pub identity_of : Option Data → Judged IdentityRule
identity_of None = Ok RepoDigestOrExact
identity_of (Some d) = or_bad_identity (rule_of d)
