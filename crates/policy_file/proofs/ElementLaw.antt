-- The reading of an element and the relation `IsRequirement` agree.
use Rattle.std.proofs.Common.{◌≡◌, ℕ, List, [], ◌∷◌, cond, codes, Option, Some, None, Ok, refl, sym, ap, subst, inl, inr}
use Rattle.std.specs.Str.{bytes_eq}
use Rattle.std.proofs.lemmas.Bool.{cases_Bool}
use Rattle.serde_json.specs.Data.{Data, null, boolean, number, string, array, object, Members}
use Rattle.serde_json.specs.Find.{get_member}
use Rattle.policy_file.specs.declared.requirement.Requirement.{Requirement}
use Rattle.policy_file.specs.declared.requirement.Requirement.TheVariants.{Accept, Reject, SignedBy, Sigstore}
use Rattle.policy_file.specs.Identity.{identity_of}
use Rattle.policy_file.specs.IsRequirement.{HasText, IsOfType, IsRequirement}
use Rattle.policy_file.specs.Judged.{Judged}
use Rattle.policy_file.specs.Keys.{keys_of}
use Rattle.policy_file.specs.Members.{only, text_at}
use Rattle.policy_file.specs.PolicyOf.{or_no_type, type_word, signed_by_names, signed_by_of, plain_of, by_type, requirement_of}
use Rattle.policy_file.proofs.ReadLemmas.{went, has_text, text_at-has, only-ok, only-has, same_bytes}
use Rattle.policy_file.proofs.RequirementLaw.{is_keys, keys_of-is, is_identity, identity_of-is}

or_no_type-ok : (o : Option (List ℕ)) (word : List ℕ) → or_no_type o ≡ Ok word → o ≡ Some word
or_no_type-ok (Some w) word h = let same : w ≡ word = cc h in ap Some same
or_no_type-ok None word h = absurd (cc h)

plain_is : (requirement r : Requirement) (word : List ℕ) (ms : Members) → HasText (codes "type") (object ms) word → plain_of requirement ms ≡ Ok r → (requirement ≡ r) × IsOfType word [] (object ms)
unfolding plain_of
plain_is requirement r word ms named h =
    let w = went (only (codes "type" ∷ []) ms) (λ _. Ok requirement) r h in
    (cc w.second, record { only = only-ok (codes "type" ∷ []) ms w.value w.first; named = named })

plain_of-is : (requirement : Requirement) (word : List ℕ) (ms : Members) → IsOfType word [] (object ms) → plain_of requirement ms ≡ Ok requirement
unfolding plain_of
plain_of-is requirement word ms h = rw (only-has (codes "type" ∷ []) ms h.only) refl

signed_is : (r : Requirement) (ms : Members) → HasText (codes "type") (object ms) (codes "signedBy") → signed_by_of ms ≡ Ok r → IsRequirement (object ms) r
unfolding signed_by_of
signed_is r ms named h =
    let a = went (only signed_by_names ms) _ r h in
    let b = went (keys_of (object ms)) _ r a.second in
    let c = went (identity_of (get_member (codes "signedIdentity") ms)) _ r b.second in
    let same : SignedBy b.value c.value ≡ r = cc c.second in
    subst (IsRequirement (object ms)) same (record {
      type = record { only = only-ok signed_by_names ms a.value a.first; named = named };
      signers = is_keys (object ms) b.value b.first;
      identity = is_identity (get_member (codes "signedIdentity") ms) c.value c.first;
    })

-- by the word: a test that passes gives one reading, and else the next test is asked
by_word : {A : Type 0} (P : A → Type 0) (word literal : List ℕ) (this next : Judged A) (x : A) → (word ≡ literal → this ≡ Ok x → P x) → (next ≡ Ok x → P x) → cond (bytes_eq word literal) this next ≡ Ok x → P x
by_word P word literal this next x f g h =
    elim (cases_Bool (bytes_eq word literal)) [
      | inl same ↦ f (same_bytes word literal same) (rw same at h)
      | inr other ↦ g (rw other at h)
    ]

by_type_is : (word : List ℕ) (ms : Members) (r : Requirement) → HasText (codes "type") (object ms) word → by_type word ms ≡ Ok r → IsRequirement (object ms) r
unfolding by_type
by_type_is word ms r named h =
    let d : Data = object ms in
    let as_named : (literal : List ℕ) → word ≡ literal → HasText (codes "type") d literal = λ literal same. subst (HasText (codes "type") d) same named in
    by_word (IsRequirement d) word (codes "insecureAcceptAnything") _ _ r
    (λ same passed. let p = plain_is Accept r (codes "insecureAcceptAnything") ms (as_named _ same) passed in subst (IsRequirement d) p.0 p.1)
    (by_word (IsRequirement d) word (codes "reject") _ _ r
    (λ same passed. let p = plain_is Reject r (codes "reject") ms (as_named _ same) passed in subst (IsRequirement d) p.0 p.1)
    (by_word (IsRequirement d) word (codes "signedBy") _ _ r (λ same passed. signed_is r ms (as_named _ same) passed)
    (by_word (IsRequirement d) word (codes "sigstoreSigned") _ _ r
    (λ same passed. let is : Sigstore ≡ r = cc passed in subst (IsRequirement d) is (as_named _ same))
    (λ none. absurd (cc none)))))
    h

pub is_requirement : (d : Data) (r : Requirement) → requirement_of d ≡ Ok r → IsRequirement d r
is_requirement (object ms) r h =
    let w = went (type_word (object ms)) (λ word. by_type word ms) r h in
    by_type_is w.value ms r (has_text (codes "type") (object ms) w.value (or_no_type-ok (text_at (codes "type") (object ms)) w.value w.first)) w.second
is_requirement null r h = absurd (cc h)
is_requirement (boolean b) r h = absurd (cc h)
is_requirement (number n) r h = absurd (cc h)
is_requirement (string s) r h = absurd (cc h)
is_requirement (array ds) r h = absurd (cc h)

by_named : (word : List ℕ) (ms : Members) (r : Requirement) → HasText (codes "type") (object ms) word → by_type word ms ≡ Ok r → requirement_of (object ms) ≡ Ok r
by_named word ms r named h = rw (text_at-has (codes "type") (object ms) word named) h

object_is : (ms : Members) (r : Requirement) → IsRequirement (object ms) r → requirement_of (object ms) ≡ Ok r
unfolding by_type signed_by_of
object_is ms Accept h = by_named (codes "insecureAcceptAnything") ms Accept h.named (plain_of-is Accept _ ms h)
object_is ms Reject h = by_named (codes "reject") ms Reject h.named (plain_of-is Reject _ ms h)
object_is ms Sigstore h = by_named (codes "sigstoreSigned") ms Sigstore h refl
object_is ms (SignedBy keys rule) h =
    by_named (codes "signedBy") ms (SignedBy keys rule) h.type.named
    (rw (only-has signed_by_names ms h.type.only, keys_of-is (object ms) keys h.signers, identity_of-is (get_member (codes "signedIdentity") ms) rule h.identity) refl)

-- what has a member is an object
pub has_object : (name : List ℕ) (d : Data) (text : List ℕ) → HasText name d text → (ms : Members) × (d ≡ object ms)
has_object name (object ms) text h = (ms, refl)
has_object name null text h = absurd (cc h)
has_object name (boolean b) text h = absurd (cc h)
has_object name (number n) text h = absurd (cc h)
has_object name (string s) text h = absurd (cc h)
has_object name (array ds) text h = absurd (cc h)

has_type : (d : Data) (r : Requirement) → IsRequirement d r → (word : List ℕ) × HasText (codes "type") d word
has_type d Accept h = (codes "insecureAcceptAnything", h.named)
has_type d Reject h = (codes "reject", h.named)
has_type d (SignedBy keys rule) h = (codes "signedBy", h.type.named)
has_type d Sigstore h = (codes "sigstoreSigned", h)

pub requirement_of-is : (d : Data) (r : Requirement) → IsRequirement d r → requirement_of d ≡ Ok r
requirement_of-is d r h =
    let t = has_type d r h in
    let o = has_object (codes "type") d t.0 t.1 in
    subst (λ e. requirement_of e ≡ Ok r) (sym o.1) (object_is o.0 r (subst (λ e. IsRequirement e r) o.1 h))
