-- The fault that is read is the first of the tables.
use Rattle.std.proofs.Common.{◌≡◌, ◌⊎◌, ℕ, suc, List, [], ◌∷◌, codes, Option, Some, None, Ok, Err, true, false, refl, sym, ap, subst, ◌∙◌, inl, inr}
use Rattle.std.specs.Prelude.{◌↔◌, Contains}
use Rattle.std.specs.List.{list_any}
use Rattle.std.specs.Str.{bytes_eq}
use Rattle.std.proofs.lemmas.Bool.{cases_Bool, both_ways}
use Rattle.std.proofs.lemmas.Cmp.{nat_list_eq_equiv}
use Rattle.std.proofs.lemmas.Map.Views.{list_any-from_Contains, Contains-from_any}
use Rattle.std.proofs.lemmas.Slice.Eq.{bytes_eq-Decides}
use Rattle.serde_json.specs.Data.{Data, null, boolean, number, string, array, object, Items, no_items, item, Members, no_members, member}
use Rattle.serde_json.specs.Find.{get, get_member}
use Rattle.json_tree.specs.Tree.{tree, pointer}
use Rattle.json_tree.specs.declared.path.Step.{Step}
use Rattle.json_tree.specs.declared.path.Step.TheVariants.{Name, Place}
use Rattle.policy_file.specs.declared.fault.PolicyFault.{PolicyFault}
use Rattle.policy_file.specs.declared.fault.PolicyFault.TheVariants.{Refused, Memory}
use Rattle.policy_file.specs.declared.fault.PolicyKind.{PolicyKind}
use Rattle.policy_file.specs.declared.fault.PolicyKind.TheVariants.{NotJson, Shape, UnknownKey, NoDefault, EmptyList, UnknownType, BadKeys, BadIdentity}
use Rattle.policy_file.specs.declared.requirement.IdentityRule.{IdentityRule}
use Rattle.policy_file.specs.declared.requirement.Keys.{Keys}
use Rattle.policy_file.specs.declared.requirement.Requirement.{Requirement}
use Rattle.policy_file.specs.declared.requirement.Requirement.TheVariants.{Accept, Reject, SignedBy, Sigstore}
use Rattle.policy_file.specs.FirstFault.{IsNoObject, others_in, other_names, members_in, items_in, IsOf, IsOfNone, signed_names, signed_table, requirement_fault, list_fault, scopes_fault, transports_fault, at_member, policy_fault, IsFirstPolicyFault}
use Rattle.policy_file.specs.Identity.{rule_of, or_bad_identity, identity_of}
use Rattle.policy_file.specs.IsRequirement.{IsKeys, IsIdentity}
use Rattle.policy_file.specs.Judged.{Judged, ◌>>=◌, refuse, under, told_of}
use Rattle.policy_file.specs.Keys.{keys_from, is_gpg, or_bad_keys, keys_of}
use Rattle.policy_file.specs.Members.{only, text_at}
use Rattle.policy_file.specs.PolicyLists.{PolicyLists, of_default, with_transport}
use Rattle.policy_file.specs.PolicyOf.{items_by, members_by, or_no_type, signed_by_of, plain_of, by_type, requirement_of, list_of, scope_of, scopes_of, with_transports, transports_of, default_of, members_of, policy_of, policy_in}
use Rattle.policy_file.specs.Rows.{Fault, Row, row, FindsNone, FirstOf, Under, Where}
use Rattle.policy_file.proofs.ReadLemmas.{has_text, text_at-has, same_bytes}
use Rattle.policy_file.proofs.RequirementLaw.{is_keys, keys_of-is, is_identity, identity_of-is}

-- ---- readings and rows

-- a reading fails with what a row finds
record Tells {A : Type 0} (r : Judged A) (R : Row) : Type 0 where
  fails : (e : Fault) → r ≡ Err e → R e
  failed : (e : Fault) → R e → r ≡ Err e

same_err : {A : Type 0} (r : Judged A) (e f : Fault) → r ≡ Err e → r ≡ Err f → e ≡ f
same_err r e f first second = let same : Err e ≡ Err f = sym first ∙ second in cc same

ok_tells : {A : Type 0} (x : A) (R : Row) → FindsNone R → Tells (Ok x) R
ok_tells x R none = record { fails = λ e h. absurd (cc h); failed = λ e h. absurd (none e h) }

finds_none : {A : Type 0} (r : Judged A) (x : A) (R : Row) → Tells r R → r ≡ Ok x → FindsNone R
finds_none r x R t h = λ e found. let bad : Ok x ≡ Err e = sym h ∙ t.failed e found in cc bad

refused : {A : Type 0} (so : Type 0) (kind : PolicyKind) (path : List Step) → so → Tells {A = A} (refuse kind path) (row so kind path)
refused so kind path is = record {
  fails = λ e h. (is, let same : (kind, path) ≡ e = same_err (refuse kind path) (kind, path) e refl h in sym same);
  failed = λ e h. ap Err (sym h.1);
}

chain : {A B : Type 0} (r : Judged A) (f : A → Judged B) (R S : Row) → Tells r R → ((x : A) → r ≡ Ok x → Tells (f x) S) → Tells (r >>= f) (λ e. R e ⊎ (FindsNone R × S e))
chain (Ok x) f R S t next = record {
  fails = λ e h. inr (finds_none (Ok x) x R t refl, (next x refl).fails e h);
  failed = λ e h. elim h [
    | inl found ↦ absurd (finds_none (Ok x) x R t refl e found)
    | inr (none, later) ↦ (next x refl).failed e later
  ];
}
chain (Err d) f R S t next = record {
  fails = λ e h. inl (t.fails e (ap Err (same_err (Err d) d e refl h)));
  failed = λ e h. elim h [
    | inl found ↦ ap Err (same_err (Err d) d e refl (t.failed e found))
    | inr (none, later) ↦ absurd (none d (t.fails d refl))
  ];
}

then_ok : {A B : Type 0} (r : Judged A) (g : A → B) (R : Row) → Tells r R → Tells (r >>= (λ x. Ok (g x))) R
then_ok (Ok x) g R t = ok_tells (g x) R (finds_none (Ok x) x R t refl)
then_ok (Err d) g R t = record {
  fails = λ e h. t.fails e (ap Err (same_err (Err d) d e refl h));
  failed = λ e h. ap Err (same_err (Err d) d e refl (t.failed e h));
}

-- the last row
last : {A : Type 0} (r : Judged A) (R : Row) → Tells r R → Tells r (FirstOf (R ∷ []))
last r R t = record {
  fails = λ e h. inl (t.fails e h);
  failed = λ e h. elim h [ inl found ↦ t.failed e found | inr (none, nothing) ↦ absurd nothing ];
}

-- a row that finds none
skip : {A : Type 0} (r : Judged A) (R : Row) (rows : List Row) → FindsNone R → Tells r (FirstOf rows) → Tells r (FirstOf (R ∷ rows))
skip r R rows none t = record {
  fails = λ e h. inr (none, t.fails e h);
  failed = λ e h. elim h [ inl found ↦ absurd (none e found) | inr (never, later) ↦ t.failed e later ];
}

-- a row that finds one
hit : {A : Type 0} (r : Judged A) (R : Row) (rows : List Row) (d : Fault) → Tells r R → R d → Tells r (FirstOf (R ∷ rows))
hit r R rows d t there = record {
  fails = λ e h. inl (t.fails e h);
  failed = λ e h. elim h [ inl found ↦ t.failed e found | inr (none, later) ↦ absurd (none d there) ];
}

-- a row behind which none finds one
alone : {A : Type 0} (r : Judged A) (R : Row) (rows : List Row) → Tells r R → FindsNone (FirstOf rows) → Tells r (FirstOf (R ∷ rows))
alone r R rows t nothing = record {
  fails = λ e h. inl (t.fails e h);
  failed = λ e h. elim h [ inl found ↦ t.failed e found | inr (none, later) ↦ absurd (nothing e later) ];
}

none_more : (R : Row) (rows : List Row) → FindsNone R → FindsNone (FirstOf rows) → FindsNone (FirstOf (R ∷ rows))
none_more R rows first later = λ e h. elim h [ inl found ↦ first e found | inr (none, found) ↦ later e found ]

where_tells : {A : Type 0} (so : Type 0) (r : Judged A) (R : Row) → so → Tells r R → Tells r (Where so R)
where_tells so r R is t = record { fails = λ e h. (is, t.fails e h); failed = λ e h. t.failed e h.1 }

where_none : (so : Type 0) (R : Row) → (so → ⊥) → FindsNone (Where so R)
where_none so R never = λ e h. never h.0

under_tells : {A : Type 0} (step : Step) (r : Judged A) (R : Row) → Tells r R → Tells (under step r) (Under step R)
under_tells step (Ok x) R t = ok_tells x (Under step R) (λ e h. finds_none (Ok x) x R t refl h.inner h.finds)
under_tells step (Err d) R t =
    let deeper : Fault → Fault = λ e. (e.0, step ∷ e.1) in
    record {
      fails = λ e h. record { inner = d; is = sym (same_err (Err (deeper d)) (deeper d) e refl h); finds = t.fails d refl };
      failed = λ e h. ap Err (ap deeper (same_err (Err d) d h.inner refl (t.failed h.inner h.finds)) ∙ sym h.is);
    }

-- a reading with one fault, which comes where nothing is said
by_one : {A : Type 0} (r : Judged A) (kind : PolicyKind) (path : List Step) (P : A → Type 0) → ((e : Fault) → r ≡ Err e → e ≡ (kind, path)) → ((x : A) → r ≡ Ok x → P x) → ((x : A) → P x → r ≡ Ok x) → Tells r (row ((x : A) → P x → ⊥) kind path)
by_one (Ok x) kind path P same is back = ok_tells x (row ((x : _) → P x → ⊥) kind path) (λ e h. h.0 x (is x refl))
by_one (Err d) kind path P same is back = record {
  fails = λ e h. (λ x p. (let bad : Err d ≡ Ok x = back x p in cc bad), same e h);
  failed = λ e h. ap Err (same d refl ∙ sym h.1);
}

-- ---- names of members

only_tells : (names : List (List ℕ)) (ms : Members) → Tells (only names ms) (FirstOf (others_in names ms))
only_tells names no_members = ok_tells tt (FirstOf []) (λ e h. h)
only_tells names (member k d ms) =
    elim (cases_Bool (list_any (bytes_eq k) names)) [
      | inl known ↦ rw known (skip (only names ms) (row (Contains names k → ⊥) UnknownKey (Name k ∷ [])) (others_in names ms)
          (λ e h. h.0 (Contains-from_any same_bytes k names known)) (only_tells names ms))
      | inr unknown ↦
          let none : Contains names k → ⊥ = λ among. both_ways (list_any (bytes_eq k) names) unknown (list_any-from_Contains nat_list_eq_equiv k names among) in
          rw unknown (hit (refuse UnknownKey (Name k ∷ [])) (row (Contains names k → ⊥) UnknownKey (Name k ∷ [])) (others_in names ms)
          (UnknownKey, Name k ∷ []) (refused (Contains names k → ⊥) UnknownKey (Name k ∷ []) none) (none, refl))
    ]

-- ---- a requirement

keys_err : (d : Data) (e : Fault) → keys_of d ≡ Err e → e ≡ (BadKeys, [])
unfolding keys_of
keys_err d e h =
    elim (cases_Bool (is_gpg (get (codes "keyType") d))) [
      | inl gpg ↦ bad (keys_from (get (codes "keyPath") d) (get (codes "keyPaths") d) (get (codes "keyData") d)) (rw gpg at h)
      | inr other ↦ let same : refuse BadKeys [] ≡ Err e = rw other at h in sym (same_err (refuse BadKeys []) (BadKeys, []) e refl same)
    ]
  where
    bad : (o : Option Keys) → or_bad_keys o ≡ Err e → e ≡ (BadKeys, [])
    bad (Some keys) k = absurd (cc k)
    bad None k = sym (same_err (refuse BadKeys []) (BadKeys, []) e refl k)

keys_tell : (d : Data) → Tells (keys_of d) (row ((keys : Keys) → IsKeys d keys → ⊥) BadKeys [])
keys_tell d = by_one (keys_of d) BadKeys [] (IsKeys d) (keys_err d) (is_keys d) (keys_of-is d)

abbrev identity_at : List Step
identity_at = Name (codes "signedIdentity") ∷ []

identity_err : (o : Option Data) (e : Fault) → identity_of o ≡ Err e → e ≡ (BadIdentity, identity_at)
identity_err None e h = absurd (cc h)
identity_err (Some d) e h = bad (rule_of d) h
  where
    bad : (o : Option IdentityRule) → or_bad_identity o ≡ Err e → e ≡ (BadIdentity, identity_at)
    bad (Some rule) k = absurd (cc k)
    bad None k = sym (same_err (refuse BadIdentity identity_at) (BadIdentity, identity_at) e refl k)

identity_tells : (o : Option Data) → Tells (identity_of o) (row ((rule : IdentityRule) → IsIdentity o rule → ⊥) BadIdentity identity_at)
identity_tells o = by_one (identity_of o) BadIdentity identity_at (IsIdentity o) (identity_err o) (is_identity o) (identity_of-is o)

plain_tells : (requirement : Requirement) (ms : Members) → Tells (plain_of requirement ms) (FirstOf (others_in (codes "type" ∷ []) ms))
unfolding plain_of
plain_tells requirement ms = then_ok (only (codes "type" ∷ []) ms) (λ _. requirement) (FirstOf (others_in (codes "type" ∷ []) ms)) (only_tells (codes "type" ∷ []) ms)

signed_tells : (ms : Members) → Tells (signed_by_of ms) (FirstOf (signed_table (object ms)))
unfolding signed_by_of
signed_tells ms =
    let o = get_member (codes "signedIdentity") ms in
    let no_keys : Row = row ((keys : Keys) → IsKeys (object ms) keys → ⊥) BadKeys [] in
    let no_rule : Row = row ((rule : IdentityRule) → IsIdentity o rule → ⊥) BadIdentity identity_at in
    chain (only signed_names ms) (λ _. keys_of (object ms) >>= (λ keys. identity_of o >>= (λ rule. Ok (SignedBy keys rule))))
    (FirstOf (others_in signed_names ms)) (FirstOf (no_keys ∷ no_rule ∷ [])) (only_tells signed_names ms)
    (λ _ _. chain (keys_of (object ms)) (λ keys. identity_of o >>= (λ rule. Ok (SignedBy keys rule)))
    no_keys (FirstOf (no_rule ∷ [])) (keys_tell (object ms))
    (λ keys _. last (identity_of o >>= (λ rule. Ok (SignedBy keys rule))) no_rule
    (then_ok (identity_of o) (λ rule. SignedBy keys rule) no_rule (identity_tells o))))

-- an object says one type
text_same : (a b : List ℕ) → Some (string a) ≡ Some (string b) → a ≡ b
text_same a b h = cc h

differ : (a b : List ℕ) (d : Data) → bytes_eq a b ≡ false → IsOf a d → IsOf b d → ⊥
differ a b d apart first second =
    both_ways (bytes_eq a b) apart ((bytes_eq-Decides a b).1 (text_same a b (sym first ∙ second)))

abbrev accepts : Data → Row
accepts d = Where (IsOf (codes "insecureAcceptAnything") d) (FirstOf (other_names (codes "type" ∷ []) d))

abbrev rejects : Data → Row
rejects d = Where (IsOf (codes "reject") d) (FirstOf (other_names (codes "type" ∷ []) d))

abbrev signs : Data → Row
signs d = Where (IsOf (codes "signedBy") d) (FirstOf (signed_table d))

abbrev no_type : Data → Row
no_type d = row (IsOfNone d) UnknownType (Name (codes "type") ∷ [])

-- the rows behind the type
abbrev typed_table : Data → List Row
typed_table d = no_type d ∷ accepts d ∷ rejects d ∷ signs d ∷ []

accept_tells : (ms : Members) → IsOf (codes "insecureAcceptAnything") (object ms) → Tells (plain_of Accept ms) (FirstOf (typed_table (object ms)))
accept_tells ms is =
    let d : Data = object ms in
    let never : (word : List ℕ) → bytes_eq (codes "insecureAcceptAnything") word ≡ false → IsOf word d → ⊥ = λ word apart. differ (codes "insecureAcceptAnything") word d apart is in
    skip (plain_of Accept ms) (no_type d) (accepts d ∷ rejects d ∷ signs d ∷ []) (λ e h. h.0.accepts is)
    (alone (plain_of Accept ms) (accepts d) (rejects d ∷ signs d ∷ []) (where_tells (IsOf (codes "insecureAcceptAnything") d) (plain_of Accept ms) (FirstOf (others_in (codes "type" ∷ []) ms)) is (plain_tells Accept ms))
    (none_more (rejects d) (signs d ∷ []) (where_none (IsOf (codes "reject") d) (FirstOf (other_names (codes "type" ∷ []) d)) (never (codes "reject") refl))
    (none_more (signs d) [] (where_none (IsOf (codes "signedBy") d) (FirstOf (signed_table d)) (never (codes "signedBy") refl)) (λ e h. h))))

reject_tells : (ms : Members) → IsOf (codes "reject") (object ms) → Tells (plain_of Reject ms) (FirstOf (typed_table (object ms)))
reject_tells ms is =
    let d : Data = object ms in
    let never : (word : List ℕ) → bytes_eq (codes "reject") word ≡ false → IsOf word d → ⊥ = λ word apart. differ (codes "reject") word d apart is in
    skip (plain_of Reject ms) (no_type d) (accepts d ∷ rejects d ∷ signs d ∷ []) (λ e h. h.0.rejects is)
    (skip (plain_of Reject ms) (accepts d) (rejects d ∷ signs d ∷ []) (where_none (IsOf (codes "insecureAcceptAnything") d) (FirstOf (other_names (codes "type" ∷ []) d)) (never (codes "insecureAcceptAnything") refl))
    (alone (plain_of Reject ms) (rejects d) (signs d ∷ []) (where_tells (IsOf (codes "reject") d) (plain_of Reject ms) (FirstOf (others_in (codes "type" ∷ []) ms)) is (plain_tells Reject ms))
    (none_more (signs d) [] (where_none (IsOf (codes "signedBy") d) (FirstOf (signed_table d)) (never (codes "signedBy") refl)) (λ e h. h))))

sign_tells : (ms : Members) → IsOf (codes "signedBy") (object ms) → Tells (signed_by_of ms) (FirstOf (typed_table (object ms)))
sign_tells ms is =
    let d : Data = object ms in
    let never : (word : List ℕ) → bytes_eq (codes "signedBy") word ≡ false → IsOf word d → ⊥ = λ word apart. differ (codes "signedBy") word d apart is in
    skip (signed_by_of ms) (no_type d) (accepts d ∷ rejects d ∷ signs d ∷ []) (λ e h. h.0.signs is)
    (skip (signed_by_of ms) (accepts d) (rejects d ∷ signs d ∷ []) (where_none (IsOf (codes "insecureAcceptAnything") d) (FirstOf (other_names (codes "type" ∷ []) d)) (never (codes "insecureAcceptAnything") refl))
    (skip (signed_by_of ms) (rejects d) (signs d ∷ []) (where_none (IsOf (codes "reject") d) (FirstOf (other_names (codes "type" ∷ []) d)) (never (codes "reject") refl))
    (last (signed_by_of ms) (signs d) (where_tells (IsOf (codes "signedBy") d) (signed_by_of ms) (FirstOf (signed_table d)) is (signed_tells ms)))))

sigstore_tells : (ms : Members) → IsOf (codes "sigstoreSigned") (object ms) → Tells (Ok Sigstore) (FirstOf (typed_table (object ms)))
sigstore_tells ms is =
    let d : Data = object ms in
    let never : (word : List ℕ) → bytes_eq (codes "sigstoreSigned") word ≡ false → IsOf word d → ⊥ = λ word apart. differ (codes "sigstoreSigned") word d apart is in
    ok_tells Sigstore (FirstOf (typed_table d))
    (none_more (no_type d) (accepts d ∷ rejects d ∷ signs d ∷ []) (λ e h. h.0.sigstore is)
    (none_more (accepts d) (rejects d ∷ signs d ∷ []) (where_none (IsOf (codes "insecureAcceptAnything") d) (FirstOf (other_names (codes "type" ∷ []) d)) (never (codes "insecureAcceptAnything") refl))
    (none_more (rejects d) (signs d ∷ []) (where_none (IsOf (codes "reject") d) (FirstOf (other_names (codes "type" ∷ []) d)) (never (codes "reject") refl))
    (none_more (signs d) [] (where_none (IsOf (codes "signedBy") d) (FirstOf (signed_table d)) (never (codes "signedBy") refl)) (λ e h. h)))))

unknown_tells : (ms : Members) → IsOfNone (object ms) → Tells {A = Requirement} (refuse UnknownType (Name (codes "type") ∷ [])) (FirstOf (typed_table (object ms)))
unknown_tells ms none =
    let d : Data = object ms in
    hit (refuse UnknownType (Name (codes "type") ∷ [])) (no_type d) (accepts d ∷ rejects d ∷ signs d ∷ []) (UnknownType, Name (codes "type") ∷ [])
    (refused (IsOfNone d) UnknownType (Name (codes "type") ∷ []) none) (none, refl)

type_tells : (word : List ℕ) (ms : Members) → IsOf word (object ms) → Tells (by_type word ms) (FirstOf (typed_table (object ms)))
unfolding by_type
type_tells word ms named =
    let d : Data = object ms in
    let as_named : (literal : List ℕ) → bytes_eq word literal ≡ true → IsOf literal d = λ literal same. subst (λ w. IsOf w d) (same_bytes word literal same) named in
    elim (cases_Bool (bytes_eq word (codes "insecureAcceptAnything"))) [
      | inl a ↦ rw a (accept_tells ms (as_named (codes "insecureAcceptAnything") a))
      | inr a ↦
          elim (cases_Bool (bytes_eq word (codes "reject"))) [
            | inl r ↦ rw (a, r) (reject_tells ms (as_named (codes "reject") r))
            | inr r ↦
                elim (cases_Bool (bytes_eq word (codes "signedBy"))) [
                  | inl s ↦ rw (a, r, s) (sign_tells ms (as_named (codes "signedBy") s))
                  | inr s ↦
                      elim (cases_Bool (bytes_eq word (codes "sigstoreSigned"))) [
                        | inl g ↦ rw (a, r, s, g) (sigstore_tells ms (as_named (codes "sigstoreSigned") g))
                        | inr g ↦ rw (a, r, s, g) (unknown_tells ms (record {
                          accepts = λ is. differ word (codes "insecureAcceptAnything") d a named is;
                          rejects = λ is. differ word (codes "reject") d r named is;
                          signs = λ is. differ word (codes "signedBy") d s named is;
                          sigstore = λ is. differ word (codes "sigstoreSigned") d g named is;
                        }))
                      ]
                ]
          ]
    ]

abbrev lacks_type : Data → Row
lacks_type d = row ((word : List ℕ) → IsOf word d → ⊥) Shape (Name (codes "type") ∷ [])

word_tells : (ms : Members) (o : Option (List ℕ)) → text_at (codes "type") (object ms) ≡ o → Tells (or_no_type o >>= (λ word. by_type word ms)) (FirstOf (lacks_type (object ms) ∷ typed_table (object ms)))
word_tells ms None e =
    let d : Data = object ms in
    let none : (word : List ℕ) → IsOf word d → ⊥ = λ word is. let bad : None ≡ Some word = sym e ∙ text_at-has (codes "type") d word is in cc bad in
    hit (refuse Shape (Name (codes "type") ∷ [])) (lacks_type d) (typed_table d) (Shape, Name (codes "type") ∷ [])
    (refused ((word : List ℕ) → IsOf word d → ⊥) Shape (Name (codes "type") ∷ []) none) (none, refl)
word_tells ms (Some word) e =
    let d : Data = object ms in
    let named = has_text (codes "type") d word e in
    skip (by_type word ms) (lacks_type d) (typed_table d) (λ f h. h.0 word named) (type_tells word ms named)

abbrev no_object : Data → Row
no_object d = row (IsNoObject d) Shape []

requirement_refused : (d : Data) → IsNoObject d → Tells {A = Requirement} (refuse Shape []) (requirement_fault d)
requirement_refused d is = hit (refuse Shape []) (no_object d) (lacks_type d ∷ typed_table d) (Shape, []) (refused (IsNoObject d) Shape [] is) (is, refl)

requirement_tells : (d : Data) → Tells (requirement_of d) (requirement_fault d)
requirement_tells (object ms) =
    skip (requirement_of (object ms)) (no_object (object ms)) (lacks_type (object ms) ∷ typed_table (object ms)) (λ e h. absurd h.0)
    (word_tells ms (text_at (codes "type") (object ms)) refl)
requirement_tells null = requirement_refused null tt
requirement_tells (boolean b) = requirement_refused (boolean b) tt
requirement_tells (number n) = requirement_refused (number n) tt
requirement_tells (string s) = requirement_refused (string s) tt
requirement_tells (array ds) = requirement_refused (array ds) tt

-- ---- lists, scopes and transports

items_tell : (i : ℕ) (ds : Items) → Tells (items_by requirement_of i ds) (FirstOf (items_in requirement_fault i ds))
items_tell i no_items = ok_tells [] (FirstOf []) (λ e h. h)
items_tell i (item d ds) =
    chain (under (Place i) (requirement_of d)) (λ x. items_by requirement_of (suc i) ds >>= (λ xs. Ok (x ∷ xs)))
    (Under (Place i) (requirement_fault d)) (FirstOf (items_in requirement_fault (suc i) ds))
    (under_tells (Place i) (requirement_of d) (requirement_fault d) (requirement_tells d))
    (λ x _. then_ok (items_by requirement_of (suc i) ds) (λ xs. x ∷ xs) (FirstOf (items_in requirement_fault (suc i) ds)) (items_tell (suc i) ds))

list_tells : (d : Data) → Tells (list_of d) (list_fault d)
list_tells (array no_items) = refused (Unit {0}) EmptyList [] tt
list_tells (array (item d ds)) = items_tell 0 (item d ds)
list_tells null = refused (Unit {0}) Shape [] tt
list_tells (boolean b) = refused (Unit {0}) Shape [] tt
list_tells (number n) = refused (Unit {0}) Shape [] tt
list_tells (string s) = refused (Unit {0}) Shape [] tt
list_tells (object ms) = refused (Unit {0}) Shape [] tt

scope_tells : (k : List ℕ) (d : Data) → Tells (scope_of k d) (list_fault d)
scope_tells k d = then_ok (list_of d) (λ list. record { name = k; list = list }) (list_fault d) (list_tells d)

members_tell : (ms : Members) → Tells (members_by scope_of ms) (FirstOf (members_in list_fault ms))
members_tell no_members = ok_tells [] (FirstOf []) (λ e h. h)
members_tell (member k d ms) =
    chain (under (Name k) (scope_of k d)) (λ x. members_by scope_of ms >>= (λ xs. Ok (x ∷ xs)))
    (Under (Name k) (list_fault d)) (FirstOf (members_in list_fault ms))
    (under_tells (Name k) (scope_of k d) (list_fault d) (scope_tells k d))
    (λ x _. then_ok (members_by scope_of ms) (λ xs. x ∷ xs) (FirstOf (members_in list_fault ms)) (members_tell ms))

scopes_tell : (d : Data) → Tells (scopes_of d) (scopes_fault d)
scopes_tell (object ms) = members_tell ms
scopes_tell null = refused (Unit {0}) Shape [] tt
scopes_tell (boolean b) = refused (Unit {0}) Shape [] tt
scopes_tell (number n) = refused (Unit {0}) Shape [] tt
scopes_tell (string s) = refused (Unit {0}) Shape [] tt
scopes_tell (array ds) = refused (Unit {0}) Shape [] tt

with_tells : (ms : Members) (lists : PolicyLists) → Tells (with_transports lists ms) (FirstOf (members_in scopes_fault ms))
with_tells no_members lists = ok_tells lists (FirstOf []) (λ e h. h)
with_tells (member k d ms) lists =
    chain (under (Name k) (scopes_of d)) (λ scopes. with_transports (with_transport k scopes lists) ms)
    (Under (Name k) (scopes_fault d)) (FirstOf (members_in scopes_fault ms))
    (under_tells (Name k) (scopes_of d) (scopes_fault d) (scopes_tell d))
    (λ scopes _. with_tells ms (with_transport k scopes lists))

transports_refused : Tells {A = PolicyLists} (refuse Shape (Name (codes "transports") ∷ [])) (Under (Name (codes "transports")) (row (Unit {0}) Shape []))
transports_refused = under_tells (Name (codes "transports")) (refuse Shape []) (row (Unit {0}) Shape []) (refused (Unit {0}) Shape [] tt)

transports_tell : (o : Option Data) (lists : PolicyLists) → Tells (transports_of lists o) (at_member (codes "transports") transports_fault o)
transports_tell None lists = ok_tells lists (at_member (codes "transports") transports_fault None) (λ e h. h)
transports_tell (Some (object ms)) lists = under_tells (Name (codes "transports")) (with_transports lists ms) (FirstOf (members_in scopes_fault ms)) (with_tells ms lists)
transports_tell (Some null) lists = transports_refused
transports_tell (Some (boolean b)) lists = transports_refused
transports_tell (Some (number n)) lists = transports_refused
transports_tell (Some (string s)) lists = transports_refused
transports_tell (Some (array ds)) lists = transports_refused

-- ---- the whole

abbrev lacks_default : Option Data → Row
lacks_default o = row (o ≡ None) NoDefault []

default_tells : (o t : Option Data) → Tells (default_of o >>= (λ list. transports_of (of_default list) t)) (FirstOf (lacks_default o ∷ at_member (codes "default") list_fault o ∷ at_member (codes "transports") transports_fault t ∷ []))
default_tells None t =
    hit (refuse NoDefault []) (lacks_default None) (at_member (codes "default") list_fault None ∷ at_member (codes "transports") transports_fault t ∷ [])
    (NoDefault, []) (refused (None ≡ None) NoDefault [] refl) (refl, refl)
default_tells (Some d) t =
    let later : Row = at_member (codes "transports") transports_fault t in
    skip (default_of (Some d) >>= (λ list. transports_of (of_default list) t)) (lacks_default (Some d)) (at_member (codes "default") list_fault (Some d) ∷ later ∷ [])
    (λ e h. absurd (let bad : Some d ≡ None = h.0 in cc bad))
    (chain (under (Name (codes "default")) (list_of d)) (λ list. transports_of (of_default list) t)
    (Under (Name (codes "default")) (list_fault d)) (FirstOf (later ∷ []))
    (under_tells (Name (codes "default")) (list_of d) (list_fault d) (list_tells d))
    (λ list _. last (transports_of (of_default list) t) later (transports_tell t (of_default list))))

abbrev top_names : List (List ℕ)
top_names = codes "default" ∷ codes "transports" ∷ []

abbrev top_rows : Option Data → Option Data → List Row
top_rows o t = lacks_default o ∷ at_member (codes "default") list_fault o ∷ at_member (codes "transports") transports_fault t ∷ []

whole_tells : (ms : Members) → Tells (members_of ms) (policy_fault (Some (object ms)))
unfolding members_of
whole_tells ms =
    let o = get_member (codes "default") ms in
    let t = get_member (codes "transports") ms in
    skip (members_of ms) (no_object (object ms)) (FirstOf (others_in top_names ms) ∷ top_rows o t) (λ e h. absurd h.0)
    (chain (only top_names ms) (λ _. default_of o >>= (λ list. transports_of (of_default list) t))
    (FirstOf (others_in top_names ms)) (FirstOf (top_rows o t)) (only_tells top_names ms)
    (λ _ _. default_tells o t))

whole_refused : (d : Data) → IsNoObject d → Tells {A = PolicyLists} (refuse Shape []) (policy_fault (Some d))
whole_refused d is =
    hit (refuse Shape []) (no_object d) (FirstOf (other_names top_names d) ∷ top_rows (get (codes "default") d) (get (codes "transports") d))
    (Shape, []) (refused (IsNoObject d) Shape [] is) (is, refl)

policy_tells : (o : Option Data) → Tells (policy_of o) (policy_fault o)
policy_tells None = refused (Unit {0}) NotJson [] tt
policy_tells (Some (object ms)) = whole_tells ms
policy_tells (Some null) = whole_refused null tt
policy_tells (Some (boolean b)) = whole_refused (boolean b) tt
policy_tells (Some (number n)) = whole_refused (number n) tt
policy_tells (Some (string s)) = whole_refused (string s) tt
policy_tells (Some (array ds)) = whole_refused (array ds) tt

-- ---- as it is told

told_first : (o : Option Data) (r : Judged PolicyLists) (e : PolicyFault) → Tells r (policy_fault o) → told_of r ≡ Err e → IsFirstPolicyFault o e
told_first o (Ok x) e t h = absurd (cc h)
told_first o (Err f) Memory t h = absurd (let same : Refused f.0 (pointer f.1) ≡ Memory = cc h in cc same)
told_first o (Err f) (Refused kind place) t h =
    let same : Refused f.0 (pointer f.1) ≡ Refused kind place = cc h in
    let kinds : f.0 ≡ kind = cc same in
    let members : pointer f.1 ≡ place = cc same in
    (f.1, subst (λ k. policy_fault o (k, f.1)) kinds (t.fails f refl), sym members)

first_told : (o : Option Data) (r : Judged PolicyLists) (e : PolicyFault) → Tells r (policy_fault o) → IsFirstPolicyFault o e → told_of r ≡ Err e
first_told o r Memory t h = absurd h
first_told o r (Refused kind place) t (path, found, same) =
    rw (t.failed (kind, path) found) (ap (λ m. Err (Refused kind m)) (sym same))

-- the fault that is read is the first, and the first is read
pub faults : (bytes : List ℕ) (e : PolicyFault) → (policy_in bytes ≡ Err e) ↔ IsFirstPolicyFault (tree bytes) e
faults bytes e =
    let o = tree bytes in
    let t = policy_tells o in
    (told_first o (policy_of o) e t, first_told o (policy_of o) e t)
