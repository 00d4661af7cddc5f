-- The reading of an element and the relation `IsRequirement` agree.
use Rattle.std.proofs.Common.{◌≡◌, ℕ, ◌==◌, true, false, not, List, [], ◌∷◌, ◌++◌, length, cond, codes, nat_eq, Option, Some, None, option_map, Ok, Err, refl, ap, subst, ◌∙◌, inl, inr, arith}
use Rattle.std.specs.Prelude.{◌≢◌, ◌⊎◌, option_and_then, IsSome}
use Rattle.std.specs.List.{ends_with}
use Rattle.std.specs.Result.{result_ok}
use Rattle.std.specs.Str.{bytes_eq}
use Rattle.std.proofs.lemmas.Bool.{cases_Bool, and_parts, eqb-true}
use Rattle.std.proofs.lemmas.Slice.Eq.{ends_is}
use Rattle.std.specs.Cmp.{unsigned_Decides}
use Rattle.serde_json.specs.Data.{Data, null, boolean, number, string, array, object, Items, no_items, item}
use Rattle.serde_json.specs.Find.{get, as_str}
use Rattle.image_ref.specs.Reference.{Reference}
use Rattle.image_ref.specs.Reading.{reading_of}
use Rattle.image_ref.proofs.NamedLaw.{named_read}
use Rattle.image_ref.proofs.ReadLaw.{read_named}
use Rattle.policy_file.specs.declared.requirement.Keys.{Keys}
use Rattle.policy_file.specs.declared.requirement.Keys.TheVariants.{Paths, Bytes}
use Rattle.policy_file.specs.declared.requirement.IdentityRule.{IdentityRule}
use Rattle.policy_file.specs.declared.requirement.IdentityRule.TheVariants.{Exact, RepoDigestOrExact, Repository, ExactReference, ExactRepository, Remap}
use Rattle.policy_file.specs.Identity.{reference_at, has_either, if_versioned, is_versioned, is_prefix, if_prefix, prefix_at, plain_rule, exact_reference_of, exact_repository_of, remap_of, rule_by, rule_of, or_bad_identity, identity_of}
use Rattle.policy_file.specs.IsRequirement.{HasText, IsOfType, texts_data, IsKeysFrom, IsKeys, NamesAt, IsPrefixAt, IsRule, IsIdentity}
use Rattle.policy_file.specs.Keys.{texts_from, some_texts, texts_of, base64_of, keys_from, is_gpg, or_bad_keys, keys_of}
use Rattle.policy_file.specs.Members.{has_only, text_at}
use Rattle.policy_file.proofs.ReadLemmas.{maps, chains, is_text, has_text, text_at-has, where_it_is, was_ok, same_bytes, is_object_of, has_only-object}

-- ---- keys

texts_are : (ds : Items) (ts : List (List ℕ)) → texts_from ds ≡ Some ts → ds ≡ texts_data ts
texts_are no_items [] h = refl
texts_are no_items (t ∷ ts) h = absurd (cc h)
texts_are (item d ds) ts h =
    let first = chains (λ t. option_map (λ ts. t ∷ ts) (texts_from ds)) (as_str d) ts h in
    let rest = maps (λ ts. first.value ∷ ts) (texts_from ds) ts first.is in
    subst (λ us. item d ds ≡ texts_data us) rest.is (ap₂' (is_text d first.value first.there) (texts_are ds rest.value rest.there))
  where
    ap₂' : {a b : Data} {ds es : Items} → a ≡ b → ds ≡ es → item a ds ≡ item b es
    ap₂' p q = rw (p, q) refl

texts_from-data : (ts : List (List ℕ)) → texts_from (texts_data ts) ≡ Some ts
texts_from-data [] = refl
texts_from-data (t ∷ ts) = rw (texts_from-data ts) refl

some_texts_are : (ds : Items) (ts : List (List ℕ)) → some_texts ds ≡ Some ts → (ds ≡ texts_data ts) × (ts ≢ [])
some_texts_are no_items ts h = absurd (cc h)
some_texts_are (item d ds) ts h =
    let same : item d ds ≡ texts_data ts = texts_are (item d ds) ts h in (same, λ none. let e : item d ds ≡ no_items = same ∙ ap texts_data none in cc e)

some_texts-data : (ts : List (List ℕ)) → ts ≢ [] → some_texts (texts_data ts) ≡ Some ts
some_texts-data [] h = absurd (h refl)
some_texts-data (t ∷ ts) h = texts_from-data (t ∷ ts)

texts_of_are : (d : Data) (ts : List (List ℕ)) → texts_of d ≡ Some ts → (Some d ≡ Some (array (texts_data ts))) × (ts ≢ [])
texts_of_are (array ds) ts h = let p = some_texts_are ds ts h in (ap (λ es. Some (array es)) p.0, p.1)
texts_of_are null ts h = absurd (cc h)
texts_of_are (boolean b) ts h = absurd (cc h)
texts_of_are (number n) ts h = absurd (cc h)
texts_of_are (string s) ts h = absurd (cc h)
texts_of_are (object ms) ts h = absurd (cc h)

keys_are : (path paths bytes : Option Data) (keys : Keys) → keys_from path paths bytes ≡ Some keys → IsKeysFrom path paths bytes keys
keys_are (Some path) None None keys h =
    let m = maps (λ t. Paths (t ∷ [])) (as_str path) keys h in
    subst (IsKeysFrom (Some path) None None) m.is (refl, inl (refl, (m.value, (ap Some (is_text path m.value m.there), refl))))
keys_are None (Some paths) None keys h =
    let m = maps Paths (texts_of paths) keys h in
    subst (IsKeysFrom None (Some paths) None) m.is (let p = texts_of_are paths m.value m.there in (refl, inr (refl, (p.0, p.1))))
keys_are None None (Some bytes) keys h =
    let m = maps Bytes (option_and_then base64_of (as_str bytes)) keys h in
    let t = chains base64_of (as_str bytes) m.value m.there in
    subst (IsKeysFrom None None (Some bytes)) m.is (refl, (refl, (t.value, (ap Some (is_text bytes t.value t.there), t.is))))
keys_are None None None keys h = absurd (cc h)
keys_are (Some path) (Some paths) None keys h = absurd (cc h)
keys_are (Some path) None (Some bytes) keys h = absurd (cc h)
keys_are None (Some paths) (Some bytes) keys h = absurd (cc h)
keys_are (Some path) (Some paths) (Some bytes) keys h = absurd (cc h)

keys_from-is : (path paths bytes : Option Data) (keys : Keys) → IsKeysFrom path paths bytes keys → keys_from path paths bytes ≡ Some keys
keys_from-is path paths bytes (Paths texts) h =
    elim h.1 [
      | inl one ↦ rw (one.1.1.0, one.0, h.0, one.1.1.1) refl
      | inr list ↦ rw (list.0, list.1.0, h.0, some_texts-data texts list.1.1) refl
    ]
keys_from-is path paths bytes (Bytes key) h = rw (h.0, h.1.0, h.1.1.1.0) (ap (option_map Bytes) h.1.1.1.1)

gpg_is : (o : Option Data) → is_gpg o ≡ true → o ≡ Some (string (codes "GPGKeys"))
gpg_is (Some (string s)) h = ap (λ t. Some (string t)) (same_bytes s (codes "GPGKeys") h)
gpg_is None h = absurd (cc h)
gpg_is (Some null) h = absurd (cc h)
gpg_is (Some (boolean b)) h = absurd (cc h)
gpg_is (Some (number n)) h = absurd (cc h)
gpg_is (Some (array ds)) h = absurd (cc h)
gpg_is (Some (object ms)) h = absurd (cc h)

or_bad_keys-ok : (o : Option Keys) (keys : Keys) → or_bad_keys o ≡ Ok keys → o ≡ Some keys
or_bad_keys-ok (Some k) keys h = let same : k ≡ keys = cc h in ap Some same
or_bad_keys-ok None keys h = absurd (cc h)

pub is_keys : (d : Data) (keys : Keys) → keys_of d ≡ Ok keys → IsKeys d keys
unfolding keys_of
is_keys d keys h =
    elim (cases_Bool (is_gpg (get (codes "keyType") d))) [
      | inl gpg ↦ record {
        kind = gpg_is (get (codes "keyType") d) gpg;
        members = keys_are (get (codes "keyPath") d) (get (codes "keyPaths") d) (get (codes "keyData") d) keys (or_bad_keys-ok _ keys (rw gpg at h));
      }
      | inr other ↦ absurd (let e : Err _ ≡ Ok keys = rw other at h in cc e)
    ]

pub keys_of-is : (d : Data) (keys : Keys) → IsKeys d keys → keys_of d ≡ Ok keys
unfolding keys_of
keys_of-is d keys h =
    let from = keys_from-is (get (codes "keyPath") d) (get (codes "keyPaths") d) (get (codes "keyData") d) keys h.members in
    rw (h.kind, from) refl

-- ---- identity rules

versioned_is : (tag digest : Option (List ℕ)) → has_either tag digest ≡ true → IsSome tag ⊎ IsSome digest
versioned_is None None h = absurd (cc h)
versioned_is (Some tag) digest h = inl refl
versioned_is None (Some digest) h = inr refl

has_either-is : (tag digest : Option (List ℕ)) → IsSome tag ⊎ IsSome digest → has_either tag digest ≡ true
has_either-is None None h = elim h [ inl t ↦ absurd (cc t) | inr d ↦ absurd (cc d) ]
has_either-is (Some tag) digest h = refl
has_either-is None (Some digest) h = refl

prefix_is : (text : List ℕ) → is_prefix text ≡ true → (text ≢ []) × ((front : List ℕ) → text ≢ front ++ codes "/")
prefix_is text h =
    let p = and_parts (not (length text == 0)) (not (ends_with nat_eq text (codes "/"))) h in (
      λ none. let bad : false ≡ true = rw none at p.0 in cc bad,
      λ front e. let ends = (ends_is unsigned_Decides text (codes "/") (ends_with nat_eq text (codes "/")) refl).1 front e in let bad : false ≡ true = rw ends at p.1 in cc bad,
    )

length-some : (x : ℕ) (xs : List ℕ) → (length (x ∷ xs) == 0) ≡ false
length-some x xs = elim (cases_Bool (length (x ∷ xs) == 0)) [ inl none ↦ absurd (let e = eqb-true (length (x ∷ xs)) 0 none in omega arith) | inr some ↦ some ]

is_prefix-is : (text : List ℕ) → text ≢ [] → ((front : List ℕ) → text ≢ front ++ codes "/") → is_prefix text ≡ true
is_prefix-is [] some ends = absurd (some refl)
is_prefix-is (x ∷ xs) some ends =
    elim (cases_Bool (ends_with nat_eq (x ∷ xs) (codes "/"))) [
      | inl slash ↦ absurd (ends _ ((ends_is unsigned_Decides (x ∷ xs) (codes "/") (ends_with nat_eq (x ∷ xs) (codes "/")) refl).0 slash))
      | inr other ↦ rw (length-some x xs, other) refl
    ]

prefix_at_is : (name : List ℕ) (d : Data) (text : List ℕ) → prefix_at name d ≡ Some text → IsPrefixAt name d text
prefix_at_is name d text h =
    let c = chains if_prefix (text_at name d) text h in
    let w = where_it_is (is_prefix c.value) (Some c.value) text c.is in
    let same : c.value ≡ text = cc w.1 in
    let p = prefix_is c.value w.0 in
    subst (IsPrefixAt name d) same (record { there = has_text name d c.value c.there; some = p.0; ends = p.1 })

prefix_at-is : (name : List ℕ) (d : Data) (text : List ℕ) → IsPrefixAt name d text → prefix_at name d ≡ Some text
prefix_at-is name d text h = rw (text_at-has name d text h.there, is_prefix-is text h.some h.ends) refl

names_at : (name : List ℕ) (d : Data) (r : Reference) → reference_at name d ≡ Some r → NamesAt name d r
names_at name d r h =
    let c = chains (λ text. result_ok (reading_of text)) (text_at name d) r h in
    (c.value, (has_text name d c.value c.there, read_named c.value r (was_ok (reading_of c.value) r c.is)))

reference_at-names : (name : List ℕ) (d : Data) (r : Reference) → NamesAt name d r → reference_at name d ≡ Some r
reference_at-names name d r h = rw (text_at-has name d h.0 h.1.0, named_read h.0 r h.1.1) refl

abbrev reference_names : List (List ℕ)
reference_names = codes "type" ∷ codes "dockerReference" ∷ []

abbrev repository_names : List (List ℕ)
repository_names = codes "type" ∷ codes "dockerRepository" ∷ []

abbrev remap_names : List (List ℕ)
remap_names = codes "type" ∷ codes "prefix" ∷ codes "signedPrefix" ∷ []

plain_is : (word : List ℕ) (rule r : IdentityRule) (d : Data) → HasText (codes "type") d word → plain_rule rule d ≡ Some r → (rule ≡ r) × IsOfType word [] d
plain_is word rule r d named h =
    let w = where_it_is (has_only (codes "type" ∷ []) d) (Some rule) r h in (cc w.1, record { only = is_object_of (codes "type" ∷ []) d w.0; named = named })

plain_rule-is : (rule : IdentityRule) (word : List ℕ) (d : Data) → IsOfType word [] d → plain_rule rule d ≡ Some rule
plain_rule-is rule word d h = rw (has_only-object (codes "type" ∷ []) d h.only) refl

reference_rule_is : (rule : IdentityRule) (d : Data) → HasText (codes "type") d (codes "exactReference") → exact_reference_of d ≡ Some rule → IsRule d rule
reference_rule_is rule d named h =
    let w = where_it_is (has_only reference_names d) _ rule h in
    let m = maps ExactReference (option_and_then if_versioned (reference_at (codes "dockerReference") d)) rule w.1 in
    let c = chains if_versioned (reference_at (codes "dockerReference") d) m.value m.there in
    let v = where_it_is (is_versioned c.value) (Some c.value) m.value c.is in
    let same : c.value ≡ m.value = cc v.1 in
    subst (IsRule d) m.is (subst (λ r. IsRule d (ExactReference r)) same
    (record { only = is_object_of reference_names d w.0; named = named }, (names_at (codes "dockerReference") d c.value c.there, versioned_is c.value.tag c.value.digest v.0)))

repository_rule_is : (rule : IdentityRule) (d : Data) → HasText (codes "type") d (codes "exactRepository") → exact_repository_of d ≡ Some rule → IsRule d rule
repository_rule_is rule d named h =
    let w = where_it_is (has_only repository_names d) _ rule h in
    let m = maps ExactRepository (reference_at (codes "dockerRepository") d) rule w.1 in
    subst (IsRule d) m.is (record { only = is_object_of repository_names d w.0; named = named }, names_at (codes "dockerRepository") d m.value m.there)

remap_rule_is : (rule : IdentityRule) (d : Data) → HasText (codes "type") d (codes "remapIdentity") → remap_of d ≡ Some rule → IsRule d rule
remap_rule_is rule d named h =
    let w = where_it_is (has_only remap_names d) _ rule h in
    let c = chains (λ prefix. option_map (Remap prefix) (prefix_at (codes "signedPrefix") d)) (prefix_at (codes "prefix") d) rule w.1 in
    let m = maps (Remap c.value) (prefix_at (codes "signedPrefix") d) rule c.is in
    subst (IsRule d) m.is (record { only = is_object_of remap_names d w.0; named = named }, (prefix_at_is (codes "prefix") d c.value c.there, prefix_at_is (codes "signedPrefix") d m.value m.there))

-- by the word: a test that passes gives one rule, and else the next test is asked
by_word : {A : Type 0} (P : A → Type 0) (word literal : List ℕ) (this next : Option A) (x : A) → (word ≡ literal → this ≡ Some x → P x) → (next ≡ Some x → P x) → cond (bytes_eq word literal) this next ≡ Some x → P x
by_word P word literal this next x f g h =
    elim (cases_Bool (bytes_eq word literal)) [
      | inl same ↦ f (same_bytes word literal same) (rw same at h)
      | inr other ↦ g (rw other at h)
    ]

rule_by_is : (word : List ℕ) (d : Data) (rule : IdentityRule) → HasText (codes "type") d word → rule_by word d ≡ Some rule → IsRule d rule
unfolding rule_by
rule_by_is word d rule named h =
    let as_named : (literal : List ℕ) → word ≡ literal → HasText (codes "type") d literal = λ literal same. subst (HasText (codes "type") d) same named in
    by_word (IsRule d) word (codes "matchExact") _ _ rule (λ same passed. let p = plain_is (codes "matchExact") Exact rule d (as_named _ same) passed in subst (IsRule d) p.0 p.1)
    (by_word (IsRule d) word (codes "matchRepoDigestOrExact") _ _ rule (λ same passed. let p = plain_is (codes "matchRepoDigestOrExact") RepoDigestOrExact rule d (as_named _ same) passed in subst (IsRule d) p.0 p.1)
    (by_word (IsRule d) word (codes "matchRepository") _ _ rule (λ same passed. let p = plain_is (codes "matchRepository") Repository rule d (as_named _ same) passed in subst (IsRule d) p.0 p.1)
    (by_word (IsRule d) word (codes "exactReference") _ _ rule (λ same passed. reference_rule_is rule d (as_named _ same) passed)
    (by_word (IsRule d) word (codes "exactRepository") _ _ rule (λ same passed. repository_rule_is rule d (as_named _ same) passed)
    (by_word (IsRule d) word (codes "remapIdentity") _ _ rule (λ same passed. remap_rule_is rule d (as_named _ same) passed) (λ none. absurd (cc none)))))))
    h

rule_of_is : (d : Data) (rule : IdentityRule) → rule_of d ≡ Some rule → IsRule d rule
rule_of_is d rule h = let c = chains (λ word. rule_by word d) (text_at (codes "type") d) rule h in rule_by_is c.value d rule (has_text (codes "type") d c.value c.there) c.is

rule_of-named : (word : List ℕ) (d : Data) (rule : IdentityRule) → HasText (codes "type") d word → rule_by word d ≡ Some rule → rule_of d ≡ Some rule
rule_of-named word d rule named h = rw (text_at-has (codes "type") d word named) h

rule_of-is : (d : Data) (rule : IdentityRule) → IsRule d rule → rule_of d ≡ Some rule
unfolding rule_by
rule_of-is d Exact h = rule_of-named (codes "matchExact") d Exact h.named (plain_rule-is Exact _ d h)
rule_of-is d RepoDigestOrExact h = rule_of-named (codes "matchRepoDigestOrExact") d RepoDigestOrExact h.named (plain_rule-is RepoDigestOrExact _ d h)
rule_of-is d Repository h = rule_of-named (codes "matchRepository") d Repository h.named (plain_rule-is Repository _ d h)
rule_of-is d (ExactReference r) h =
    rule_of-named (codes "exactReference") d (ExactReference r) h.0.named
    (rw (has_only-object reference_names d h.0.only, reference_at-names (codes "dockerReference") d r h.1.0, has_either-is r.tag r.digest h.1.1) refl)
rule_of-is d (ExactRepository r) h =
    rule_of-named (codes "exactRepository") d (ExactRepository r) h.0.named
    (rw (has_only-object repository_names d h.0.only, reference_at-names (codes "dockerRepository") d r h.1) refl)
rule_of-is d (Remap prefix signed) h =
    rule_of-named (codes "remapIdentity") d (Remap prefix signed) h.0.named
    (rw (has_only-object remap_names d h.0.only, prefix_at-is (codes "prefix") d prefix h.1.0, prefix_at-is (codes "signedPrefix") d signed h.1.1) refl)

or_bad_identity-ok : (o : Option IdentityRule) (rule : IdentityRule) → or_bad_identity o ≡ Ok rule → o ≡ Some rule
or_bad_identity-ok (Some r) rule h = let same : r ≡ rule = cc h in ap Some same
or_bad_identity-ok None rule h = absurd (cc h)

pub is_identity : (o : Option Data) (rule : IdentityRule) → identity_of o ≡ Ok rule → IsIdentity o rule
is_identity None rule h = cc h
is_identity (Some d) rule h = rule_of_is d rule (or_bad_identity-ok (rule_of d) rule h)

pub identity_of-is : (o : Option Data) (rule : IdentityRule) → IsIdentity o rule → identity_of o ≡ Ok rule
identity_of-is None rule h = rw h refl
identity_of-is (Some d) rule h = rw (rule_of-is d rule h) refl
