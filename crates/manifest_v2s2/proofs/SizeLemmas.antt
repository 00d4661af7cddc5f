-- The first size of a digest, against the sizes of all descriptors of it.
use Rattle.std.proofs.Common.{◌≡◌, ◌≢◌, ◌⊎◌, inl, inr, ℕ, cond, Bool, true, false, List, [], ◌∷◌, ◌++◌, Option, Some, None, Result, Ok, Err, refl, sym, ap, ◌∙◌}
use Rattle.std.specs.Prelude.{OnErr}
use Rattle.std.specs.Option.{is_some}
use Rattle.std.specs.Str.{bytes_eq}
use Rattle.std.specs.Ordering.{nat_cmp}
use Rattle.std.specs.Cmp.Lexicographic.{slice_cmp}
use Rattle.std.specs.BTreeMap.{get, Updates}
use Rattle.std.proofs.lemmas.Map.Text.{is_eq-slice_cmp}
use Rattle.std.proofs.lemmas.Bool.{eqb-true, eq-eqb}
use Rattle.std.proofs.lemmas.Slice.Eq.{bytes_eq-Decides}
use Rattle.manifest_v2s2.specs.Known.{Differs, first_size, agrees, AreFirstSizes}
use Rattle.manifest_v2s2.specs.declared.sizes.Known.{Known}
use Rattle.manifest_v2s2.specs.declared.sizes.Sizes.{Sizes}

-- the first size of the digest is another one
pub record DiffersFirst (known : List Known) (digest : List ℕ) (size : ℕ) : Type 0 where
  pub first : ℕ
  pub is : first_size known digest ≡ Some first
  pub other : first ≢ size

-- where some size of a digest differs, the first one does
pub record IsSettled (known : List Known) : Type 0 where
  pub settled : (digest : List ℕ) (size : ℕ) → Differs known digest size → DiffersFirst known digest size

pub cases_Bool : (b : Bool) → (b ≡ true) ⊎ (b ≡ false)
cases_Bool true = inl refl
cases_Bool false = inr refl

same_digest : (a b : List ℕ) → bytes_eq a b ≡ true → a ≡ b
same_digest a b h = (bytes_eq-Decides a b).0 h

digest_same : (a b : List ℕ) → a ≡ b → bytes_eq a b ≡ true
digest_same a b h = (bytes_eq-Decides a b).1 h

-- a first size that differs is a size that differs
pub differs-first : (known : List Known) (digest : List ℕ) (size : ℕ) → DiffersFirst known digest size → Differs known digest size
differs-first [] digest size h = cc h.is
differs-first (k ∷ known) digest size h =
    elim (cases_Bool (bytes_eq k.digest digest)) [
      | inl e ↦
          let is : Some k.size ≡ Some h.first = sym (rw e refl) ∙ h.is in
          let same : k.size ≡ h.first = cc is in
          inl (same_digest k.digest digest e, rw same h.other)
      | inr e ↦
          let is : first_size known digest ≡ Some h.first = sym (rw e refl) ∙ h.is in
          inr (differs-first known digest size record { first = h.first; is = is; other = h.other })
    ]

-- ---- one more descriptor at the end

first_size-kept : (known : List Known) (k : Known) (digest : List ℕ) (n : ℕ) → first_size known digest ≡ Some n → first_size (known ++ k ∷ []) digest ≡ Some n
first_size-kept [] k digest n h = cc h
first_size-kept (l ∷ known) k digest n h =
    elim (cases_Bool (bytes_eq l.digest digest)) [
      | inl e ↦ rw e (sym (rw e refl) ∙ h)
      | inr e ↦ rw e (first_size-kept known k digest n (sym (rw e refl) ∙ h))
    ]

first_size-last : (known : List Known) (k : Known) (digest : List ℕ) → first_size known digest ≡ None → first_size (known ++ k ∷ []) digest ≡ cond (bytes_eq k.digest digest) (Some k.size) None
first_size-last [] k digest h = refl
first_size-last (l ∷ known) k digest h =
    elim (cases_Bool (bytes_eq l.digest digest)) [
      | inl e ↦ let none : Some l.size ≡ None = sym (rw e refl) ∙ h in cc none
      | inr e ↦ rw e (first_size-last known k digest (sym (rw e refl) ∙ h))
    ]

pub differs-append : (known : List Known) (k : Known) (digest : List ℕ) (size : ℕ) → Differs (known ++ k ∷ []) digest size → Differs known digest size ⊎ ((k.digest ≡ digest) × (k.size ≢ size))
differs-append [] k digest size (inl here) = inr here
differs-append [] k digest size (inr none) = absurd none
differs-append (l ∷ known) k digest size (inl here) = inl (inl here)
differs-append (l ∷ known) k digest size (inr later) =
    elim (differs-append known k digest size later) [ inl before ↦ inl (inr before) | inr last ↦ inr last ]

pub settled-none : IsSettled []
settled-none = record { settled = λ digest size h. absurd h }

-- a descriptor whose size agrees leaves the sizes settled
pub settled-more : (known : List Known) (k : Known) → IsSettled known → agrees (first_size known k.digest) k.size ≡ true → IsSettled (known ++ k ∷ [])
settled-more known k h agree = record { settled = λ digest size d. elim (differs-append known k digest size d) [ inl before ↦ earlier digest size (h.settled digest size before) | inr last ↦ itself digest size last.0 last.1 (first_size known digest) refl ] }
  where
    earlier : (digest : List ℕ) (size : ℕ) → DiffersFirst known digest size → DiffersFirst (known ++ k ∷ []) digest size
    earlier digest size d = record { first = d.first; is = first_size-kept known k digest d.first d.is; other = d.other }

    itself : (digest : List ℕ) (size : ℕ) → k.digest ≡ digest → k.size ≢ size → (o : Option ℕ) → first_size known digest ≡ o → DiffersFirst (known ++ k ∷ []) digest size
    itself digest size e other None is = record { first = k.size; is = first_size-last known k digest is ∙ rw (digest_same k.digest digest e) refl; other = other }
    itself digest size e other (Some n) is =
        let told : agrees (Some n) k.size ≡ true = ap (λ o. agrees o k.size) (sym is ∙ ap (first_size known) (sym e)) ∙ agree in
        let same : n ≡ k.size = eqb-true n k.size told in
        record { first = n; is = first_size-kept known k digest n is; other = rw same other }

-- ---- the test of the first size

pub agrees-settles : (known : List Known) (digest : List ℕ) (size : ℕ) → agrees (first_size known digest) size ≡ true → DiffersFirst known digest size → ⊥
agrees-settles known digest size h d =
    let told : agrees (Some d.first) size ≡ true = ap (λ o. agrees o size) (sym d.is) ∙ h in
    d.other (eqb-true d.first size told)

pub agrees-not : (known : List Known) (digest : List ℕ) (size : ℕ) → agrees (first_size known digest) size ≡ false → DiffersFirst known digest size
agrees-not known digest size h = by_first (first_size known digest) refl h
  where
    by_first : (o : Option ℕ) → first_size known digest ≡ o → agrees o size ≡ false → DiffersFirst known digest size
    by_first None is t = cc t
    by_first (Some n) is t = record { first = n; is = is; other = λ e. cc (sym t ∙ eq-eqb n size e) }

-- ---- the map of first sizes

some_or_none : (o : Option ℕ) → ((n : ℕ) × (o ≡ Some n)) ⊎ (o ≡ None)
some_or_none (Some n) = inl (n, refl)
some_or_none None = inr refl

-- a descriptor whose digest is known changes no first size
known_already : (known : List Known) (k : Known) (digest : List ℕ) → is_some (first_size known k.digest) ≡ true → first_size known digest ≡ first_size (known ++ k ∷ []) digest
known_already known k digest h =
    elim (some_or_none (first_size known digest)) [
      | inl some ↦ some.1 ∙ sym (first_size-kept known k digest some.0 some.1)
      | inr none ↦ elim (cases_Bool (bytes_eq k.digest digest)) [
        | inl e ↦
            let there : is_some (first_size known digest) ≡ true = ap (λ d. is_some (first_size known d)) (sym (same_digest k.digest digest e)) ∙ h in
            cc (sym there ∙ ap is_some none)
        | inr e ↦ none ∙ sym (first_size-last known k digest none ∙ rw e refl)
      ]
    ]

-- one whose digest is new gives it its first size
known_newly : (known : List Known) (k : Known) (digest : List ℕ) → is_some (first_size known k.digest) ≡ false → cond (bytes_eq k.digest digest) (Some k.size) (first_size known digest) ≡ first_size (known ++ k ∷ []) digest
known_newly known k digest h =
    elim (cases_Bool (bytes_eq k.digest digest)) [
      | inl e ↦
          let absent : is_some (first_size known digest) ≡ false = ap (λ d. is_some (first_size known d)) (sym (same_digest k.digest digest e)) ∙ h in
          elim (some_or_none (first_size known digest)) [
            | inl some ↦ cc (sym absent ∙ ap is_some some.1)
            | inr none ↦ ap (cond (bytes_eq k.digest digest) (Some k.size)) none ∙ sym (first_size-last known k digest none)
          ]
      | inr e ↦
          let off : cond (bytes_eq k.digest digest) (Some k.size) (first_size known digest) ≡ first_size known digest = rw e refl in
          elim (some_or_none (first_size known digest)) [
            | inl some ↦ off ∙ some.1 ∙ sym (first_size-kept known k digest some.0 some.1)
            | inr none ↦ ap (cond (bytes_eq k.digest digest) (Some k.size)) none ∙ sym (first_size-last known k digest none)
          ]
    ]

pub sizes-kept : (sizes : Sizes) (known : List Known) (k : Known) → AreFirstSizes sizes known → is_some (get (slice_cmp nat_cmp) sizes.first k.digest) ≡ true → AreFirstSizes sizes (known ++ k ∷ [])
sizes-kept sizes known k are h =
    let there : is_some (first_size known k.digest) ≡ true = sym (ap is_some (are.same k.digest)) ∙ h in
    record { same = λ digest. are.same digest ∙ known_already known k digest there }

pub sizes-added : (sizes next : Sizes) (known : List Known) (k : Known) → AreFirstSizes sizes known → is_some (get (slice_cmp nat_cmp) sizes.first k.digest) ≡ false
    → Updates (slice_cmp nat_cmp) sizes.first next.first k.digest (Some k.size) → AreFirstSizes next (known ++ k ∷ [])
sizes-added sizes next known k are h updates =
    let absent : is_some (first_size known k.digest) ≡ false = sym (ap is_some (are.same k.digest)) ∙ h in
    record {
      same = λ digest.
          updates.0 digest ∙ ap (λ b. cond b (Some k.size) (get (slice_cmp nat_cmp) sizes.first digest)) (is_eq-slice_cmp k.digest digest)
          ∙ ap (cond (bytes_eq k.digest digest) (Some k.size)) (are.same digest) ∙ known_newly known k digest absent;
    }

-- a map of the same entries has the same first sizes, whatever was answered
pub sizes-same : {A B : Type 0} (r : Result A B) (sizes next : Sizes) (known : List Known) → AreFirstSizes sizes known → next.first.entries ≡ sizes.first.entries → OnErr r (AreFirstSizes next known)
sizes-same (Ok x) sizes next known are e = tt
sizes-same (Err y) sizes next known are e = record { same = λ digest. rw e (are.same digest) }
