-- The place that is found is that of the first entry that fits.
use Rattle.std.proofs.Common.{◌≡◌, ◌⊎◌, inl, inr, ℕ, suc, ◌+◌, cond, Bool, true, false, ◌&&◌, ◌||◌, List, [], ◌∷◌, take, Option, Some, None, refl, sym, ap, ◌∙◌, subst, arith}
use Rattle.std.specs.List.{All}
use Rattle.std.specs.Prelude.{slice_get}
use Rattle.std.specs.Str.{bytes_eq}
use Rattle.std.proofs.lemmas.List.Elements.{All-nil, All-cons}
use Rattle.std.proofs.lemmas.Slice.Eq.{bytes_eq-Decides}
use Rattle.manifest_v2s2.specs.Media.{media_of}
use Rattle.manifest_v2s2.specs.declared.kind.Kind.TheVariants.{V2s2, Oci}
use Rattle.manifest_list.specs.declared.list.ListEntry.{ListEntry}
use Rattle.manifest_list.specs.declared.platform.Platform.{Platform}
use Rattle.manifest_list.specs.Platform.{os_of, arch_of, variant_of}
use Rattle.manifest_list.specs.Choice.{Asked, IsImageType, HasVariant, Suits, Fits, IsInstance, IsChosen, is_image_type, is_there, has_variant, suits, suits_there, fits, instance_from}

-- ---- tests

both-true : (a b : Bool) → (a && b) ≡ true → (a ≡ true) × (b ≡ true)
both-true true b h = (refl, h)
both-true false b h = cc h

true-both : (a b : Bool) → a ≡ true → b ≡ true → (a && b) ≡ true
true-both a b h k = rw (h, k) refl

same : (a b : List ℕ) → bytes_eq a b ≡ true → a ≡ b
same a b h = (bytes_eq-Decides a b).0 h

eq : (a b : List ℕ) → a ≡ b → bytes_eq a b ≡ true
eq a b h = (bytes_eq-Decides a b).1 h

image-type : (media : List ℕ) → is_image_type media ≡ true → IsImageType media
image-type media h = by_first (bytes_eq media (media_of V2s2)) refl h
  where
    by_first : (b : Bool) → bytes_eq media (media_of V2s2) ≡ b → (b || bytes_eq media (media_of Oci)) ≡ true → IsImageType media
    by_first true e h = inl (same media (media_of V2s2) e)
    by_first false e h = inr (same media (media_of Oci) h)

type-image : (media : List ℕ) → IsImageType media → is_image_type media ≡ true
type-image media (inl e) = rw (eq media (media_of V2s2) e) refl
type-image media (inr e) = by_first (bytes_eq media (media_of V2s2))
  where
    by_first : (b : Bool) → (b || bytes_eq media (media_of Oci)) ≡ true
    by_first true = refl
    by_first false = eq media (media_of Oci) e

variant-has : (asked variant : Option (List ℕ)) → has_variant asked variant ≡ true → HasVariant asked variant
variant-has None variant h = tt
variant-has (Some text) None h = cc h
variant-has (Some text) (Some other) h = ap (λ t. Some t) (same other text h)

has-variant : (asked variant : Option (List ℕ)) → HasVariant asked variant → has_variant asked variant ≡ true
has-variant None variant h = refl
has-variant (Some text) variant h = ap (is_there text) h ∙ eq text text refl

suits-is : (asked : Asked) (p : Platform) → suits asked p ≡ true → Suits asked p
suits-is asked p h =
    let os = both-true (bytes_eq (os_of p) asked.os) _ h in
    let arch = both-true (bytes_eq (arch_of p) asked.arch) _ os.1 in
    record { os = same (os_of p) asked.os os.0; arch = same (arch_of p) asked.arch arch.0; variant = variant-has asked.variant (variant_of p) arch.1 }

is-suits : (asked : Asked) (p : Platform) → Suits asked p → suits asked p ≡ true
is-suits asked p h =
    true-both _ _ (eq (os_of p) asked.os h.os) (true-both _ _ (eq (arch_of p) asked.arch h.arch) (has-variant asked.variant (variant_of p) h.variant))

fits-by : (asked : Asked) (e : ListEntry) (o : Option Platform) → e.platform ≡ o → is_image_type e.target.media ≡ true → suits_there asked o ≡ true → Fits asked e
fits-by asked e None f t h = cc h
fits-by asked e (Some p) f t h = record { image = image-type e.target.media t; platform = p; there = f; suits = suits-is asked p h }

fits-is : (asked : Asked) (e : ListEntry) → fits asked e ≡ true → Fits asked e
fits-is asked e h = let parts = both-true (is_image_type e.target.media) _ h in fits-by asked e e.platform refl parts.0 parts.1

is-fits : (asked : Asked) (e : ListEntry) → Fits asked e → fits asked e ≡ true
is-fits asked e h = true-both _ _ (type-image e.target.media h.image) (ap (suits_there asked) h.there ∙ is-suits asked h.platform h.suits)

no-fits : (asked : Asked) (e : ListEntry) → fits asked e ≡ false → Fits asked e → ⊥
no-fits asked e not h = cc (sym not ∙ is-fits asked e h)

-- ---- places

-- the first that fits is so many places behind the first of all
record IsBehind (asked : Asked) (i : ℕ) (es : List ListEntry) (place : ℕ) : Type 0 where
  after : ℕ
  counted : place ≡ i + after
  first : IsInstance asked es after

found-here : (asked : Asked) (i : ℕ) (e : ListEntry) (es : List ListEntry) (place : ℕ) → fits asked e ≡ true → Some i ≡ Some place → IsBehind asked i (e ∷ es) place
found-here asked i e es place t h =
    let is : i ≡ place = cc h in
    record {
      after = 0;
      counted = omega (arith, is);
      first = record { entry = e; there = refl; fits = fits-is asked e t; none_before = All-nil _ };
    }

found-later : (asked : Asked) (i : ℕ) (e : ListEntry) (es : List ListEntry) (place : ℕ) → fits asked e ≡ false → IsBehind asked (suc i) es place → IsBehind asked i (e ∷ es) place
found-later asked i e es place f h =
    let counted : place ≡ i + suc h.after = omega (arith, h.counted) in
    record {
      after = suc h.after;
      counted = counted;
      first = record {
        entry = h.first.entry;
        there = h.first.there;
        fits = h.first.fits;
        none_before = All-cons (λ (w : ListEntry). Fits asked w → ⊥) e (take h.after es) (no-fits asked e f) h.first.none_before;
      };
    }

found-some : (asked : Asked) (i : ℕ) (es : List ListEntry) (place : ℕ) → instance_from asked i es ≡ Some place → IsBehind asked i es place
found-some asked i [] place h = cc h
found-some asked i (e ∷ es) place h = tested (fits asked e) refl h (found-some asked (suc i) es place)
  where
    tested : (b : Bool) → fits asked e ≡ b → cond b (Some i) (instance_from asked (suc i) es) ≡ Some place → (instance_from asked (suc i) es ≡ Some place → IsBehind asked (suc i) es place) → IsBehind asked i (e ∷ es) place
    tested true t h rest = found-here asked i e es place t h
    tested false f h rest = found-later asked i e es place f (rest h)

found-none : (asked : Asked) (i : ℕ) (es : List ListEntry) → instance_from asked i es ≡ None → All (λ e. Fits asked e → ⊥) es
found-none asked i [] h = All-nil _
found-none asked i (e ∷ es) h = tested (fits asked e) refl h (found-none asked (suc i) es)
  where
    tested : (b : Bool) → fits asked e ≡ b → cond b (Some i) (instance_from asked (suc i) es) ≡ None → (instance_from asked (suc i) es ≡ None → All (λ e. Fits asked e → ⊥) es) → All (λ e. Fits asked e → ⊥) (e ∷ es)
    tested true t h rest = cc h
    tested false f h rest = All-cons (λ (w : ListEntry). Fits asked w → ⊥) e es (no-fits asked e f) (rest h)

pub chosen : (asked : Asked) (es : List ListEntry) (o : Option ℕ) → o ≡ instance_from asked 0 es → IsChosen asked es o
chosen asked es None h = found-none asked 0 es (sym h)
chosen asked es (Some place) h =
    let found = found-some asked 0 es place (sym h) in
    let is : found.after ≡ place = omega (arith, found.counted) in
    subst (IsInstance asked es) is found.first
