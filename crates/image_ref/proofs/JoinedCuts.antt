-- Where a text that is joined of parts is cut.
use Rattle.std.proofs.Common.{◌≡◌, ℕ, ◌==◌, Bool, true, false, ◌&&◌, ◌||◌, not, List, [], ◌∷◌, ◌++◌, Option, Some, None, refl, ap, ◌∙◌, append_assoc}
use Rattle.std.specs.Prelude.{IfSome}
use Rattle.std.proofs.lemmas.Bool.{and_parts}
use Rattle.std.specs.List.{All, list_all, join_with_byte}
use Rattle.std.proofs.lemmas.List.Elements.{All-head, All-tail, All-weaker}
use Rattle.image_ref.specs.Characters.{is_alphanumeric, dot, dash, underscore, colon, slash, at_sign}
use Rattle.image_ref.specs.Component.{IsComponent}
use Rattle.image_ref.specs.Cuts.{cut_tag, lacks}
use Rattle.image_ref.specs.Domain.{IsDomain, after, looks_like_host}
use Rattle.image_ref.specs.Reference.{IsHost, IsNoHost, is_tag, before_slash}
use Rattle.image_ref.specs.Reading.{split_name}
use Rattle.image_ref.proofs.CutLemmas.{lacks-to, cut_at-none, cut_at-some, cut_tag-slash, cut_tag-leaf}
use Rattle.image_ref.proofs.ByteLemmas.{both, lacking, joined_bytes, component_byte, component_bytes}
use Rattle.image_ref.proofs.DomainLaw.{cut_at-joined, domain_bytes, domain_byte}

-- a component holds neither slash nor colon
pub no_slash : (items : List (List ℕ)) → All IsComponent items → All (λ t. lacks slash t ≡ true) items
no_slash items h = All-weaker IsComponent (λ t. lacks slash t ≡ true) (λ c k. lacking component_byte slash refl c (component_bytes c k)) items h

no_at : (items : List (List ℕ)) → All IsComponent items → All (λ t. lacks at_sign t ≡ true) items
no_at items h = All-weaker IsComponent (λ t. lacks at_sign t ≡ true) (λ c k. lacking component_byte at_sign refl c (component_bytes c k)) items h

abbrev pub tag_byte : ℕ → Bool
tag_byte b = (is_alphanumeric b || (b == underscore)) || ((b == dot) || (b == dash))

tag_bytes : (tag : List ℕ) → is_tag tag ≡ true → list_all tag_byte tag ≡ true
tag_bytes tag h = (and_parts (list_all tag_byte tag) _ (and_parts (list_all tag_byte tag && _) _ h).0).0

after_lacks : (c d : ℕ) → not (d == c) ≡ true → (text : Option (List ℕ)) → IfSome text (λ t. lacks c t ≡ true) → lacks c (after d text) ≡ true
after_lacks c d e None h = refl
after_lacks c d e (Some t) h = rw (e, h) refl

pub tag_lacks : (c : ℕ) → tag_byte c ≡ false → (tag : Option (List ℕ)) → IfSome tag (λ t. is_tag t ≡ true) → IfSome tag (λ t. lacks c t ≡ true)
tag_lacks c out None h = tt
tag_lacks c out (Some t) h = lacking tag_byte c out t (tag_bytes t h)

-- the cut before the tag
cut_component : (x : List ℕ) (tag : Option (List ℕ)) → IsComponent x → IfSome tag (λ t. is_tag t ≡ true) → cut_tag (x ++ after colon tag) ≡ (x, tag)
cut_component x tag c t =
    let bytes = component_bytes x c in
    let leaf : lacks slash (x ++ after colon tag) ≡ true = both (λ b. not (b == slash)) x (after colon tag) (lacking component_byte slash refl x bytes) (after_lacks slash colon refl tag (tag_lacks slash refl tag t)) in
    cut_tag-leaf (x ++ after colon tag) (lacks-to slash (x ++ after colon tag) leaf) ∙ cut_at-joined colon x tag (lacking component_byte colon refl x bytes)

cut_components : (items : List (List ℕ)) (tag : Option (List ℕ)) → (items ≡ [] → ⊥) → All IsComponent items → IfSome tag (λ t. is_tag t ≡ true) → cut_tag (join_with_byte slash items ++ after colon tag) ≡ (join_with_byte slash items, tag)
cut_components [] tag some h t = absurd (some refl)
cut_components (x ∷ []) tag some h t = cut_component x tag (All-head IsComponent x [] h) t
cut_components (x ∷ y ∷ more) tag some h t =
    ap cut_tag (append_assoc x (slash ∷ join_with_byte slash (y ∷ more)) (after colon tag))
    ∙ cut_tag-slash x (join_with_byte slash (y ∷ more) ++ after colon tag)
    ∙ rw (cut_components (y ∷ more) tag (λ e. cc e) (All-tail IsComponent x (y ∷ more) h) t) (ap (λ f. (f, tag)) (append_assoc x (slash ∷ []) (join_with_byte slash (y ∷ more))))

pub cut_name : (domain : Option (List ℕ)) (items : List (List ℕ)) (tag : Option (List ℕ)) → (items ≡ [] → ⊥) → All IsComponent items → IfSome tag (λ t. is_tag t ≡ true) → cut_tag ((before_slash domain ++ join_with_byte slash items) ++ after colon tag) ≡ (before_slash domain ++ join_with_byte slash items, tag)
cut_name None items tag some h t = cut_components items tag some h t
cut_name (Some d) items tag some h t =
    ap cut_tag (append_assoc (d ++ (slash ∷ [])) (join_with_byte slash items) (after colon tag) ∙ append_assoc d (slash ∷ []) (join_with_byte slash items ++ after colon tag))
    ∙ cut_tag-slash d (join_with_byte slash items ++ after colon tag)
    ∙ rw (cut_components items tag some h t) refl

-- the cut behind the host
split_domain : (d rest : List ℕ) → IsDomain d → looks_like_host d ≡ true → split_name ((d ++ (slash ∷ [])) ++ rest) ≡ (Some d, rest)
split_domain d rest h looks =
    ap split_name (append_assoc d (slash ∷ []) rest) ∙ rw (cut_at-some slash d rest (lacks-to slash d (lacking domain_byte slash refl d (domain_bytes d h))), looks) refl

split_plain : (items : List (List ℕ)) → All IsComponent items → IsNoHost items → split_name (join_with_byte slash items) ≡ (None, join_with_byte slash items)
split_plain [] h plain = absurd plain
split_plain (x ∷ []) h plain =
    rw (cut_at-none slash x (lacks-to slash x (All-head (λ t. lacks slash t ≡ true) x [] (no_slash (x ∷ []) h)))) refl
split_plain (x ∷ y ∷ more) h plain =
    rw (cut_at-some slash x (join_with_byte slash (y ∷ more)) (lacks-to slash x (All-head (λ t. lacks slash t ≡ true) x (y ∷ more) (no_slash (x ∷ y ∷ more) h))), plain) refl

pub split_parts : (domain : Option (List ℕ)) (items : List (List ℕ)) → All IsComponent items → IsHost domain items → split_name (before_slash domain ++ join_with_byte slash items) ≡ (domain, join_with_byte slash items)
split_parts None items h host = split_plain items h host
split_parts (Some d) items h host = split_domain d (join_with_byte slash items) host.0 host.1

domain_lacks : (domain : Option (List ℕ)) (items : List (List ℕ)) → IsHost domain items → lacks at_sign (before_slash domain) ≡ true
domain_lacks None items h = refl
domain_lacks (Some d) items h = both (λ b. not (b == at_sign)) d (slash ∷ []) (lacking domain_byte at_sign refl d (domain_bytes d h.0)) refl

-- no part before the digest holds an `@`
pub name_lacks : (domain : Option (List ℕ)) (items : List (List ℕ)) (tag : Option (List ℕ)) → All IsComponent items → IsHost domain items → IfSome tag (λ t. is_tag t ≡ true) → lacks at_sign ((before_slash domain ++ join_with_byte slash items) ++ after colon tag) ≡ true
name_lacks domain items tag h host t =
    both (λ b. not (b == at_sign)) (before_slash domain ++ join_with_byte slash items) (after colon tag)
    (both (λ b. not (b == at_sign)) (before_slash domain) (join_with_byte slash items) (domain_lacks domain items host) (joined_bytes (λ b. not (b == at_sign)) slash refl items (no_at items h)))
    (after_lacks at_sign colon refl tag (tag_lacks at_sign refl tag t))
