-- The full text of a reference names it.
use Rattle.std.proofs.Common.{◌≡◌, ℕ, ◌==◌, true, false, ◌&&◌, List, [], ◌∷◌, ◌++◌, length, Option, Some, None, refl, sym, ap, subst, ◌∙◌, inl, inr, codes, append_assoc, option_map}
use Rattle.std.specs.Prelude.{IfSome}
use Rattle.std.specs.Str.{bytes_eq}
use Rattle.std.proofs.lemmas.Bool.{cases_Bool}
use Rattle.std.specs.List.{All, list_all, join_with_byte}
use Rattle.std.proofs.lemmas.List.Elements.{All-cons}
use Rattle.std.proofs.lemmas.List.Folds.{list_all-append}
use Rattle.image_ref.specs.Characters.{colon, slash, at_sign}
use Rattle.image_ref.specs.Component.{IsComponent}
use Rattle.image_ref.specs.ComponentTest.{is_component}
use Rattle.image_ref.specs.Cuts.{lacks}
use Rattle.image_ref.specs.Digest.{IsDigest, digest_text, is_lower_digit}
use Rattle.image_ref.specs.Domain.{IsDomain, is_domain, after, looks_like_host}
use Rattle.image_ref.specs.Reference.{Reference, Parts, AreParts, Named, IsHost, is_hex_name, is_tag, normal_host, normal_path, full}
use Rattle.image_ref.proofs.AcceptedComponents.{is_component-to}
use Rattle.image_ref.proofs.DomainLaw.{is_domain-to}
use Rattle.image_ref.proofs.BoolLemmas.{and_false}

docker_domain : IsDomain (codes "docker.io")
unfolding is_domain
docker_domain = is_domain-to (codes "docker.io") refl

library_component : IsComponent (codes "library")
unfolding is_component
library_component = is_component-to (codes "library") refl

-- a host in its normal form
record IsNormalHost (host : List ℕ) : Type 0 where
  domain : IsDomain host
  looks : looks_like_host host ≡ true
  again : normal_host (Some host) ≡ host

normal_host_named : (d : List ℕ) → IsDomain d → looks_like_host d ≡ true → IsNormalHost (normal_host (Some d))
normal_host_named d h looks =
    elim (cases_Bool (bytes_eq d (codes "index.docker.io"))) [
      | inl index ↦ rw index (record { domain = docker_domain; looks = refl; again = refl })
      | inr other ↦ rw other (record { domain = h; looks = looks; again = rw other refl })
    ]

normal_host_is : (domain : Option (List ℕ)) (items : List (List ℕ)) → IsHost domain items → IsNormalHost (normal_host domain)
normal_host_is None items h = record { domain = docker_domain; looks = refl; again = refl }
normal_host_is (Some d) items h = normal_host_named d h.0 h.1

-- a path in its normal form
record IsNormalPath (host path : List ℕ) (items : List (List ℕ)) : Type 0 where
  joined : path ≡ join_with_byte slash items
  some : items ≡ [] → ⊥
  components : All IsComponent items
  again : normal_path host path ≡ path

with_library : (items : List (List ℕ)) → (items ≡ [] → ⊥) → codes "library/" ++ join_with_byte slash items ≡ join_with_byte slash (codes "library" ∷ items)
with_library [] some = absurd (some refl)
with_library (x ∷ more) some = refl

record HasNormalPath (host path : List ℕ) : Type 0 where
  items : List (List ℕ)
  is : IsNormalPath host path items

normal_path_is : (host : List ℕ) (items : List (List ℕ)) → (items ≡ [] → ⊥) → All IsComponent items → HasNormalPath host (normal_path host (join_with_byte slash items))
normal_path_is host items some h =
    elim (cases_Bool (bytes_eq host (codes "docker.io") && lacks slash (join_with_byte slash items))) [
      | inl alone ↦ rw alone (record {
        items = codes "library" ∷ items;
        is = record {
          joined = with_library items some;
          some = λ e. cc e;
          components = All-cons IsComponent (codes "library") items library_component h;
          again = rw (and_false (bytes_eq host (codes "docker.io"))) refl;
        };
      })
      | inr other ↦ rw other (record { items = items; is = record { joined = refl; some = some; components = h; again = rw other refl } })
    ]

slash_no_digit : (front back : List ℕ) → list_all is_lower_digit (front ++ (slash ∷ back)) ≡ false
slash_no_digit front back = list_all-append is_lower_digit front (slash ∷ back) ∙ and_false (list_all is_lower_digit front)

no_hex_full : (front back : List ℕ) → is_hex_name (front ++ (slash ∷ back)) ≡ false
no_hex_full front back = rw (slash_no_digit front back) (and_false (length (front ++ (slash ∷ back)) == 64))

full_parts : (text : List ℕ) (r : Reference) (p : Parts) → AreParts text r p → IsNormalHost r.host → HasNormalPath r.host r.path → Named (full r) r
full_parts text r p h host path =
    let rest = after colon r.tag ++ after at_sign (option_map digest_text r.digest) in (
      record { domain = Some r.host; components = path.items; tag = r.tag; digest = r.digest },
      record {
        spelled = ap (λ t. t ++ (after colon r.tag ++ after at_sign (option_map digest_text r.digest))) (ap (λ q. r.host ++ (slash ∷ q)) path.is.joined ∙ sym (append_assoc r.host (slash ∷ []) (join_with_byte slash path.items)));
        host = (host.domain, host.looks);
        some = path.is.some;
        components = path.is.components;
        tag = subst (λ t. IfSome t (λ t. is_tag t ≡ true)) (sym (ap (λ (k : Reference). k.tag) h.normal)) h.tag;
        digest = subst (λ d. IfSome d IsDigest) (sym (ap (λ (k : Reference). k.digest) h.normal)) h.digest;
        no_hex = ap is_hex_name (append_assoc r.host (slash ∷ r.path) (after colon r.tag ++ after at_sign (option_map digest_text r.digest))) ∙ no_hex_full r.host (r.path ++ (after colon r.tag ++ after at_sign (option_map digest_text r.digest)));
        normal = rw (host.again, ← path.is.joined, path.is.again) refl;
        short = h.short;
      },
    )

-- what is named once is named by its full text
pub full_named : (text : List ℕ) (r : Reference) → Named text r → Named (full r) r
full_named text r (p, h) =
    let host : IsNormalHost r.host = subst IsNormalHost (sym (ap (λ (k : Reference). k.host) h.normal)) (normal_host_is p.domain p.components h.host) in
    let path : HasNormalPath r.host r.path = subst (λ (k : Reference). HasNormalPath k.host k.path) (sym h.normal) (normal_path_is (normal_host p.domain) p.components h.some h.components) in
    full_parts text r p h host path
