-- A reference names a repository and a manifest that can be asked for.
use Rattle.std.proofs.Common.{◌≡◌, ◌++◌, ◌∷◌, [], List, ℕ, Bool, true, false, cond, ◌&&◌, codes, Option, Some, None, inl, refl, sym, ap, subst, ◌∙◌, arith}
use Rattle.std.specs.Prelude.{IfSome}
use Rattle.std.specs.List.{All, join_with_byte}
use Rattle.std.specs.Str.{bytes_eq}
use Rattle.std.proofs.lemmas.List.Elements.{All-cons}
use Rattle.std.proofs.lemmas.List.Sums.{AllPass-from_list_all}
use Rattle.image_ref.specs.Characters.{slash, is_run_byte}
use Rattle.image_ref.specs.Component.{IsComponent, last}
use Rattle.image_ref.specs.Cuts.{lacks}
use Rattle.image_ref.specs.Domain.{is_domain}
use Rattle.image_ref.specs.Reference.{Reference, Parts, Named, IsHost, IsTag, IsPath, full, is_tag, normal_host, normal_path, path_of}
use Rattle.image_ref.proofs.DomainLaw.{is_domain-from}
use Rattle.registry_http.specs.Requests.{IsAsked}
use Rattle.registry_http.specs.Steps.{IsTagOrDigest}

docker : is_domain (codes "docker.io") ≡ true
unfolding is_domain
docker = refl

host_of : (d : Option (List ℕ)) (cs : List (List ℕ)) → IsHost d cs → is_domain (normal_host d) ≡ true
host_of None cs h = docker
host_of (Some d) cs h = by (bytes_eq d (codes "index.docker.io"))
  where
    by : (b : Bool) → is_domain (cond b (codes "docker.io") d) ≡ true
    by true = docker
    by false = is_domain-from d h.0

library : IsComponent (codes "library")
library = last (codes "library") (record { some = omega arith; bytes = AllPass-from_list_all is_run_byte (codes "library") refl })

prefixed : (cs : List (List ℕ)) → (cs ≡ [] → ⊥) → codes "library/" ++ join_with_byte slash cs ≡ join_with_byte slash (codes "library" ∷ cs)
prefixed [] some = absurd (some refl)
prefixed (c ∷ cs) some = refl

path_is : (host : List ℕ) (p : Parts) → (p.components ≡ [] → ⊥) → All IsComponent p.components → IsPath (normal_path host (path_of p))
path_is host p some all = by (bytes_eq host (codes "docker.io") && lacks slash (path_of p))
  where
    by : (b : Bool) → IsPath (cond b (codes "library/" ++ path_of p) (path_of p))
    by true = record {
      components = codes "library" ∷ p.components;
      joined = prefixed p.components some;
      some = λ e. (let no : codes "library" ∷ p.components ≡ [] = e in cc);
      are_components = All-cons IsComponent (codes "library") p.components library all;
    }
    by false = record { components = p.components; joined = refl; some = some; are_components = all }

pub is_path : (r : Reference) (path : List ℕ) → Named (full r) r → path ≡ r.path → IsPath path
is_path r path named is =
    let p = named.0 in
    let a = named.1 in
    let q : path ≡ normal_path (normal_host p.domain) (path_of p) = is ∙ ap (λ (x : Reference). x.path) a.normal in
    subst IsPath (sym q) (path_is (normal_host p.domain) p a.some a.components)

pub is_asked : (r : Reference) (host path : List ℕ) → Named (full r) r → host ≡ r.host → path ≡ r.path → IsAsked (record { host = host; path = path; insecure = true })
is_asked r host path named is_host the_path =
    let p = named.0 in
    let a = named.1 in
    let h : host ≡ normal_host p.domain = is_host ∙ ap (λ (x : Reference). x.host) a.normal in
    record {
      insecure = refl;
      host = subst (λ x. is_domain x ≡ true) (sym h) (host_of p.domain p.components a.host);
      path = is_path r path named the_path;
    }

pub is_named_tag : (r : Reference) (tag text : List ℕ) → Named (full r) r → r.tag ≡ Some tag → text ≡ tag → IsTagOrDigest text
is_named_tag r tag text named has is =
    let same : named.0.tag ≡ Some tag = sym (ap (λ (x : Reference). x.tag) named.1.normal) ∙ has in
    inl (subst IsTag (sym is) (subst (λ t. IfSome t (λ t. is_tag t ≡ true)) same named.1.tag))

pub is_latest : (text : List ℕ) → text ≡ codes "latest" → IsTagOrDigest text
is_latest text is = inl (subst IsTag (sym is) refl)
