-- What a text names: references, after the reference grammar of the distribution project, with
-- SHA-256 as the one digest, a bound on ports, and no IPv6 address as a host.
--
--   reference = name [":" tag] ["@" digest]
--   name      = [domain "/"] component {"/" component}
--   tag       = (letter | digit | "_") {letter | digit | "_" | "." | "-"}, of at most 128 bytes
--
-- What stands before the first "/" is the domain where it holds "." or ":" or is `localhost`, and
-- a component elsewhere. The normal form has a host always, `docker.io` where none was named.
use Rattle.std.specs.Prelude.{◌≡◌, ℕ, ◌≤◌, List, [], ◌∷◌, ◌++◌, length, Bool, true, false, ◌&&◌, ◌||◌, ◌==◌, nat_le, Option, Some, None, IfSome, if◌then◌else◌, codes, slice_index, option_map}
use Rattle.std.specs.List.{All, list_all, join_with_byte}
use Rattle.std.specs.Str.{bytes_eq}
use Rattle.image_ref.specs.Characters.{is_alphanumeric, slash, colon, at_sign, dot, dash, underscore}
use Rattle.image_ref.specs.Component.{IsComponent}
use Rattle.image_ref.specs.Cuts.{lacks}
use Rattle.image_ref.specs.Digest.{IsDigest, digest_text, is_lower_digit}
use Rattle.image_ref.specs.Domain.{IsDomain, looks_like_host, after}

-- a tag, as a test
abbrev pub is_tag : List ℕ → Bool
is_tag text =
    (list_all (λ b. (is_alphanumeric b || (b == underscore)) || ((b == dot) || (b == dash))) text
    && nat_le (length text) 128)
    && (is_alphanumeric (slice_index text 0) || (slice_index text 0 == underscore))

-- a tag
abbrev pub IsTag : List ℕ → Type 0
IsTag text = is_tag text ≡ true

-- a path: components, joined by slashes
pub record IsPath (text : List ℕ) : Type 0 where
  pub components : List (List ℕ)
  pub joined : text ≡ join_with_byte slash components
  pub some : components ≡ [] → ⊥
  pub are_components : All IsComponent components

-- a text of 64 lower-case hexadecimal digits is no name
abbrev pub is_hex_name : List ℕ → Bool
is_hex_name text = (length text == 64) && list_all is_lower_digit text

-- a reference in its normal form
pub record Reference : Type 0 where
  pub host : List ℕ
  pub path : List ℕ
  pub tag : Option (List ℕ)
  pub digest : Option (List ℕ)

-- host and path as one text
abbrev pub repository_of : Reference → List ℕ
repository_of r = r.host ++ (slash ∷ r.path)

-- the full text: the name in its normal form, the tag and the digest where they are there
abbrev pub full : Reference → List ℕ
full r = repository_of r ++ (after colon r.tag ++ after at_sign (option_map digest_text r.digest))

-- the normal form of a host that was named, or was not
abbrev pub normal_host : Option (List ℕ) → List ℕ
normal_host None = codes "docker.io"
normal_host (Some host) =
    if bytes_eq host (codes "index.docker.io") then codes "docker.io" else host

-- under `docker.io` a path of one component gets `library/` in front
abbrev pub normal_path : List ℕ → List ℕ → List ℕ
normal_path host path =
    if bytes_eq host (codes "docker.io") && lacks slash path then codes "library/" ++ path
    else path

-- what a text is joined of
pub record Parts : Type 0 where
  pub domain : Option (List ℕ)
  pub components : List (List ℕ)
  pub tag : Option (List ℕ)
  pub digest : Option (List ℕ)

-- a domain and its slash, where there is one
abbrev pub before_slash : Option (List ℕ) → List ℕ
before_slash None = []
before_slash (Some domain) = domain ++ (slash ∷ [])

-- the components, joined by slashes
abbrev pub path_of : Parts → List ℕ
path_of p = join_with_byte slash p.components

-- the text that the parts spell
abbrev pub spelled : Parts → List ℕ
spelled p =
    (before_slash p.domain ++ path_of p)
    ++ (after colon p.tag ++ after at_sign (option_map digest_text p.digest))

-- the normal form of what was spelled
abbrev pub normal : Option (List ℕ) → List ℕ → Option (List ℕ) → Option (List ℕ) → Reference
normal domain path tag digest =
    let host = normal_host domain in
    record { host = host; path = normal_path host path; tag = tag; digest = digest }

-- without a domain no first component before a slash looks like a host: it would be one
abbrev pub IsNoHost : List (List ℕ) → Type 0
IsNoHost [] = ⊥
IsNoHost (only ∷ []) = Unit {0}
IsNoHost (first ∷ second ∷ more) = looks_like_host first ≡ false

-- a domain is one that looks like a host
abbrev pub IsHost : Option (List ℕ) → List (List ℕ) → Type 0
IsHost None components = IsNoHost components
IsHost (Some domain) components = IsDomain domain × (looks_like_host domain ≡ true)

-- the text is these parts joined, and r is their normal form
pub record AreParts (text : List ℕ) (r : Reference) (p : Parts) : Type 0 where
  pub spelled : text ≡ spelled p
  pub host : IsHost p.domain p.components
  pub some : p.components ≡ [] → ⊥
  pub components : All IsComponent p.components
  pub tag : IfSome p.tag (λ t. is_tag t ≡ true)
  pub digest : IfSome p.digest IsDigest
  pub no_hex : is_hex_name text ≡ false
  pub normal : r ≡ normal p.domain (path_of p) p.tag p.digest
  pub short : length (repository_of r) ≤ 255

-- the text names the reference
abbrev pub Named : List ℕ → Reference → Type 0
Named text r = (p : Parts) × AreParts text r p

-- what a reference means where it names an image: with neither tag nor digest the tag `latest`,
-- with both nothing
abbrev pub Means : Reference → Option (List ℕ) → Option (List ℕ) → Reference → Type 0
Means named (Some tag) (Some digest) image = ⊥
Means named None None image = image ≡ record named { tag = Some (codes "latest") }
Means named (Some tag) None image = image ≡ named
Means named None (Some digest) image = image ≡ named

-- the text names this image
abbrev pub ImageNamed : List ℕ → Reference → Type 0
ImageNamed text image =
    (named : Reference) × Named text named × Means named named.tag named.digest image
