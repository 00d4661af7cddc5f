-- The text of a request: the lines of its head in their order, an empty line, and its body (RFC 9112, sections 2.1 and 3).
use Rattle.std.specs.Prelude.{◌≡◌, ◌≢◌, ℕ, ◌<◌, ◌≤◌, ◌^◌, ◌⊎◌, Bool, true, false, not, ◌==◌, ◌&&◌, ◌||◌, List, [], ◌∷◌, ◌++◌, length, codes, Option, Some, None, MatchOption}
use Rattle.std.specs.Fmt.{decimal}
use Rattle.std.specs.List.{list_all}
use Rattle.std.specs.Char.{is_ascii_uppercase}
use Rattle.http_message.specs.declared.request.Request.{Request}
use Rattle.http_message.specs.Sent.{with_head, HasHead, is_one_line, is_text, puts_manifest, deletes}
use Rattle.http_message.specs.OneRequest.{IsOneRequest}
use Rattle.http_message.specs.Visible.{are_visible}

-- the kinds of manifest that are taken, in order
unfoldable pub manifest_types : List ℕ
manifest_types =
    codes "application/vnd.oci.image.manifest.v1+json, application/vnd.oci.image.index.v1+json, application/vnd.docker.distribution.manifest.v2+json, application/vnd.docker.distribution.manifest.list.v2+json"

-- the method, the target and the version
abbrev pub first_line : Request → List ℕ
first_line r = r.method ++ (codes " " ++ (r.target ++ codes " HTTP/1.1"))

-- the line that says which kinds of manifest are taken, where one is asked for
abbrev pub accept_line : Bool → List (List ℕ)
accept_line false = []
accept_line true = (codes "Accept: " ++ manifest_types) ∷ []

-- the line that tells the body's type, where it has one
abbrev pub type_line : Option (List ℕ) → List (List ℕ)
type_line None = []
type_line (Some t) = (codes "Content-Type: " ++ t) ∷ []

-- the line that tells the body's length, where it has one
abbrev pub size_line : Option ℕ → List (List ℕ)
size_line None = []
size_line (Some n) = (codes "Content-Length: " ++ decimal n) ∷ []

-- the lines of its head
abbrev pub lines_of : Request → List (List ℕ)
lines_of r = first_line r
    ∷ (codes "Host: " ++ r.host)
    ∷ codes "User-Agent: skopeo"
    ∷ (accept_line r.accept ++ (codes "Accept-Encoding: identity"
    ∷ (type_line r.content_type ++ (size_line r.length ++ (codes "Connection: close" ∷ [])))))

-- its bytes: those of its head, and those of its body
abbrev pub text_of : Request → List ℕ → List ℕ
text_of r body = with_head (lines_of r) body

-- the bytes that it counts for its body
abbrev pub counted : Option ℕ → ℕ
counted None = 0
counted (Some n) = n

-- its method is capital letters, nothing in it ends a line, and its length has 64 bits
pub record IsClean (r : Request) : Type 0 where
  pub method : list_all is_ascii_uppercase r.method ≡ true
  pub host : is_one_line r.host ≡ true
  pub target : is_one_line r.target ≡ true
  pub content_type : MatchOption r.content_type Unit (λ t. is_one_line t ≡ true)
  pub size : counted r.length < 2 ^ 64

-- it asks, and gives nothing: a GET or a HEAD
abbrev pub only_asks : Request → Bool
only_asks r = is_text (codes "GET") r.method || is_text (codes "HEAD") r.method

-- a request that asks, or gives something, and tells this length counts so many bytes for its body; one that asks tells none
abbrev pub counts_body : Bool → Option ℕ → ℕ → Bool
counts_body asks None size = size == 0
counts_body asks (Some n) size = not asks && n == size

-- its body's type is visible bytes, where it has one
abbrev pub is_visible_type : Option (List ℕ) → Bool
is_visible_type None = true
is_visible_type (Some t) = are_visible t

-- its method is capital letters, and its host, target and type are visible bytes
abbrev pub is_shown : Request → Bool
is_shown r = list_all is_ascii_uppercase r.method && (are_visible r.host && (are_visible r.target && is_visible_type r.content_type))

-- It may be sent with a body of so many bytes: its method is capital letters, its host, target and type are visible
-- bytes, and it counts that body; a GET and a HEAD have none.
pub record MaySend (r : Request) (size : ℕ) : Type 0 where
  pub method : list_all is_ascii_uppercase r.method ≡ true
  pub host : are_visible r.host ≡ true
  pub target : are_visible r.target ≡ true
  pub content_type : is_visible_type r.content_type ≡ true
  pub counts : counted r.length ≡ size
  pub small : size < 2 ^ 64
  pub asks : only_asks r ≡ true → r.length ≡ None

-- what was sent begins this request with this body, and is followed by the tail
pub record Begins (r : Request) (body sent tail : List ℕ) : Type 0 where
  pub clean : IsClean r
  pub fits : length body ≤ counted r.length
  pub front : sent ++ tail ≡ text_of r body

-- it is a PUT that tells a type of its body, or does not tell that its body is empty
abbrev pub IsManifestPut : Request → Type 0
IsManifestPut r = (r.method ≡ codes "PUT") × ((r.content_type ≢ None) ⊎ (r.length ≢ Some 0))

-- What was sent of a request, where nothing in it ends a line, has no head but its own, and behind that a front of its body.
abbrev pub OneHead : Request → Type 0
OneHead r = (body sent tail : List ℕ) (ls : List (List ℕ)) (after : List ℕ)
    → Begins r body sent tail → HasHead sent ls after → (ls ≡ lines_of r) × (after ++ tail ≡ body)

-- What was sent of such a request that is no manifest's put puts no manifest, whatever else its target holds.
abbrev pub PutsNone : Request → Type 0
PutsNone r = (body sent tail : List ℕ) (ls : List (List ℕ)) (after : List ℕ)
    → ¬ (IsManifestPut r) → Begins r body sent tail → HasHead sent ls after → puts_manifest ls ≡ false

-- What was sent of such a request that is no DELETE deletes nothing.
abbrev pub DeletesNone : Request → Type 0
DeletesNone r = (body sent tail : List ℕ) (ls : List (List ℕ)) (after : List ℕ)
    → r.method ≢ codes "DELETE" → Begins r body sent tail → HasHead sent ls after → deletes ls ≡ false

-- What was sent of a request that may be sent, with no more than the body that it counts, holds no second request.
abbrev pub HoldsOne : Request → Type 0
HoldsOne r = (size : ℕ) (body sent tail : List ℕ) → MaySend r size → length body ≤ size → sent ++ tail ≡ text_of r body → IsOneRequest sent
