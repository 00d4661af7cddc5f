-- What was said to a registry that a manifest was deleted at, by the conversations alone.
use Rattle.std.specs.Prelude.{◌≡◌, ◌≤◌, ◌++◌, ◌∷◌, [], ℕ, true, false, List, Option, Some, None}
use Rattle.skopeo_outside.specs.Wire.{Conversation, Conversations, Gains}
use Rattle.image_ref.specs.Digest.{digest_text}
use Rattle.image_ref.specs.Reference.{Reference}
use Rattle.digest_reader.specs.Digests.{digest}
use Rattle.http_message.specs.declared.request.Request.{Request}
use Rattle.http_message.specs.Outcome.{Answer, answer}
use Rattle.http_message.specs.Writes.{Write, Writes}
use Rattle.http_exchange.specs.Talk.{Comes}
use Rattle.http_exchange.specs.Chain.{Follows, redirects, most_redirects}
use Rattle.registry_http.specs.declared.registry.Registry.{Registry}
use Rattle.registry_http.specs.Requests.{manifest_request, delete_request}
use Rattle.registry_http.specs.Rows.{is_success}
use Rattle.registry_http.specs.Steps.{most_manifest_bytes}
use Rattle.transports.specs.Registries.{registry_of, name_in}

-- no manifest was put in what was gained
pub record PutsNone (old new : Conversations) : Type 0 where
  pub gained : List Conversation
  pub told : Gains gained old new
  pub none : (w : Write) → Writes gained w → ⊥

-- bytes have the digest that is named, where one is
abbrev pub IsNamed : Option (List ℕ) → List ℕ → Type 0
IsNamed None bytes = Unit {0}
IsNamed (Some named) bytes = digest bytes ≡ named

-- a GET, and the redirects from it, were answered 200 at their end, with these bytes
pub record IsGot (r : Request) (bytes : List ℕ) (cs : List Conversation) : Type 0 where
  pub count : ℕ
  pub few : count ≤ most_redirects
  pub hops : List Conversation
  pub last : Request
  pub follows : Follows count r [] hops last
  pub c : Conversation
  pub all : cs ≡ hops ++ c ∷ []
  pub a : Answer
  pub comes : Comes last [] most_manifest_bytes (answer a) c
  pub stays : redirects last a.status ≡ false
  pub status : a.status ≡ 200
  pub body : a.body ≡ bytes

-- a DELETE of the manifest of this digest was answered 2xx
pub record IsDeletedBy (r : Registry) (hash : List ℕ) (c : Conversation) : Type 0 where
  pub a : Answer
  pub comes : Comes (delete_request r (digest_text hash)) [] 0 (answer a) c
  pub status : is_success a.status ≡ true

-- the manifest of a reference was got from the host that it names, with the digest that it names; then that of the digest of
-- its bytes was deleted there; and nothing else was said
pub record IsDeleted (r : Reference) (old new : Conversations) : Type 0 where
  pub bytes : List ℕ
  pub before : List Conversation
  pub last : Conversation
  pub told : Gains (before ++ last ∷ []) old new
  pub got : IsGot (manifest_request (registry_of r) (name_in r)) bytes before
  pub named : IsNamed r.digest bytes
  pub deleted : IsDeletedBy (registry_of r) (digest bytes) last
