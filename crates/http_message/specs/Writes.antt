-- The manifests that were put on a wire, by what was sent in its conversations.
use Rattle.std.specs.Prelude.{◌≡◌, ◌≢◌, ℕ, true, false, List, ◌++◌, codes, Contains, None}
use Rattle.skopeo_outside.specs.Wire.{Conversation}
use Rattle.http_message.specs.declared.request.Request.{Request}
use Rattle.http_message.specs.Sent.{HasHead, puts_manifest, deletes}
use Rattle.http_message.specs.Requests.{IsClean, IsManifestPut, Begins, lines_of, text_of}

-- a manifest's PUT: where it went, the lines of its head, and what was sent of its body, whatever was answered
pub record Write : Type 0 where
  pub host : List ℕ
  pub port : ℕ
  pub lines : List (List ℕ)
  pub body : List ℕ

-- it stands in what was sent in the conversation
pub record IsPutOn (c : Conversation) (w : Write) : Type 0 where
  pub host_is : w.host ≡ c.host
  pub port_is : w.port ≡ c.port
  pub head : HasHead c.sent w.lines w.body
  pub puts : puts_manifest w.lines ≡ true

-- it was put in one of these conversations
abbrev pub Writes : List Conversation → Write → Type 0
Writes gained w = (c : Conversation) × Contains gained c × IsPutOn c w

-- no manifest was put in these conversations, and nothing was deleted
pub record IsPlain (gained : List Conversation) : Type 0 where
  pub no_put : (w : Write) → Writes gained w → ⊥
  pub no_delete : (c : Conversation) (lines : List (List ℕ)) (after : List ℕ)
      → Contains gained c → HasHead c.sent lines after → deletes lines ≡ false

-- what was sent in the conversation begins this request with this body
pub record IsBegun (r : Request) (body : List ℕ) (c : Conversation) : Type 0 where
  pub tail : List ℕ
  pub begins : Begins r body c.sent tail

-- the put of this request's manifest, perhaps cut short: its own head, and a front of its body
pub record IsPutOf (r : Request) (body : List ℕ) (w : Write) : Type 0 where
  pub lines_are : w.lines ≡ lines_of r
  pub rest : List ℕ
  pub body_is : w.body ++ rest ≡ body

-- A request, or a front of it, writes no manifest but its own.
abbrev pub OwnWrites : Request → Type 0
OwnWrites r = (body : List ℕ) (c : Conversation) (w : Write) → IsBegun r body c → IsPutOn c w → IsPutOf r body w

-- A put that tells its body's type, sent whole, writes its manifest.
abbrev pub PutWrites : Request → Type 0
PutWrites r = (body : List ℕ) (c : Conversation) → IsClean r → r.method ≡ codes "PUT" → r.content_type ≢ None
    → c.sent ≡ text_of r body → IsPutOn c (record { host = c.host; port = c.port; lines = lines_of r; body = body })

-- the conversation begins some request that is neither a manifest's put nor a DELETE
pub record BeginsPlain (c : Conversation) : Type 0 where
  pub request : Request
  pub body : List ℕ
  pub begun : IsBegun request body c
  pub no_put : ¬ (IsManifestPut request)
  pub no_delete : request.method ≢ codes "DELETE"

-- Conversations that begin such requests put no manifest and delete nothing, whatever their targets hold.
abbrev pub PlainRequests : List Conversation → Type 0
PlainRequests gained = ((c : Conversation) → Contains gained c → BeginsPlain c) → IsPlain gained
