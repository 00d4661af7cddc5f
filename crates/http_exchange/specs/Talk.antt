-- One conversation that asks for what a request names, and what came.
use Rattle.std.specs.Prelude.{◌≡◌, ◌⊎◌, ℕ, Bool, false, List, [], ◌++◌, codes}
use Rattle.skopeo_outside.specs.Wire.{Conversation}
use Rattle.httparse.specs.Grammar.{ResponseHead}
use Rattle.http_message.specs.declared.request.Request.{Request}
use Rattle.http_message.specs.declared.head.Head.{Head}
use Rattle.http_message.specs.Outcome.{Outcome, unfinished}
use Rattle.http_message.specs.Heads.{HasFinalHead, most_interim, headers_of}
use Rattle.http_message.specs.Framing.{is_encoded}
use Rattle.http_message.specs.Faults.{shown}
use Rattle.http_message.specs.Requests.{text_of}
use Rattle.http_message.specs.Sent.{is_text}
use Rattle.http_message.specs.Shown.{Shows}
use Rattle.http_message.specs.Spelling.{Spells}
use Rattle.http_exchange.specs.Reader.{Reader, Streams}
use Rattle.http_exchange.specs.Opening.{body_framing}
use Rattle.http_exchange.specs.Sending.{host_name}

-- the request is a GET
abbrev pub is_get : Request → Bool
is_get r = is_text (codes "GET") r.method

-- It goes to the request's host and port, and no more than a front of the request's text was sent.
pub record Asks (r : Request) (body : List ℕ) (c : Conversation) : Type 0 where
  pub host_is : c.host ≡ host_name r.host
  pub port_is : c.port ≡ r.port
  pub rest : List ℕ
  pub front : c.sent ++ rest ≡ text_of r body

-- The request was sent whole, and all that came spells this. Or it was not, nothing came, and it is unfinished.
pub record Comes (r : Request) (body : List ℕ) (limit : ℕ) (o : Outcome) (c : Conversation) : Type 0 where
  pub asks : Asks r body c
  pub whole : (c.sent ≡ text_of r body) ⊎ ((c.received ≡ []) × (o ≡ unfinished))
  pub spells : Spells (is_get r) limit o c.received c.ended

-- The request was sent whole, and what came begins with this head, which has no content encoding, and goes on so.
pub record Opens (r : Request) (body : List ℕ) (h : ResponseHead) (rest : List ℕ) (c : Conversation) : Type 0 where
  pub asks : Asks r body c
  pub whole : c.sent ≡ text_of r body
  pub head : HasFinalHead most_interim c.received h rest
  pub plain : is_encoded (headers_of h) ≡ false

-- The same, with a reader behind the head that has given nothing, and the first bytes noted.
pub record IsOpen (r : Request) (body : List ℕ) (head : Head) (reader : Reader) (c : Conversation) : Type 0 where
  pub h : ResponseHead
  pub rest : List ℕ
  pub opens : Opens r body h rest c
  pub shows : Shows head h
  pub streams : Streams reader (body_framing (is_get r) h) [] rest false
  pub more : c.ended ≡ false
  pub noted : reader.held.first ≡ shown c.received
