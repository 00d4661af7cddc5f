-- A request that is being sent.
use Rattle.std.specs.Prelude.{◌≡◌, ◌≢◌, ℕ, false, List, [], ◌∷◌, ◌++◌}
use Rattle.skopeo_outside.specs.declared.stop.Stop.{Stop}
use Rattle.skopeo_outside.specs.declared.stop.Stop.TheVariants.{Fault}
use Rattle.skopeo_outside.specs.Wire.{Conversation, Conversations, Gains}
use Rattle.image_ref.specs.Characters.{colon}
use Rattle.image_ref.specs.Cuts.{cut_at}
use Rattle.http_message.specs.declared.request.Request.{Request}

-- what stands before the colon of a host with its port
abbrev pub host_name : List ℕ → List ℕ
host_name host = (cut_at colon host).0

-- a connection on which these bytes were sent, and nothing came
abbrev pub sending : List ℕ → ℕ → List ℕ → Conversation
sending host port bytes = record { host = host; port = port; sent = bytes; received = []; ended = false }

-- the same to the host and port of a request
abbrev pub sending_to : Request → List ℕ → Conversation
sending_to r bytes = sending (host_name r.host) r.port bytes

-- No more than a front of the text was sent, on one connection to this host and port, or nothing to any.
pub data SendsFront (host : List ℕ) (port : ℕ) (text : List ℕ) (gained : List Conversation) : Type 0 where
  nothing : gained ≡ [] → SendsFront host port text gained
  front : (sent rest : List ℕ) → sent ++ rest ≡ text → gained ≡ sending host port sent ∷ [] → SendsFront host port text gained

-- The text was not sent whole. A wire at fault has its conversation.
pub record FailsSending (host : List ℕ) (port : ℕ) (text : List ℕ) (stop : Stop) (old new : Conversations) : Type 0 where
  pub gained : List Conversation
  pub told : Gains gained old new
  pub sends : SendsFront host port text gained
  pub some : stop ≡ Fault → gained ≢ []
