-- What a wire tells: its conversations, in the order in which they were begun, with all bytes that passed.
use Rattle.std.specs.Prelude.{◌≡◌, ℕ, ◌⊎◌, Bool, false, ◌||◌, List, [], ◌∷◌, ◌++◌, Option}
use Rattle.std.specs.Option.{option_map}

-- one connection: where it goes, the bytes sent and received, and whether the other side has ended it
pub record Conversation : Type 0 where
  pub host : List ℕ
  pub port : ℕ
  pub sent : List ℕ
  pub received : List ℕ
  pub ended : Bool

-- what a wire tells, if it tells
abbrev pub Conversations : Type 0
Conversations = Option (List Conversation)

-- a connection on which nothing has passed
abbrev pub begun : List ℕ → ℕ → Conversation
begun host port = record { host = host; port = port; sent = []; received = []; ended = false }

-- the conversation after these bytes were sent too
abbrev pub with_sent : List ℕ → Conversation → Conversation
with_sent bytes c = record c { sent = c.sent ++ bytes }

-- the conversation after these bytes were received too, and perhaps the end
abbrev pub with_received : List ℕ → Bool → Conversation → Conversation
with_received bytes ended c = record c { received = c.received ++ bytes; ended = ended || c.ended }

-- the same list, its last conversation changed
abbrev pub on_last : (Conversation → Conversation) → List Conversation → List Conversation
on_last f [] = []
on_last f (c ∷ []) = f c ∷ []
on_last f (c ∷ d ∷ cs) = c ∷ on_last f (d ∷ cs)

-- the wire goes on with its last conversation
abbrev pub GoesOn : (Conversation → Conversation) → Conversations → Conversations → Type 0
GoesOn step old new = new ≡ option_map (on_last step) old

-- the wire has gained these conversations
abbrev pub Gains : List Conversation → Conversations → Conversations → Type 0
Gains gained old new = new ≡ option_map (λ cs. cs ++ gained) old

-- the wire has gained these conversations, or none
abbrev pub GainsOrNot : List Conversation → Conversations → Conversations → Type 0
GainsOrNot gained old new = Gains gained old new ⊎ (new ≡ old)

-- a front of the bytes was sent
pub record SendsPart (bytes : List ℕ) (old new : Conversations) : Type 0 where
  pub sent : List ℕ
  pub rest : List ℕ
  pub front : sent ++ rest ≡ bytes
  pub goes_on : GoesOn (with_sent sent) old new
