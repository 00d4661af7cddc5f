-- What a wire in memory gives: what its peer answered to all that was sent on the connection, cut as asked.
use Rattle.std.specs.Prelude.{◌≡◌, ◌==◌, ◌&&◌, List, [], ◌∷◌, ℕ, Bool, Some, is_some, IfSome, IsTrue, IsFalse, length, min, take, drop}
use Rattle.std.specs.String.{string_bytes}
use Rattle.skopeo_outside.specs.declared.line.SureWire.{SureWire}
use Rattle.skopeo_outside.specs.Talks.{all_kept}
use Rattle.skopeo_outside.specs.Wire.{Conversations, Gains, GoesOn, begun, with_sent, with_received}

-- what a peer that was as the first adds to what stands in a list, asked at a host and port with what was sent
abbrev pub AnswersOf : Type 0 → Type 1
AnswersOf P = P → List ℕ → ℕ → List ℕ → List ℕ → List ℕ → P → Type 0

module _ {P : Type 0} where
  -- the conversations of a wire in memory
  abbrev pub line_told : SureWire P → Conversations
  line_told w = Some (all_kept w.past.items w.last)

  -- whether a connection is open
  abbrev pub line_open : SureWire P → Bool
  line_open w = w.connected && is_some w.last

  -- a conversation was begun
  abbrev pub Begins : List ℕ → ℕ → SureWire P → SureWire P → Type 0
  Begins host port old new = Gains (begun host port ∷ []) (line_told old) (line_told new)

  -- these bytes were sent
  abbrev pub Sends : List ℕ → SureWire P → SureWire P → Type 0
  Sends bytes old new = GoesOn (with_sent bytes) (line_told old) (line_told new)

  -- so many bytes of a buffer were received, or the end
  abbrev pub Receives : SureWire P → SureWire P → List ℕ → ℕ → Type 0
  Receives old new into count = GoesOn (with_received (take count into) (count == 0)) (line_told old) (line_told new)

  -- the other end
  abbrev pub line_peer : SureWire P → P
  line_peer w = w.peer

  -- how many bytes come at once, at most
  abbrev pub line_piece : SureWire P → ℕ
  line_piece w = w.piece

  -- whether nothing was sent since the peer was asked last
  abbrev pub is_asked : SureWire P → Bool
  is_asked w = w.asked

  -- what is left of the last answer
  abbrev pub left : SureWire P → List ℕ
  left w = drop w.given w.answer

  -- nothing was sent, and nothing is left to give
  pub record IsFresh (w : SureWire P) : Type 0 where
    pub none : left w ≡ []
    pub asked : IsTrue (is_asked w)

  -- the other end and the cut are the same
  pub record KeepsEnd (old new : SureWire P) : Type 0 where
    pub peer : line_peer new ≡ line_peer old
    pub piece : line_piece new ≡ line_piece old

  module _ (answers : AnswersOf P) where
    -- what comes next: what is left, or where something was sent since, what the peer answers now
    pub record Comes (old new : SureWire P) (whole : List ℕ) : Type 0 where
      pub again : IsTrue (is_asked old) → (whole ≡ left old) × (line_peer new ≡ line_peer old)
      pub asks : IsFalse (is_asked old)
          → IfSome old.last (λ t. answers (line_peer old) (string_bytes t.host) t.port t.sent.items [] whole (line_peer new))

    -- one call gives as much of it as there is, as fits, and as the cut allows, and the rest is left
    pub record Gives (old new : SureWire P) (room : ℕ) (into : List ℕ) (count : ℕ) : Type 0 where
      pub whole : List ℕ
      pub comes : Comes old new whole
      pub cut : count ≡ min (min (length whole) room) (line_piece old)
      pub bytes : take count into ≡ take count whole
      pub rest : left new ≡ drop count whole
      pub asked : IsTrue (is_asked new)
      pub piece : line_piece new ≡ line_piece old
