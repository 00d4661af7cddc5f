-- What was sent on a connection holds one request and no second, however leniently it is read: a line may end with a
-- line feed alone (RFC 9112, section 2.2), and names of header lines count in capital letters and in small ones.
use Rattle.std.specs.Prelude.{◌≡◌, ℕ, ◌≤◌, ◌==◌, Bool, true, false, cond, not, ◌&&◌, ◌||◌, List, [], ◌∷◌, ◌++◌, length, map, Contains}
use Rattle.std.specs.List.{list_all}
use Rattle.skopeo_outside.specs.Wire.{Conversation, Conversations, Gains}
use Rattle.http_message.specs.declared.framing.Framing.{Framing}
use Rattle.http_message.specs.declared.framing.Framing.TheVariants.{Wrong, Sized, Chunked, ToEnd}
use Rattle.http_message.specs.Outcome.{Header}
use Rattle.http_message.specs.Framing.{framing_of}

-- a line of a head, and whether a carriage return stands before its line feed
pub record LaxLine : Type 0 where
  pub bytes : List ℕ
  pub returned : Bool

-- neither a line feed nor a carriage return stands in the bytes
abbrev pub is_bare : List ℕ → Bool
is_bare bytes = list_all (λ b. not (b == 10) && not (b == 13)) bytes

-- they are not empty, and no line ends in them
abbrev pub is_bare_line : List ℕ → Bool
is_bare_line [] = false
is_bare_line (b ∷ bs) = is_bare (b ∷ bs)

-- each line is such a line
abbrev pub are_lax : List LaxLine → Bool
are_lax lines = list_all (λ l. is_bare_line l.bytes) lines

-- the end of a line, and then the bytes after it
abbrev pub end_line : Bool → List ℕ → List ℕ
end_line true after = 13 ∷ 10 ∷ after
end_line false after = 10 ∷ after

-- a head of these lines with its empty line, and then the bytes after it
abbrev pub lax_head : List LaxLine → Bool → List ℕ → List ℕ
lax_head [] last after = end_line last after
lax_head (l ∷ ls) last after = l.bytes ++ end_line l.returned (lax_head ls last after)

-- the bytes without the blanks at their front
abbrev pub behind_blanks : List ℕ → List ℕ
behind_blanks [] = []
behind_blanks (b ∷ bs) = cond (b == 32 || b == 9) (behind_blanks bs) (b ∷ bs)

-- the bytes up to the first colon, and behind it
abbrev pub cut_colon : List ℕ → List ℕ × List ℕ
cut_colon [] = ([], [])
cut_colon (b ∷ bs) = cond (b == 58) ([], bs) (b ∷ (cut_colon bs).0, (cut_colon bs).1)

-- the name and the value of a header line
abbrev pub header_of : List ℕ → Header
header_of line = ((cut_colon line).0, behind_blanks (cut_colon line).1)

-- how a request ends by the header lines behind its first line: after its one length, or with its head where none is told
abbrev pub framing_in : List (List ℕ) → Framing
framing_in [] = Wrong
framing_in (first ∷ lines) = framing_of (map header_of lines)

-- no more than the body stands behind the head
abbrev pub Covers : Framing → List ℕ → Type 0
Covers (Sized size) after = length after ≤ size
Covers ToEnd after = after ≡ []
Covers Chunked after = ⊥
Covers Wrong after = ⊥

-- However a head is read at the start of what was sent, what stands behind it is within the body of that request.
pub record IsOneRequest (sent : List ℕ) : Type 0 where
  pub one : (lines : List LaxLine) (last : Bool) (after : List ℕ) → are_lax lines ≡ true → sent ≡ lax_head lines last after
      → Covers (framing_in (map (λ l. l.bytes) lines)) after

-- each conversation that was gained holds one request, or a front of one
pub record GainsRequests (old new : Conversations) : Type 0 where
  pub gained : List Conversation
  pub told : Gains gained old new
  pub each : (c : Conversation) → Contains gained c → IsOneRequest c.sent
