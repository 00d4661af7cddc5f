-- The requests that stand in what was sent on a connection (RFC 9112, sections 3 and 6).
use Rattle.std.specs.Prelude.{◌≡◌, ℕ, ◌==◌, Bool, true, false, cond, not, ◌&&◌, ◌||◌, List, [], ◌∷◌, ◌++◌, length, codes, Option, Some, None, MatchOption, All}
use Rattle.std.specs.List.{list_all, list_any}
use Rattle.std.specs.Fmt.{decimal}
use Rattle.http_message.specs.Blocks.{line_feed}

-- the text begins with these bytes
abbrev pub begins : List ℕ → List ℕ → Bool
begins [] text = true
begins (c ∷ cs) [] = false
begins (c ∷ cs) (b ∷ bs) = (c == b) && begins cs bs

-- the text is these bytes
abbrev pub is_text : List ℕ → List ℕ → Bool
is_text [] [] = true
is_text [] (b ∷ bs) = false
is_text (c ∷ cs) [] = false
is_text (c ∷ cs) (b ∷ bs) = (c == b) && is_text cs bs

-- no line feed stands in the bytes
abbrev pub is_one_line : List ℕ → Bool
is_one_line bytes = list_all (λ b. not (b == line_feed)) bytes

-- a line of a head: it is not empty, and one line
abbrev pub is_line : List ℕ → Bool
is_line [] = false
is_line (b ∷ bs) = is_one_line (b ∷ bs)

-- lines of a head
abbrev pub are_lines : List (List ℕ) → Bool
are_lines lines = list_all is_line lines

-- a head of these lines with its empty line, and then the bytes after it
abbrev pub with_head : List (List ℕ) → List ℕ → List ℕ
with_head [] after = 13 ∷ 10 ∷ after
with_head (l ∷ ls) after = l ++ (13 ∷ 10 ∷ with_head ls after)

-- a whole request: the lines of its head, and its body
pub record Whole : Type 0 where
  pub lines : List (List ℕ)
  pub body : List ℕ

-- the first line that tells the body's length
abbrev pub length_line : List (List ℕ) → Option (List ℕ)
length_line [] = None
length_line (l ∷ ls) = cond (begins (codes "Content-Length: ") l) (Some l) (length_line ls)

-- the head counts so many bytes for the body, and none where it has no such line
abbrev pub Counts : List (List ℕ) → ℕ → Type 0
Counts lines n = MatchOption (length_line lines) (n ≡ 0) (λ line. line ≡ codes "Content-Length: " ++ decimal n)

-- a request is whole: its body has as many bytes as its head counts
pub record IsWhole (r : Whole) : Type 0 where
  pub head : are_lines r.lines ≡ true
  pub body : Counts r.lines (length r.body)

-- these requests, one behind the other, and then the bytes after them
abbrev pub behind : List Whole → List ℕ → List ℕ
behind [] after = after
behind (r ∷ rs) after = with_head r.lines (r.body ++ behind rs after)

-- What was sent has this head, at its start or right after whole requests that fill it from its start, and
-- these bytes behind the head. So bytes inside a body are no head.
pub record HasHead (sent : List ℕ) (lines : List (List ℕ)) (after : List ℕ) : Type 0 where
  pub before : List Whole
  pub whole : All IsWhole before
  pub head : are_lines lines ≡ true
  pub sent_is : sent ≡ behind before (with_head lines after)

-- a head with this method
abbrev pub has_method : List ℕ → List (List ℕ) → Bool
has_method method [] = false
has_method method (l ∷ ls) = begins (method ++ codes " ") l

-- A head puts a manifest where it is a PUT that tells a type of its body, or does not tell that its body is empty.
abbrev pub puts_manifest : List (List ℕ) → Bool
puts_manifest lines = has_method (codes "PUT") lines
    && (list_any (begins (codes "Content-Type:")) lines || not (list_any (is_text (codes "Content-Length: 0")) lines))

-- the head of a DELETE
abbrev pub deletes : List (List ℕ) → Bool
deletes lines = has_method (codes "DELETE") lines
