-- What the code keeps of a head, against the head of the grammar.
use Rattle.std.specs.Prelude.{◌≡◌, ℕ, ◌≤◌, List, map}
use Rattle.httparse.specs.Grammar.{ResponseHead, status_code}
use Rattle.http_message.specs.declared.head.Field.{Field}
use Rattle.http_message.specs.declared.head.Head.{Head}
use Rattle.http_message.specs.declared.answer.Response.{Response}
use Rattle.skopeo_outside.specs.declared.pair.Pair.{Pair}
use Rattle.http_message.specs.Blocks.{most_lines}
use Rattle.http_message.specs.Outcome.{Header, Answer}
use Rattle.http_message.specs.Heads.{IsHead, header_lines, headers_of}
use Rattle.http_message.specs.Spelling.{told_headers}

-- the name and the value of a header line that is kept
abbrev pub field_bytes : Field → Header
field_bytes f = (f.name.items, f.value.items)

-- the name and the value of a pair
abbrev pub pair_bytes : Pair → Header
pair_bytes p = (p.name, p.value)

-- what is kept is that head: its status and its header lines
pub record Shows (head : Head) (h : ResponseHead) : Type 0 where
  pub status : head.status ≡ status_code h
  pub fields : map field_bytes head.fields.items ≡ headers_of h

-- the block is a head, and this is kept of it
abbrev pub IsHeadOf : List ℕ → Head → Type 0
IsHeadOf block head = (h : ResponseHead) × (header_lines block ≤ most_lines) × IsHead block h × Shows head h

-- the answer with what is kept of a head, and this body
abbrev pub answer_kept : Head → List ℕ → Answer
answer_kept head body = record { status = head.status; headers = told_headers (map field_bytes head.fields.items); body = body }

-- the answer that a response stands for
abbrev pub answer_of : Response → Answer
answer_of r = record { status = r.status; headers = map pair_bytes r.headers; body = r.body }
