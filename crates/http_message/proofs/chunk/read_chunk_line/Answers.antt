use Rattle.std.proofs.Common.{◌≡◌, refl, ap, ◌∙◌, [], length}
use Rattle.httparse.specs.Grammar.{ChunkLine, print_chunk_line}
use Rattle.httparse.proofs.ChunkLemmas.{chunk_line_unique}
use Rattle.http_message.proofs.HeadLines.{same_length}
use Rattle.http_message.proofs.chunk.read_chunk_line.Goals as goal

pub returns-then-len-block-clause-line : goal.returns-then-len-block-clause-line
returns-then-len-block-clause-line c = (
  refl,
  λ l reads.
      let found = rw c.in-Ok-Complete.field-0-is at c.in-Ok-Complete.ensures.complete in
      let same = chunk_line_unique c.args.block.now found.0 l _ [] found.1.reads reads in
      let len : length (print_chunk_line found.0) ≡ length (print_chunk_line l) = ap (λ (k : ChunkLine). length (print_chunk_line k)) same.0 in
      c.if-len-block.true (found.1.len_is ∙ len ∙ same_length (print_chunk_line l) c.args.block.now reads.1),
)
