use Rattle.std.proofs.Common.{arith, [], ◌∙◌}
use Rattle.httparse.specs.Grammar.{print_response}
use Rattle.http_message.proofs.HeadLines.{fields_fit}
use Rattle.http_message.proofs.HeadLines.{same_length}
use Rattle.http_message.proofs.head.read_head.Goals as goal

pub returns-then-found-block : goal.returns-then-found-block
returns-then-found-block c = (
  omega arith,
  λ h reads.
      let fits = fields_fit c.args.block.now h reads in
      let found = (rw c.in-Ok-Complete.field-0-is at c.in-Ok-Complete.ensures.found) h [] reads (omega (arith, fits)) in
      c.if-found-block.true (found.len ∙ same_length (print_response h) c.args.block.now reads.1),
)

pub returns-in-Ok-Partial : goal.returns-in-Ok-Partial
returns-in-Ok-Partial c = (
  omega arith,
  λ h reads.
      let fits = fields_fit c.args.block.now h reads in
      (rw c.in-Ok-Partial.field-0-is at c.in-Ok-Partial.ensures.found) h [] reads (omega (arith, fits)),
)

pub returns-in-Err : goal.returns-in-Err
returns-in-Err c = (
  omega arith,
  λ h reads.
      let fits = fields_fit c.args.block.now h reads in
      c.in-Err.ensures.found h [] reads (omega (arith, fits)),
)
