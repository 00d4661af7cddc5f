use Rattle.std.proofs.Common.{arith, []}
use Rattle.httparse.specs.Grammar.{print_section}
use Rattle.http_message.proofs.HeadLines.{section_fits}
use Rattle.http_message.proofs.HeadLines.{same_length}
use Rattle.http_message.proofs.chunk.read_trailer.Goals as goal

pub returns-then-len-block-clause-trailer : goal.returns-then-len-block-clause-trailer
returns-then-len-block-clause-trailer c = (
  omega arith,
  λ is.
      let fits = section_fits c.args.block.now is.0 is.1 is.2 in
      let found = (rw c.in-Ok-Complete.field-0-is at c.in-Ok-Complete.ensures.found) is.0 is.1 [] is.2 (omega (arith, fits)) in
      c.if-len-block.true (omega (arith, found.len_is, same_length (print_section is.0 is.1) c.args.block.now is.2.1)),
)

pub returns-in-Err-clause-trailer : goal.returns-in-Err-clause-trailer
returns-in-Err-clause-trailer c = (
  omega arith,
  λ is.
      let fits = section_fits c.args.block.now is.0 is.1 is.2 in
      c.in-Err.ensures.found is.0 is.1 [] is.2 (omega (arith, fits)),
)
