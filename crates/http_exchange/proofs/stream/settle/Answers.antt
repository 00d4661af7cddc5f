use Rattle.std.proofs.Common.{◌∙◌, ap, sym}
use Rattle.http_exchange.specs.declared.state.State.TheVariants.{Left, Chunk}
use Rattle.http_exchange.specs.Reader.{is_settled}
use Rattle.http_exchange.proofs.Rounds.{no_count}
use Rattle.http_exchange.proofs.Settling.{settled_already, line_settled, sized_over}
use Rattle.http_exchange.proofs.stream.settle.Goals as goal

pub returns-then-is_settled-clause-settled : goal.returns-then-is_settled-clause-settled
returns-then-is_settled-clause-settled g c =
    settled_already _ c.args.inbox.now c.args.state (sym c.is_settled.ensures ∙ c.if-is_settled.true)

pub returns-in-Line-clause-settled : goal.returns-in-Line-clause-settled
returns-in-Line-clause-settled g c = rw c.in-Line.is (line_settled c.next_chunk.result c.next_chunk.ensures.received)

pub returns-in-Left-clause-settled : goal.returns-in-Left-clause-settled
returns-in-Left-clause-settled g c =
    let none = no_count c.in-Left.field-0 (ap is_settled (sym c.in-Left.is) ∙ sym c.is_settled.ensures ∙ c.if-is_settled.false) in
    rw (c.in-Left.is ∙ ap Left none) (sized_over _ c.args.inbox.now)

pub returns-in-Chunk-clause-settled : goal.returns-in-Chunk-clause-settled
returns-in-Chunk-clause-settled g c =
    let none = no_count c.in-Chunk.field-0 (ap is_settled (sym c.in-Chunk.is) ∙ sym c.is_settled.ensures ∙ c.if-is_settled.false) in
    rw (c.in-Chunk.is ∙ ap Chunk none) c.end_chunk.ensures.settled
