use Rattle.std.proofs.Common.{◌<◌, ◌∙◌, ap, sym}
use Rattle.std.proofs.lemmas.Result.{err_from_is_err_and}
use Rattle.http_exchange.specs.Reader.{is_settled}
use Rattle.http_exchange.proofs.Rounds.{some_count}
use Rattle.http_exchange.proofs.Giving.{sized_gave, chunk_gave, chunk_stops, over_gave}
use Rattle.http_exchange.proofs.stream.take_piece.Goals as goal

pub returns-in_err-count-in-Chunk-clause-gives : goal.returns-in_err-count-in-Chunk-clause-gives
returns-in_err-count-in-Chunk-clause-gives g c =
    let some : 0 < c.in-Chunk.left = some_count c.in-Chunk.left (ap is_settled (sym c.in-Chunk.is) ∙ c.requires.settled) in
    let p = err_from_is_err_and c.from_residual-in_err-count-in-Chunk.result c.from_residual-in_err-count-in-Chunk.ensures.1 in
    rw (p.1, p.2, c.in-Chunk.is) (chunk_stops c.in-Chunk.left c.give_some-in-Chunk.new.into _ some c.in_err-count-in-Chunk.ensures.received)

pub returns-in_ok-count-in-Left-clause-gives : goal.returns-in_ok-count-in-Left-clause-gives
returns-in_ok-count-in-Left-clause-gives g c =
    rw c.in-Left.is (sized_gave c.in-Left.left c.in_ok-count-in-Left.count c.give_some.new.into c.in_ok-count-in-Left.ensures.received)

pub returns-in_ok-count-in-Chunk-clause-gives : goal.returns-in_ok-count-in-Chunk-clause-gives
returns-in_ok-count-in-Chunk-clause-gives g c =
    rw c.in-Chunk.is (chunk_gave c.in-Chunk.left c.in_ok-count-in-Chunk.count c.give_some-in-Chunk.new.into c.in_ok-count-in-Chunk.ensures.received)

pub returns-in-Over-clause-gives : goal.returns-in-Over-clause-gives
returns-in-Over-clause-gives g c = rw c.in-Over.is (over_gave _ c.args.inbox.now c.args.into.now)
