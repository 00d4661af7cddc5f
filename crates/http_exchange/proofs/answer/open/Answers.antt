use Rattle.http_exchange.proofs.CallLemmas.{open_fault}
use Rattle.http_exchange.proofs.answer.open.Goals as goal

pub returns-in-Err-clause-opened : goal.returns-in-Err-clause-opened
returns-in-Err-clause-opened g c =
    open_fault c.args.step c.args.request.now _ _ _ c.follow.new.reader c.in-Err.fault c.close.ensures.nothing c.in-Err.ensures.chained
