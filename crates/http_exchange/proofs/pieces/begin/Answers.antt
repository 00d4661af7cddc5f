use Rattle.http_exchange.proofs.CallLemmas.{begin_fails}
use Rattle.http_exchange.proofs.PlainLaws.{one_stopped, requests_closed}
use Rattle.http_exchange.proofs.pieces.begin.Goals as goal

pub returns-in-Err-clause-failed : goal.returns-in-Err-clause-failed
returns-in-Err-clause-failed g c =
    begin_fails c.in-Err.stop _ _ _ _ _ _ _ c.stopped.ensures c.close.ensures.nothing c.in-Err.ensures.failed

pub returns-in-Err-clause-one : goal.returns-in-Err-clause-one
returns-in-Err-clause-one g c = requests_closed _ _ _ c.close.ensures.nothing
    (one_stopped c.args.request.now _ c.in-Err.stop _ _ c.requires.may c.in-Err.ensures.failed)
