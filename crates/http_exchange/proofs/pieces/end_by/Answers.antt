use Rattle.http_exchange.proofs.CallLemmas.{end_fault, end_done}
use Rattle.http_exchange.proofs.pieces.end_by.Goals as goal

pub returns-in-Err-clause-ends : goal.returns-in-Err-clause-ends
returns-in-Err-clause-ends g c =
    end_fault c.args.step c.args.limit _ _ c.args.inbox.now c.receive_opening.new.inbox _ c.in-Err.fault _ c.requires.fresh c.first.ensures c.shown_fault.ensures
    c.in-Err.ensures.received

pub returns-in-Ok-respond-clause-ends : goal.returns-in-Ok-respond-clause-ends
returns-in-Ok-respond-clause-ends g c =
    end_done c.args.step c.args.limit _ _ c.args.inbox.now c.receive_opening.new.inbox c.in-Ok.opening c.new.result c.in-Ok-respond.response c.requires.fresh c.new.ensures
    c.in-Ok-respond.ensures.answer c.in-Ok.ensures.received
