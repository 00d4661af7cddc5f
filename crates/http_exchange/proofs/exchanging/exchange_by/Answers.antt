use Rattle.std.proofs.Common.{◌∙◌, ap}
use Rattle.http_exchange.specs.Reader.{Reader}
use Rattle.http_exchange.proofs.WholeExchanges.{exchange_fault, collect_fault, collect_lost, exchanged}
use Rattle.http_exchange.proofs.exchanging.exchange_by.Goals as goal

pub returns-in-Err-clause-exchanged : goal.returns-in-Err-clause-exchanged
returns-in-Err-clause-exchanged g c =
    exchange_fault c.args.step c.args.request.now c.args.body.now c.args.limit _ _ c.follow.new.reader c.in-Err.fault c.in-Err.ensures.chained

pub returns-in-Err-collect-clause-exchanged : goal.returns-in-Err-collect-clause-exchanged
returns-in-Err-collect-clause-exchanged g c =
    let first = c.first.ensures ∙ ap (λ (r : Reader). r.held.first) c.reader.view_is in
    collect_fault c.args.step c.args.request.now c.args.body.now c.args.limit _ _ _ c.follow.new.reader c.collect.new.body c.in-Ok.head _ c.in-Err-collect.fault _
    first c.shown_fault.ensures c.in-Ok.ensures.chained c.in-Err-collect.ensures.collected

pub returns-in-Ok-respond-clause-exchanged : goal.returns-in-Ok-respond-clause-exchanged
returns-in-Ok-respond-clause-exchanged g c =
    exchanged c.args.step c.args.request.now c.args.body.now c.args.limit _ _ _ c.follow.new.reader c.collect.new.body c.in-Ok.head c.in-Ok-collect.bytes c.in-Ok-respond.response
    c.in-Ok-respond.ensures.answer c.in-Ok.ensures.chained c.in-Ok-collect.ensures.collected

pub returns-clause-exchanged : goal.returns-clause-exchanged
returns-clause-exchanged g c =
    collect_lost c.args.step c.args.request.now c.args.body.now c.args.limit _ _ _ c.follow.new.reader c.collect.new.body c.in-Ok.head c.in-Ok-collect.bytes
    c.in-Ok.ensures.chained c.in-Ok-collect.ensures.collected
