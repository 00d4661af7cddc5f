use Rattle.http_exchange.proofs.PlainLaws.{one_exchange, requests_closed}
use Rattle.http_exchange.proofs.exchanging.exchange.Goals as goal

pub returns-clause-one : goal.returns-clause-one
returns-clause-one g c = requests_closed _ _ _ c.close.ensures.nothing
    (one_exchange c.args.step c.args.request.now c.args.body.now c.args.limit _ _ _ c.requires.may c.exchange_by-result.ensures.exchanged)
