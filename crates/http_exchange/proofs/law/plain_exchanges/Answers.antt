use Rattle.http_exchange.proofs.PlainLaws.{plain_exchange, plain_opening}
use Rattle.http_exchange.proofs.law.plain_exchanges.Goals as goal

pub returns : goal.returns
returns c = record { exchange = plain_exchange; «open» = plain_opening }
