use Rattle.http_exchange.proofs.LagLaws.{waiting_lags, call_keeps}
use Rattle.http_exchange.proofs.law.given_lags.Goals as goal

pub returns : goal.returns
returns c = record { waiting = waiting_lags; call = call_keeps }
