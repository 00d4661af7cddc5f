use Rattle.std.proofs.Common.{arith, sym, ◌∙◌}
use Rattle.std.proofs.lemmas.Result.{err_from_is_err_and}
use Rattle.http_message.specs.declared.fault.AnswerFault.TheVariants.{BadAnswer}
use Rattle.http_exchange.proofs.Rounds.{stops_so, stops_found}
use Rattle.http_exchange.proofs.Interim.{no_head, final_head, head_then, one_too_many}
use Rattle.http_exchange.proofs.head.+receive_final_head.Goals as goal

pub returns-in_err-head-clause-received : goal.returns-in_err-head-clause-received
returns-in_err-head-clause-received g t c =
    let p = err_from_is_err_and c.from_residual.result c.from_residual.ensures.1 in
    rw (p.1, p.2) (stops_so _ _ _ _ _ c.in_err-head.ensures.received (no_head c.args.skips))

pub returns-then-not-is_interim-clause-received : goal.returns-then-not-is_interim-clause-received
returns-then-not-is_interim-clause-received g t c =
    let last = sym c.is_interim.ensures ∙ c.if-not-is_interim.true in
    let p = c.in_ok-head.ensures.received in
    record {
      added = p.added;
      ended = p.ended;
      told = p.told;
      noted = p.noted;
      gives = final_head c.args.skips _ c.in_ok-head.head _ p.ended last p.gives;
    }

pub returns-then-skips-eq0-clause-received : goal.returns-then-skips-eq0-clause-received
returns-then-skips-eq0-clause-received g t c =
    let interim = sym c.is_interim.ensures ∙ c.if-not-is_interim.false in
    stops_found _ _ _ _ c.in_ok-head.head BadAnswer c.in_ok-head.ensures.received
    (λ all ended. one_too_many c.args.skips _ c.in_ok-head.head all ended c.if-skips-eq0.true interim)

pub returns-clause-received : goal.returns-clause-received
returns-clause-received g t c =
    let interim = sym c.is_interim.ensures ∙ c.if-not-is_interim.false in
    head_then _ c.args.skips c.in_ok-head.head _ (omega arith) interim c.in_ok-head.ensures.received c.receive_final_head.ensures.received
