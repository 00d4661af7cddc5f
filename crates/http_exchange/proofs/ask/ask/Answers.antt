use Rattle.std.proofs.Common.{◌∙◌, ap, refl}
use Rattle.std.proofs.lemmas.Result.{err_from_is_err_and}
use Rattle.http_exchange.specs.Reader.{Reader}
use Rattle.http_exchange.proofs.Asking.{head_failed, body_failed, not_opened, opened}
use Rattle.http_exchange.proofs.ask.ask.Goals as goal

pub returns-in-Err-clause-asked : goal.returns-in-Err-clause-asked
returns-in-Err-clause-asked g c =
    rw c.fault_of_stop.ensures (head_failed c.in-Err.stop c.args.request.now c.args.body.now _ _ c.args.reader.now c.requires.fresh c.in-Err.ensures.failed)

pub returns-in-Err-send-clause-asked : goal.returns-in-Err-send-clause-asked
returns-in-Err-send-clause-asked g c =
    rw c.fault_of_stop-in-Err-send.ensures (body_failed c.in-Err-send.stop c.args.request.now c.args.body.now _ _ _ c.args.reader.now c.requires.fresh
    c.in_default.ensures.begun c.in-Err-send.ensures.part)

pub returns-in_err-opening-clause-asked : goal.returns-in_err-opening-clause-asked
returns-in_err-opening-clause-asked g c =
    let was = ap (λ (r : Reader). r.held) (c.reader.view_is ∙ c.requires.fresh) in
    let p = err_from_is_err_and c.from_residual.result c.from_residual.ensures.1 in
    rw (p.1, p.2) (not_opened c.args.request.now c.args.body.now c.is_get.result _ _ _ _ _ c.reader.inside.inbox c.receive_opening.new.inbox c.in_err-opening.field-0.0
    c.is_get.ensures was refl c.in_default.ensures.begun c.in_default-send.ensures.sent c.in_err-opening.ensures.received)

pub returns-clause-asked : goal.returns-clause-asked
returns-clause-asked g c =
    let was = c.reader.view_is ∙ c.requires.fresh in
    opened c.args.request.now c.args.body.now c.is_get.result _ _ _ _ _ c.reader.inside.inbox c.in_ok-opening.opening
    c.is_get.ensures (ap (λ (r : Reader). r.held) was) refl (ap (λ (r : Reader). r.failed) was) c.in_default.ensures.begun c.in_default-send.ensures.sent
    c.in_ok-opening.ensures.received
