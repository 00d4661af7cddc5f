use Rattle.std.proofs.Common.{ap, Err, ◌∙◌, ◌∷◌, []}
use Rattle.skopeo_outside.specs.Wire.{Gains, SendsPart, begun}
use Rattle.skopeo_outside.specs.declared.stop.Stop.{Stop}
use Rattle.http_exchange.proofs.SendingLemmas.{connect_fails, send_fails, sent_whole}
use Rattle.http_exchange.proofs.sending.connect_and_send.Goals as goal

pub returns-in-Err-clause-failed : goal.returns-in-Err-clause-failed
returns-in-Err-clause-failed g c =
    connect_fails c.in-Err.stop c.args.host.now c.args.port c.args.bytes.now _ _
    (λ e. c.connect.ensures.failed (c.in-Err.is ∙ ap (λ (s : Stop). Err s) e))
    (λ e. c.connect.ensures.wanted (c.in-Err.is ∙ ap (λ (s : Stop). Err s) e))

pub returns-in-Err-send-clause-failed : goal.returns-in-Err-send-clause-failed
returns-in-Err-send-clause-failed g c =
    let s : SendsPart c.args.bytes.now (g.W.Wire.conversations c.connect.new.self) (g.W.Wire.conversations c.send.new.self)
    = rw c.in-Err-send.is at c.send.ensures.part in
    let b : Gains (begun c.args.host.now c.args.port ∷ []) (g.W.Wire.conversations c.args.wire.now) (g.W.Wire.conversations c.connect.new.self)
    = c.in_default.ensures.gained in
    send_fails c.in-Err-send.stop c.args.host.now c.args.port c.args.bytes.now _ _ _ b s

pub returns-clause-begun : goal.returns-clause-begun
returns-clause-begun g c =
    sent_whole c.args.host.now c.args.port c.args.bytes.now _ _ _ c.in_default.ensures.gained c.in_default-send.ensures.sent
