use Rattle.std.proofs.Common.{ℕ, List, take, ◌+◌, ◌-◌, ◌∙◌, ap, sym, refl, arith}
use Rattle.skopeo_outside.specs.declared.stop.Stop.TheVariants.{Memory}
use Rattle.http_exchange.specs.Received.{Held}
use Rattle.http_exchange.proofs.Rounds.{stopped_fill}
use Rattle.http_exchange.proofs.RoomLemmas.{piece_behind, received_behind}
use Rattle.http_exchange.proofs.inbox.Inbox.fill.Goals as goal

pub returns-in-Err-clause-received : goal.returns-in-Err-clause-received
returns-in-Err-clause-received g c =
    stopped_fill Memory c.args.self.now _ _ (ap (λ (h : Held). h.first) c.self.view_is) refl

pub returns-in-Err-receive_behind-clause-received : goal.returns-in-Err-receive_behind-clause-received
returns-in-Err-receive_behind-clause-received g c =
    rw c.fault_of_stop.ensures (stopped_fill c.in-Err-receive_behind.stop c.args.self.now _ _ (ap (λ (h : Held). h.first) c.self.view_is)
    c.in-Err-receive_behind.ensures.nothing)

pub returns-clause-received : goal.returns-clause-received
returns-clause-received g c =
    let end = c.in-Ok.start + (c.self.inside.end - c.self.inside.at) in
    received_behind c.args.self.now _ c.in-Ok.start end c.in-Ok-receive_behind.count _ _ _ _ _ _
    (ap (λ (h : Held). h.waiting) (sym c.self.view_is) ∙ sym c.in-Ok.ensures.same)
    (c.receive_behind.ensures.front ∙ ap (λ (w : List ℕ). take end w) c.as_mut_slice.ensures.value) (omega arith)
    c.in-Ok-receive_behind.ensures.within (c.receive_behind.ensures.len ∙ c.as_mut_slice.ensures.len) refl c.in-Ok-receive_behind.ensures.received
    (ap (λ (h : Held). h.first) c.self.view_is)
    (piece_behind c.deref.result.now c.receive_behind.new.buffer _ end c.in-Ok-receive_behind.count _ c.deref.ensures.value
    (c.receive_behind.ensures.len ∙ c.as_mut_slice.ensures.len)) c.note-known.ensures.noted
