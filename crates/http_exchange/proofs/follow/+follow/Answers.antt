use Rattle.std.proofs.Common.{rules, ◌∙◌, ap, length}
use Rattle.std.proofs.lemmas.Result.{err_from_is_err_and}
use Rattle.http_message.specs.Requests.{MaySend}
use Rattle.http_exchange.specs.Reader.{Reader}
use Rattle.http_exchange.proofs.Chaining.{follow_fault, follow_stops, follow_done, follow_on}
use Rattle.http_exchange.proofs.PlainLaws.{may_follow}
use Rattle.http_exchange.proofs.follow.+follow.Goals as goal

pub returns-in-Err-clause-chained : goal.returns-in-Err-clause-chained
returns-in-Err-clause-chained g t c =
    let first = c.first.ensures ∙ ap (λ (r : Reader). r.held.first) c.reader.view_is in
    follow_fault c.args.step c.args.request.now c.args.body.now c.args.left _ _ c.ask.new.reader _ c.in-Err.fault _ first c.shown_fault.ensures c.in-Err.ensures.asked

pub returns-in_err-next-clause-chained : goal.returns-in_err-next-clause-chained
returns-in_err-next-clause-chained g t c =
    let p = err_from_is_err_and c.from_residual.result c.from_residual.ensures.1 in
    rw (p.1, p.2) (follow_stops c.args.step c.args.request.now c.args.body.now c.args.left _ _ c.ask.new.reader c.in-Ok.head c.in_err-next.field-0.0
    c.in_err-next.ensures.0 c.in_err-next.ensures.1 c.in-Ok.ensures.asked)

pub returns-in-Some-clause-chained : goal.returns-in-Some-clause-chained
returns-in-Some-clause-chained g t c =
    let n = rw c.in-Some.is at c.in_ok-next.ensures in
    follow_on c.args.step c.args.request.now c.in-Some.next c.args.body.now c.args.left _ _ _ c.ask.new.reader c.follow.new.reader c.in-Ok.head c.follow.result
    n.0 n.1 n.2 c.in-Ok.ensures.asked c.follow.ensures.chained

pub returns-in-None-clause-chained : goal.returns-in-None-clause-chained
returns-in-None-clause-chained g t c =
    follow_done c.args.step c.args.request.now c.args.body.now c.args.left _ _ c.ask.new.reader c.in-Ok.head (rw c.in-None.is at c.in_ok-next.ensures) c.in-Ok.ensures.asked

pub follow-requires : goal.follow-requires
follow-requires g t c κs within =
    let n = rw c.in-Some.is at c.in_ok-next.ensures in
    let may : MaySend c.in-Some.next (length c.args.body.now)
    = may_follow c.args.request.now c.in-Some.next c.in-Ok.head (length c.args.body.now) c.requires.may n.2 in
    search (rules, may)
