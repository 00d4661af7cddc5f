use Rattle.std.proofs.Common.{arith, refl, length, ◌<◌}
use Rattle.std.proofs.lemmas.Result.{err_from_is_err_and}
use Rattle.http_message.specs.declared.fault.AnswerFault.TheVariants.{BadAnswer}
use Rattle.http_message.specs.Bodies.{TooFew}
use Rattle.http_exchange.proofs.Rounds.{came_none, came_more, came_piece, stops_at_end, stops_by_fault, receives_after}
use Rattle.http_exchange.proofs.chunk.read_two.Goals as goal

pub pieces-init : goal.pieces-init
pieces-init g c = record { ready = c.requires; came = came_none _ _; faults = omega arith }

pub returns-in_err-fill-clause-received : goal.returns-in_err-fill-clause-received
returns-in_err-fill-clause-received g c =
    let p = err_from_is_err_and c.from_residual.result c.from_residual.ensures.1 in
    rw (p.1, p.2) (receives_after _ _ _ c.pieces.invariant.came
    (stops_by_fault _ _ (TooFew 2) _ c.in_err-fill.ensures.received (refl, omega arith)))

pub returns-then-not-branch-clause-received : goal.returns-then-not-branch-clause-received
returns-then-not-branch-clause-received g c =
    let few : length c.pieces.inbox.waiting < 2 = omega arith in
    let end = rw c.if-not-branch.true at c.in_ok-fill.ensures.received in
    receives_after _ _ _ c.pieces.invariant.came (stops_at_end _ (TooFew 2) BadAnswer end (refl, few))

pub pieces-preserved : goal.pieces-preserved
pieces-preserved g c =
    let more = rw c.if-not-branch.false at c.in_ok-fill.ensures.received in
    record {
      ready = c.in_ok-fill.ensures.«open»;
      came = came_more c.pieces.invariant.came (came_piece more);
      faults = omega arith;
    }
