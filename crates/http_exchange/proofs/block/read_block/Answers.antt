use Rattle.std.proofs.Common.{arith, refl, length}
use Rattle.std.proofs.lemmas.Result.{err_from_is_err_and}
use Rattle.http_message.specs.declared.fault.AnswerFault.TheVariants.{BadAnswer}
use Rattle.http_message.specs.Blocks.{HasNoEnd, HasNoBlock}
use Rattle.http_exchange.proofs.Rounds.{came_none, came_more, came_piece, stops_at_end, stops_by_fault, receives_after, none_found}
use Rattle.http_exchange.proofs.Ends.{none-grown}
use Rattle.http_exchange.proofs.block.read_block.Goals as goal

pub loop-at-init : goal.loop-at-init
loop-at-init g c = record {
  ready = c.requires;
  came = came_none _ _;
  none = λ i h. absurd (omega arith);
  within = omega arith;
  faults = omega arith;
}

pub returns-in_err-fill-clause-received : goal.returns-in_err-fill-clause-received
returns-in_err-fill-clause-received g c =
    let items = c.loop-at.inbox.waiting in
    let none : HasNoEnd c.args.ending items (length items) =
    λ i h. rw (← c.waiting.ensures.waiting) (c.in_default.ensures.none i (omega arith)) in
    let p = err_from_is_err_and c.from_residual.result c.from_residual.ensures.1 in
    rw (p.1, p.2) (receives_after _ _ _ c.loop-at.invariant.came
    (stops_by_fault _ _ (HasNoBlock c.args.ending) _ c.in_err-fill.ensures.received (refl, omega arith, none)))

pub returns-then-not-branch-clause-received : goal.returns-then-not-branch-clause-received
returns-then-not-branch-clause-received g c =
    let items = c.loop-at.inbox.waiting in
    let none : HasNoEnd c.args.ending items (length items) =
    λ i h. rw (← c.waiting.ensures.waiting) (c.in_default.ensures.none i (omega arith)) in
    let end = rw c.if-not-branch.true at c.in_ok-fill.ensures.received in
    receives_after _ _ _ c.loop-at.invariant.came
    (stops_at_end _ (HasNoBlock c.args.ending) BadAnswer end (refl, omega arith, none))

pub loop-at-preserved : goal.loop-at-preserved
loop-at-preserved g c =
    let items = c.loop-at.inbox.waiting in
    let none : HasNoEnd c.args.ending items (length items) =
    λ i h. rw (← c.waiting.ensures.waiting) (c.in_default.ensures.none i (omega arith)) in
    let more = rw c.if-not-branch.false at c.in_ok-fill.ensures.received in
    let came = came_piece more in
    record {
      ready = c.in_ok-fill.ensures.«open»;
      came = came_more c.loop-at.invariant.came came;
      none = λ i h. none-grown c.args.ending items _ came.added (length items) (omega arith) came.waits none i (omega arith);
      within = omega (arith, more.gives.grown refl);
      faults = omega arith;
    }

pub returns-then-have-ge-MOST_BYTES-clause-received : goal.returns-then-have-ge-MOST_BYTES-clause-received
returns-then-have-ge-MOST_BYTES-clause-received g c =
    receives_after _ _ _ c.loop-at.invariant.came (none_found _ _ _ c.overlong.ensures.received)
