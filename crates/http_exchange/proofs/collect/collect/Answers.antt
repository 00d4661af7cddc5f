use Rattle.std.proofs.Common.{arith, refl, ◌<◌, ◌≤◌, length, ◌++◌, take, length-take, length-append, subst, List, ℕ, ap, ◌∙◌, ◌≡◌, ◌+◌}
use Rattle.std.proofs.lemmas.Result.{err_from_is_err_and}
use Rattle.http_exchange.proofs.Collecting.{collecting_none, collecting_more, collected_over, collected_whole, collected_lost, collected_fault}
use Rattle.http_exchange.proofs.collect.collect.Goals as goal

pub pieces-init : goal.pieces-init
pieces-init g c = record {
  ready = c.requires.«open»;
  so_far = rw c.new-bytes.ensures (collecting_none _ _ _ c.requires.alive);
  room = refl;
  faults = omega arith;
}

pub returns-in_err-count-clause-collected : goal.returns-in_err-count-clause-collected
returns-in_err-count-clause-collected g c =
    let p = err_from_is_err_and c.from_residual.result c.from_residual.ensures.1 in
    rw (p.1, p.2) (collected_fault c.args.limit c.pieces.bytes _ _ c.pieces.invariant.so_far c.in_err-count.ensures.piece)

pub returns-then-count-eq0-clause-collected : goal.returns-then-count-eq0-clause-collected
returns-then-count-eq0-clause-collected g c =
    collected_whole c.args.limit c.in_ok-count.count c.pieces.bytes _ c.pieces.invariant.so_far c.in_ok-count.ensures.piece c.if-count-eq0.true

pub slice_bounds-piece-end : goal.slice_bounds-piece-end
slice_bounds-piece-end g c = c.in_ok-count.ensures.piece.room

pub slice_bounds-extend-end : goal.slice_bounds-extend-end
slice_bounds-extend-end g c =
    let room = c.in_ok-count.ensures.piece.room in
    omega (arith, room, length-take c.in_ok-count.count c.read_piece.new.into)

pub returns-in_err-extend-clause-collected : goal.returns-in_err-extend-clause-collected
returns-in_err-extend-clause-collected g c =
    let p = err_from_is_err_and c.from_residual-in_err-extend.result c.from_residual-in_err-extend.ensures.1 in
    rw (p.1, p.2) (collected_lost c.args.limit c.in_ok-count.count c.pieces.bytes _ c.pieces.invariant.so_far c.in_ok-count.ensures.piece)

pub returns-then-len-limit-clause-collected : goal.returns-then-len-limit-clause-collected
returns-then-len-limit-clause-collected g c =
    let over : c.args.limit < length (c.pieces.bytes ++ take c.in_ok-count.count c.read_piece.new.into)
    = subst (λ (w : List ℕ). c.args.limit < length w) c.in_ok-extend.ensures.ok (omega arith) in
    collected_over c.args.limit c.in_ok-count.count c.pieces.bytes c.read_piece.new.into c.pieces.invariant.so_far c.in_ok-count.ensures.piece over

pub pieces-preserved : goal.pieces-preserved
pieces-preserved g c =
    let some : 0 < c.in_ok-count.count = omega arith in
    let fits : length (c.pieces.bytes ++ take c.in_ok-count.count c.read_piece.new.into) ≤ c.args.limit
    = subst (λ (w : List ℕ). length w ≤ c.args.limit) c.in_ok-extend.ensures.ok (omega arith) in
    record {
      ready = c.in_ok-count.ensures.keeps.more some;
      so_far = rw c.in_ok-extend.ensures.ok (collecting_more c.args.limit c.in_ok-count.count c.pieces.bytes c.read_piece.new.into c.pieces.invariant.so_far c.in_ok-count.ensures.piece some fits);
      room = omega (arith, c.read_piece.auto.into);
      faults = omega arith;
    }

pub pieces-smaller : goal.pieces-smaller
pieces-smaller g c =
    let some : 0 < c.in_ok-count.count = omega arith in
    let room = c.in_ok-count.ensures.piece.room in
    let len : length c.extend.new.self ≡ length c.pieces.bytes + c.in_ok-count.count
    = ap (λ (w : List ℕ). length w) c.in_ok-extend.ensures.ok
    ∙ omega (arith, room, length-append {A = ℕ} c.pieces.bytes (take c.in_ok-count.count c.read_piece.new.into), length-take c.in_ok-count.count c.read_piece.new.into) in
    omega (arith, some, len)
