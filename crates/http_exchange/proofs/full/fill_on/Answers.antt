use Rattle.std.proofs.Common.{◌≡◌, ◌<◌, ◌≤◌, length, length-drop, refl, arith}
use Rattle.http_exchange.proofs.Filling.{gathering_none, gathering_more, filled_whole, filled_part, filled_none}
use Rattle.http_exchange.proofs.full.fill_on.Goals as goal

pub pieces-init : goal.pieces-init
pieces-init g c = record {
  ready = c.requires.«open»;
  going = λ h. h;
  so_far = gathering_none _ c.args.body.now c.args.into.now c.requires.alive;
  within = omega arith;
  room = refl;
  faults = omega arith;
  more = λ h. absurd (omega arith);
}

pub returns-then-more-eq0-clause-fills : goal.returns-then-more-eq0-clause-fills
returns-then-more-eq0-clause-fills g c =
    let within : c.pieces.count ≤ length c.read_at.new.into = omega (arith, c.pieces.invariant.within, c.read_at.auto.into) in
    filled_whole c.pieces.count c.in-Ok.more c.pieces.into c.read_at.new.into c.pieces.invariant.so_far c.in-Ok.ensures.piece
    c.if-more-eq0.true c.read_at.ensures.front within (c.in-Ok.ensures.over c.if-more-eq0.true)

pub pieces-preserved : goal.pieces-preserved
pieces-preserved g c =
    let some : 0 < c.in-Ok.more = omega arith in
    let piece = c.in-Ok.ensures.piece.room in
    record {
      ready = c.read_at.ensures.keeps.ready;
      going = λ _. c.in-Ok.ensures.going some;
      so_far = gathering_more c.pieces.count c.in-Ok.more c.pieces.into c.read_at.new.into c.pieces.invariant.so_far c.in-Ok.ensures.piece c.read_at.ensures.front some;
      within = omega (arith, piece, c.pieces.invariant.within, c.read_at.auto.into, length-drop c.pieces.count c.read_at.new.into);
      room = omega (arith, c.read_at.auto.into, c.pieces.invariant.room);
      faults = omega arith;
      more = λ _. c.in-Ok.ensures.keeps.more some;
    }

pub returns-then-count-gt0-clause-fills : goal.returns-then-count-gt0-clause-fills
returns-then-count-gt0-clause-fills g c =
    let within : c.pieces.count ≤ length c.read_at.new.into = omega (arith, c.pieces.invariant.within, c.read_at.auto.into) in
    filled_part c.pieces.count c.pieces.into c.read_at.new.into c.in-Err.fault c.pieces.invariant.so_far c.in-Err.ensures.piece
    c.read_at.ensures.front c.if-count-gt0.true within

pub returns-in-Err-clause-fills : goal.returns-in-Err-clause-fills
returns-in-Err-clause-fills g c =
    let none : c.pieces.count ≡ 0 = omega (arith, c.if-count-gt0.false) in
    filled_none c.pieces.count c.pieces.into c.read_at.new.into c.in-Err.fault c.pieces.invariant.so_far c.in-Err.ensures.piece none
