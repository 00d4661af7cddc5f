use Rattle.std.proofs.Common.{◌≡◌, length}
use Rattle.http_exchange.specs.Reader.{IsReady}
use Rattle.trials_http.proofs.bodies.four_calls.Given as goal

abbrev pub invariant-loop-round : goal.invariant-loop-round
invariant-loop-round g l = record {
  ready : IsReady l.answer.reader (g.W.Wire.is_open l.wire);
  room : length l.into ≡ 8;
}
