use Rattle.std.proofs.Common.{◌≡◌, ◌<◌, length}
use Rattle.http_exchange.specs.Reader.{IsReady}
use Rattle.trials_http.proofs.bodies.fills_of.Given as goal

abbrev pub invariant-loop : goal.invariant-loop
invariant-loop g l = record {
  ready : IsReady l.answer.reader (g.W.Wire.is_open l.wire);
  room : 0 < length l.into;
}
