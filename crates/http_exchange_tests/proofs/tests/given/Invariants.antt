use Rattle.std.proofs.Common.{◌≡◌, length}
use Rattle.http_exchange.specs.Reader.{IsReady}
use Rattle.http_exchange_tests.proofs.tests.given.Given as goal

abbrev pub invariant-loop-count : goal.invariant-loop-count
invariant-loop-count g l = record {
  ready : IsReady l.answer.reader (g.W.Wire.is_open l.wire);
  room : length l.into ≡ 1;
}
