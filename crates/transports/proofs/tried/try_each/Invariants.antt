use Rattle.std.proofs.Common.{drop}
use Rattle.skopeo_outside.specs.LaneTold.{IsLater}
use Rattle.transports.specs.Tried.{OnSource}
use Rattle.transports.proofs.TriedLemmas.{AreFailed}
use Rattle.transports.proofs.tried.try_each.Given as goal

abbrev pub invariant-loop-source : goal.invariant-loop-source
invariant-loop-source g l = record {
  failed : AreFailed l.tls l.sources (drop l.source-index l.sources) l.fn.lane l.lane l.attempts;
  later : IsLater l.fn.lane l.lane;
  on : OnSource l.fn.lane l.lane;
}
