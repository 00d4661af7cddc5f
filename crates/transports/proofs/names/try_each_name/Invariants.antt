use Rattle.std.proofs.Common.{drop}
use Rattle.skopeo_outside.specs.LaneTold.{IsLater}
use Rattle.transports.specs.Tried.{OnSource}
use Rattle.transports.proofs.NameLemmas.{AreNamesFailed}
use Rattle.transports.proofs.names.try_each_name.Given as goal

abbrev pub invariant-loop-name : goal.invariant-loop-name
invariant-loop-name g l = record {
  failed : AreNamesFailed l.tls l.conf l.names (drop l.name-index l.names) l.fn.lane l.lane l.attempts.items;
  later : IsLater l.fn.lane l.lane;
  on : OnSource l.fn.lane l.lane;
}
