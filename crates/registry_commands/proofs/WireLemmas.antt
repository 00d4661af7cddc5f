-- How a lane goes on where one of its wires alone takes part.
use Rattle.std.proofs.Common.{◌≡◌, ◌≤◌, ◌++◌, ℕ, Result, sym, subst, ◌∙◌, arith}
use Rattle.skopeo_outside.specs.LaneTold.{WireTold, FilesTold, LaneTold, AreMore, IsLaterWire, IsLaterFiles, IsLater}
use Rattle.skopeo_outside.specs.LaneLaws.{later_same, told_same, told_then, more_same, more_then}
use Rattle.transports.specs.Tried.{OnSource}
use Rattle.registry_commands.specs.Deletes.{OnDest}

pub wire_same : (a : WireTold) → IsLaterWire a a
wire_same a = record { talks = told_same AreMore more_same a.talks; faults = omega arith }

pub wire_now : (a b : WireTold) → b ≡ a → IsLaterWire a b
wire_now a b e = subst (IsLaterWire a) (sym e) (wire_same a)

pub wire_then : (a b c : WireTold) → IsLaterWire a b → IsLaterWire b c → IsLaterWire a c
wire_then a b c r s = record {
  talks = told_then AreMore AreMore AreMore more_then a.talks b.talks c.talks r.talks s.talks;
  faults = (let x = r.faults in let y = s.faults in omega arith);
}

pub later_to : (a b : LaneTold) → OnDest a b → IsLaterWire a.to b.to → IsLater a b
later_to a b on to = record {
  from = subst (IsLaterWire a.from) (sym on.from) (wire_same a.from);
  to = to;
  files = subst (IsLaterFiles a.files) (sym on.files) (later_same a).files;
  number = on.number;
}

pub later_from : (a b : LaneTold) → OnSource a b → IsLaterWire a.from b.from → IsLater a b
later_from a b on from = record {
  from = from;
  to = subst (IsLaterWire a.to) (sym on.to) (wire_same a.to);
  files = subst (IsLaterFiles a.files) (sym on.files) (later_same a).files;
  number = on.number;
}

pub dest_then : (a b c : LaneTold) → OnDest a b → OnDest b c → OnDest a c
dest_then a b c x y = record { from = y.from ∙ x.from; files = y.files ∙ x.files; number = y.number ∙ x.number }
