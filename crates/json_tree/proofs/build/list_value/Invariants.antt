use Rattle.std.proofs.Common.{◌≡◌, Result, Bor, map, take}
use Rattle.std.specs.Prelude.{IfOk}
use Rattle.serde_json.specs.Data.{Data}
use Rattle.serde_json.specs.View.{view}
use Rattle.serde_json.specs.declared.value.Value.{Value}
use Rattle.skopeo_outside.specs.declared.stop.Memory.{Memory}
use Rattle.json_tree.specs.Build.{WasMade}
use Rattle.json_tree.proofs.BuildLemmas.{HoldsBefore}
use Rattle.json_tree.proofs.build.list_value.Given as goal

abbrev pub invariant-loop-item : goal.invariant-loop-item
invariant-loop-item g l = record {
  values :
      (f : g.row.A.Denot → Data)
      → ((x : Bor g.row.A.Denot) (r : Result Value Memory) → goal.F-post g l.one x r → IfOk r (λ v. view v ≡ f x.now))
      → map view l.values.items ≡ map f (take l.item-index l.items);
  each : HoldsBefore (WasMade (goal.F-post g l.one)) l.items l.item-index;
}
