use Rattle.std.proofs.Common.{◌≡◌, ◌∙◌, ap, map, refl}
use Rattle.std.proofs.lemmas.Result.{IfOk-at_ok}
use Rattle.serde_json.specs.Data.{array}
use Rattle.serde_json.specs.View.{view, items_of}
use Rattle.json_tree.proofs.BuildLemmas.{one_value_more, all_values, holds_before-none, holds_before-more, holds_before-all}
use Rattle.json_tree.proofs.build.list_value.Goals as goal

pub loop-item-init : goal.loop-item-init
loop-item-init g c = record { values = λ f h. ap (map view) c.new-values.ensures.items; each = holds_before-none _ _ }

pub loop-item-preserved : goal.loop-item-preserved
loop-item-preserved g c = record {
  values = λ f h.
      one_value_more f _ _ c.item-item.result _ _ _ (c.loop-item.invariant.values f h) c.loop-item-test.true c.item-item.is
      (IfOk-at_ok (λ v. view v ≡ f c.item-item.result) c.in_ok-one.was (h _ _ c.one.ensures)) c.in_ok-push.ensures.items;
  each =
      holds_before-more _ _ _ c.item-item.result c.loop-item.invariant.each c.loop-item-test.true c.item-item.is
      record { arg = _; answer = _; post = c.one.ensures; «of» = refl; made = rw c.in_ok-one.was refl };
}

pub returns-clause-value : goal.returns-clause-value
returns-clause-value g c = λ f h.
    c.from.ensures ∙ ap (λ ds. array (items_of ds)) (all_values f _ _ _ (c.loop-item.invariant.values f h) c.loop-item-test.false)

pub returns-clause-each : goal.returns-clause-each
returns-clause-each g c = holds_before-all _ _ _ c.loop-item.invariant.each c.loop-item-test.false
