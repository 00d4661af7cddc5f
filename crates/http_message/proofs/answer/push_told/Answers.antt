use Rattle.std.proofs.Common.{map, ◌∙◌}
use Rattle.http_message.specs.Shown.{field_bytes, pair_bytes}
use Rattle.http_message.proofs.ToldLemmas.{untold_name, untold_value, told_pair}
use Rattle.http_message.proofs.answer.push_told.Goals as goal

pub returns-in_default : goal.returns-in_default
returns-in_default c =
    untold_name (map pair_bytes c.args.pairs.now) (field_bytes c.args.field.now) _ c.deref.ensures.value c.in_default.ensures.cases.0

pub returns-in_default-from_utf8 : goal.returns-in_default-from_utf8
returns-in_default-from_utf8 c =
    untold_value (map pair_bytes c.args.pairs.now) (field_bytes c.args.field.now) _ c.deref-2.ensures.value c.in_default-from_utf8.ensures.cases.0

pub returns : goal.returns
returns c = told_pair c.args.pairs.now _ _ (field_bytes c.args.field.now) _ _ c.in_ok-push.ensures.ok c.deref.ensures.value c.deref-2.ensures.value
    (c.in_ok-name.ensures ∙ c.in-Ok.ensures.cases.0) (c.in_ok-value.ensures ∙ c.in-Ok-from_utf8.ensures.cases.0) c.in-Ok.ensures.cases.1 c.in-Ok-from_utf8.ensures.cases.1
