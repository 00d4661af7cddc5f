use Rattle.std.proofs.Common.{rules}
use Rattle.serde_json.specs.Data.{string}
use Rattle.manifest_list.proofs.write.texts_value.Goals as goal

pub returns : goal.returns
returns c = c.list_value.ensures.value string (λ x r k. search rules)
