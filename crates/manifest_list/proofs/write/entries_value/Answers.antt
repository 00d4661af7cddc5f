use Rattle.std.proofs.Common.{rules}
use Rattle.manifest_list.specs.Written.{entry_data}
use Rattle.manifest_list.proofs.write.entries_value.Goals as goal

pub returns : goal.returns
returns c = c.list_value.ensures.value entry_data (λ x r k. search rules)
