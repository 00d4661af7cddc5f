use Rattle.std.proofs.Common.{rules}
use Rattle.transports.proofs.StoreLemmas.{are_parts}
use Rattle.transports.proofs.store.store_at.Goals as goal

pub invariant_of-result : goal.invariant_of-result
invariant_of-result c = are_parts c.args.reference.now c.args.base.now _ c.host-named.ensures.named (search rules) (search rules) (search rules)
