use Rattle.image_ref.proofs.AgainLaw.{latest_again}
use Rattle.image_ref.proofs.named.image_of.Goals as goal

pub invariant_of-result : goal.invariant_of-result
invariant_of-result c = rw (c.in_ok-from_str-in-None-None.ensures, c.in-None-None.is-1) (latest_again _ c.named.invariant)
