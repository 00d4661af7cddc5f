use Rattle.std.proofs.Common.{rules}
use Rattle.location_cache.proofs.Steps.{joins}
use Rattle.location_cache.proofs.desk.Desk.join.Goals as goal

pub join_seat-requires : goal.join_seat-requires
join_seat-requires g c = (search rules, search rules, search rules, search rules, joins g.J.Jobs.jobs _ _ _ _ c.kept.invariant.2)
