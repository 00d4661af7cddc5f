use Rattle.std.proofs.Common.{rules, ◌<◌, sym, subst}
use Rattle.location_cache.specs.Seats.{Seated}
use Rattle.location_cache.proofs.Steps.{splits}
use Rattle.location_cache.proofs.desk.Desk.split.Goals as goal

pub split_seat-other-requires : goal.split_seat-other-requires
split_seat-other-requires g c = (search rules, search rules, splits g.J.Jobs.jobs _ _ (subst (λ (x : Seated). 1 < x.view.room) (sym c.seat.view_is) c.requires.room))
