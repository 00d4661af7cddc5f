use Rattle.std.proofs.Common.{rules, ℕ, ◌<◌, sym, subst}
use Rattle.location_cache.specs.Rule.{times}
use Rattle.location_cache.specs.Seats.{Seated}
use Rattle.location_cache.proofs.Steps.{lowers}
use Rattle.location_cache.proofs.desk.Desk.fail.Goals as goal

pub fetch_min-requires : goal.fetch_min-requires
fetch_min-requires g c =
    let drew = subst (λ (x : Seated). 0 < times c.args.job x.view.drawn) (sym c.seat.view_is) c.requires.drew in
    let drew' = subst (λ (n : ℕ). 0 < times n c.seat.inside.seat.me.0.drawn) (sym c.from.ensures) drew in
    (search rules, search rules, lowers g.J.Jobs.jobs _ _ _ c.from.result c.seat.invariant.2 drew')
