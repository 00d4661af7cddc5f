use Rattle.std.proofs.Common.{rules, ◌<◌, subst, sym, arith}
use Rattle.location_cache.specs.Rule.{times}
use Rattle.location_cache.specs.Seats.{Seated}
use Rattle.location_cache.proofs.Steps.{draws}
use Rattle.location_cache.proofs.desk.Desk.draw.Goals as goal

pub fetch_add-drawn-requires : goal.fetch_add-drawn-requires
fetch_add-drawn-requires g c =
    let i = c.seat.invariant in
    let d = c.self.invariant in
    (search rules, search rules, draws g.J.Jobs.jobs _ _ _ (omega arith) (search rules) i.2)

pub returns-then-drawn-from-clause-greater : goal.returns-then-drawn-from-clause-greater
returns-then-drawn-from-clause-greater g c = λ earlier here. let up = c.fetch_add-drawn.ensures.2.greater earlier (subst (λ (x : Seated). 0 < times earlier x.view.drawn) (sym c.seat.view_is) here) in omega arith
