use Rattle.std.proofs.Common.{ap, subst, ◌∙◌}
use Rattle.location_cache.specs.Seats.{Seated, AreDrawn, SawFailed}
use Rattle.location_cache.proofs.Steps.{closes}
use Rattle.location_cache.proofs.desk.Desk.close.Goals as goal

closed : (g : _) (c : goal.After-free g) → AreDrawn g.J.Jobs.jobs c.args.seat.view × SawFailed c.args.seat.view
closed g c =
    let last = c.close_with.ensures.values.2 in
    subst (λ (x : Seated). AreDrawn g.J.Jobs.jobs x.view × SawFailed x.view) c.seat.view_is
    (closes g.J.Jobs.jobs _ _ last.0 last.1.0 last.1.1 (ap (λ (x : Seated). x.view.room) c.seat.view_is ∙ c.requires.last))

pub returns-clause-drawn : goal.returns-clause-drawn
returns-clause-drawn g c = (closed g c).0

pub returns-clause-saw : goal.returns-clause-saw
returns-clause-saw g c = (closed g c).1
