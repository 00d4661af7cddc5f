use Rattle.std.proofs.Common.{rules, subst, sym, arith}
use Rattle.location_cache.specs.Seats.{Seated, HasFailed, IsLeast}
use Rattle.location_cache.proofs.Steps.{looks}
use Rattle.location_cache.proofs.desk.Desk.least.Goals as goal

pub load-least-requires : goal.load-least-requires
load-least-requires g c =
    let i = c.seat.invariant in
    (search rules, search rules, looks g.J.Jobs.jobs _ _ _ i.2)

pub returns-then-least-clause-calm : goal.returns-then-least-clause-calm
returns-then-least-clause-calm g c = λ job noted.
    let top = c.if-least.true in
    let few = c.self.invariant in
    let here = subst (λ (x : Seated). HasFailed x.view job) (sym c.seat.view_is) noted in
    let low = c.load-least.ensures.2.low job here in
    absurd (omega arith)

pub returns-clause-least : goal.returns-clause-least
returns-clause-least g c =
    let here = c.load-least.ensures.2 in
    subst (λ (x : Seated). IsLeast c.load-least.result x.view) c.seat.view_is
    record { lowest = λ job noted. (here.low job noted).0; stands = λ whole. here.stands whole c.if-least.false }
