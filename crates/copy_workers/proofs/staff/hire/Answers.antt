use Rattle.std.proofs.Common.{rules, refl, arith}
use Rattle.copy_workers.proofs.staff.hire.Goals as goal

pub returns-clause-hired : goal.returns-clause-hired
returns-clause-hired g c = record {
  worker = record { lane = c.in-Some.lane; number = c.len.result; seat = c.args.seat; outcomes = c.in-Some-pop.outcomes };
  seat_is = refl;
  number_is = (let l = c.len.ensures in omega arith);
  lanes_are = c.in-Some.ensures.items;
  lists_are = c.in-Some-pop.ensures.items;
  added = search rules;
}
