use Rattle.std.proofs.Common.{rules, refl}
use Rattle.copy_workers_tests.proofs.tests.ToyBlobLane.carry.Goals as goal

pub returns-clause-kept : goal.returns-clause-kept
returns-clause-kept c = record {
  stays = λ other apart. c.take-answer.ensures.stays other.digest apart;
  fails = search rules;
  names = λ other apart. refl;
  asks = search rules;
  target = refl;
  origin = search rules;
}
