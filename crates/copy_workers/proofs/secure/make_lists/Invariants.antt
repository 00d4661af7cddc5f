use Rattle.std.proofs.Common.{◌≡◌, All, vec_len}
use Rattle.copy_workers.specs.Teams.{HasRoom}
use Rattle.copy_workers.proofs.secure.make_lists.Given as goal

abbrev pub invariant-loop : goal.invariant-loop
invariant-loop l = record {
  count : vec_len l.lists ≡ l.counter;
  room : All (HasRoom l.jobs) l.lists.items;
}
