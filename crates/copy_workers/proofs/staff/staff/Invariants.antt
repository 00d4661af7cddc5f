use Rattle.std.proofs.Common.{◌≡◌, ◌<◌, ◌≤◌, ◌+◌, ◌++◌, length, vec_capacity}
use Rattle.copy_workers.specs.Works.{IsFresh}
use Rattle.copy_workers.specs.Teams.{rooms, lanes_of}
use Rattle.copy_workers.proofs.Hiring.{Staffs}
use Rattle.copy_workers.proofs.staff.staff.Given as goal

abbrev pub invariant-loop-seat : goal.invariant-loop-seat
invariant-loop-seat g l = record {
  own : l.seat.desk ≡ l.desk;
  seat : IsFresh l.seat.view;
  staffs : Staffs g.L.BlobLane.tells l.desk l.jobs (length l.fn.lanes.items) l.lanes.items l.lists.items l.workers.items;
  some : 0 < length l.lanes.items;
  lists : length l.lists.items ≡ length l.lanes.items;
  rooms : rooms l.workers.items + l.seat.view.room ≡ 16;
  spare : length l.workers.items + l.seat.view.room ≡ 16;
  lanes : l.lanes.items ++ lanes_of l.workers.items ≡ l.fn.lanes.items;
  lanes_room : length l.fn.lanes.items ≤ vec_capacity l.lanes;
  workers_room : length l.fn.lanes.items ≤ vec_capacity l.workers;
}

abbrev pub decreases-loop-seat : goal.decreases-loop-seat
decreases-loop-seat g l = length l.lanes.items
