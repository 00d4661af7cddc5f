use Rattle.std.proofs.Common.{arith}
use Rattle.copy_jobs.proofs.LentLemmas.{lent_count, lent_length}
use Rattle.copy_jobs.proofs.RunLemmas.{fresh_lanes}
use Rattle.copy_jobs.proofs.secure.run_lent.Goals as goal

pub secure_all-outcome-requires-clause-lanes : goal.secure_all-outcome-requires-clause-lanes
secure_all-outcome-requires-clause-lanes g c = λ κs lives. fresh_lanes c.args.source.now c.args.dest.now c.args.jobs.now c.args.count _ _ _ c.lend.ensures.lent

pub secure_all-outcome-requires-clause-count : goal.secure_all-outcome-requires-clause-count
secure_all-outcome-requires-clause-count g c = λ κs lives.
    let n = lent_count c.args.source.now c.args.dest.now c.args.count _ _ _ c.lend.ensures.lent in
    let r = c.requires.count in
    (omega arith, omega arith)

pub give_back-requires : goal.give_back-requires
give_back-requires g c =
    let n = lent_count c.args.source.now c.args.dest.now c.args.count _ _ _ c.lend.ensures.lent in
    let m = lent_length c.args.source.now c.args.dest.now c.args.count _ _ _ c.lend.ensures.lent in
    let s = c.secure_all-outcome.ensures.count in
    let r = c.lend.ensures.lanes_room in
    record { room = omega arith }

pub returns : goal.returns
returns g c =
    let s = c.secure_all-outcome.ensures.count in
    record {
      run = record {
        starts = c.lend.new.list.items;
        ends = c.secure_all-outcome.new.lanes.items;
        rest = c.lend.new.lanes.items;
        lent = c.lend.ensures.lent;
        same = omega arith;
        back = c.give_back.ensures.back;
        sound = c.give_back.ensures.sound;
        kept = c.secure_all-outcome.ensures.kept;
        secured = c.secure_all-outcome.ensures.secured;
        fault = c.secure_all-outcome.ensures.fault;
      };
    }
