use Rattle.std.proofs.Common.{rules, ◌≡◌, Err}
use Rattle.copy_engine.specs.Ready.{IsReady}
use Rattle.copy_engine.specs.Report.{copied_of}
use Rattle.copy_engine.proofs.LiftLemmas.{lanes_later}
use Rattle.copy_engine.proofs.ReadyLemmas.{all_later}
use Rattle.copy_engine.proofs.PlacedLemmas.{placed_same, placing_stops, placing_cut, placing_ends, jobs_left, jobs_lost, all_wrote, written_left, written_lost, first_stands, placed}
use Rattle.copy_engine.proofs.place.place_parts.Goals as goal

pub returns-in_err-rows-clause-leaves : goal.returns-in_err-rows-clause-leaves
returns-in_err-rows-clause-leaves g c = placed_same c.args.dest c.args.image c.args.lanes.now.items

pub returns-in_err-ready-clause-ends : goal.returns-in_err-ready-clause-ends
returns-in_err-ready-clause-ends g c =
    let e = c.in_err-ready.field-0.0 in
    let is : c.from_residual-in_err-ready.result ≡ Err e = search rules in
    rw is (placing_stops c.args.from c.args.dest c.args.image _ _ e c.in_err-ready.ensures.ends)

pub returns-in_err-ready-clause-leaves : goal.returns-in_err-ready-clause-leaves
returns-in_err-ready-clause-leaves g c = jobs_left c.args.dest c.args.image c.args.lanes.now.items c.make_ready.new.lanes.items c.make_ready.ensures.works c.make_ready.ensures.late

pub returns-in_err-ready-clause-lost : goal.returns-in_err-ready-clause-lost
returns-in_err-ready-clause-lost g c =
    let is : c.from_residual-in_err-ready.result ≡ Err c.in_err-ready.field-0.0 = search rules in
    rw is (jobs_lost c.args.dest c.args.lanes.now.items c.make_ready.new.lanes.items c.make_ready.ensures.works c.in_err-ready.ensures.order)

pub write_manifest-requires-clause-lanes : goal.write_manifest-requires-clause-lanes
write_manifest-requires-clause-lanes g c =
    let x = c.args.lanes.now.items in
    let y = c.make_ready.new.lanes.items in
    lanes_later x y (all_later c.args.dest x y c.make_ready.ensures.works) c.requires.lanes

pub returns-in_err-row : goal.returns-in_err-row
returns-in_err-row g c =
    let dest = c.args.dest in
    let r = c.in_ok-ready.ready in
    let x = c.args.lanes.now.items in
    let y = c.make_ready.new.lanes.items in
    let z = c.write_manifest.new.lanes.items in
    let m = c.in_ok-ready.ensures in
    let e = c.in_err-row.field-0.0 in
    let is : c.from_residual-in_err-row.result ≡ Err e = search rules in
    let to : r.dest ≡ dest = m.made.dest_is in
    let ready : IsReady r = search rules in
    let wrote = all_wrote dest c.args.image c.in_ok-rows.field-0.row x y z r m.made ready c.write_manifest.ensures.written in
    record {
      ends = rw is (placing_cut c.args.from dest c.args.image _ _ _ tt e m.ends (rw to at c.in_err-row.ensures.ends));
      placed = rw is tt;
      told = rw is tt;
      leaves = written_left c.args.from dest c.args.image x y z tt m.ends c.make_ready.ensures.works wrote;
      lost = rw is (written_lost dest c.args.image x y z c.make_ready.ensures.works m.filled wrote c.in_err-row.ensures.none);
      rest = search rules;
    }

pub returns : goal.returns
returns g c =
    let dest = c.args.dest in
    let r = c.in_ok-ready.ready in
    let x = c.args.lanes.now.items in
    let y = c.make_ready.new.lanes.items in
    let z = c.write_manifest.new.lanes.items in
    let m = c.in_ok-ready.ensures in
    let to : r.dest ≡ dest = m.made.dest_is in
    let ready : IsReady r = search rules in
    let wrote = all_wrote dest c.args.image c.in_ok-rows.field-0.row x y z r m.made ready c.write_manifest.ensures.written in
    let stands = first_stands dest c.args.image c.in_ok-rows.field-0.row x y z r m.made ready c.in_ok-row.ensures.finished in
    let told : record { rows = c.from_vec.result; lines = c.in_ok-rows.field-0.lines } ≡ copied_of c.args.image = search rules in
    record {
      ends = placing_ends c.args.from dest c.args.image _ _ _ tt tt _ m.ends (rw to at c.in_ok-row.ensures.ends) told;
      placed = placed c.args.from dest c.args.image x y z c.make_ready.ensures.works m.done m.filled wrote stands c.write_manifest.ensures.rest;
      told = told;
      leaves = written_left c.args.from dest c.args.image x y z tt m.ends c.make_ready.ensures.works wrote;
      lost = tt;
      rest = search rules;
    }
