use Rattle.std.proofs.Common.{◌≡◌, ◌-◌, ℕ, min, Result, Err, length, rules, arith}
use Rattle.copy_workers.specs.declared.cause.Cause.{Cause}
use Rattle.transports.proofs.GivenLemmas.{ready_on}
use Rattle.copy_jobs.proofs.PassLemmas.{read_stopped, read_holds, add_stopped, piece_passed, piece_stopped}
use Rattle.copy_jobs.proofs.pass.pass_piece.Goals as goal

pub returns-in_err-count : goal.returns-in_err-count
returns-in_err-count g c =
    let route = c.args.route.now in
    let job = route.job.now in
    let entry = route.entry.value in
    let p = c.requires.passing in
    let e = c.in_err-count.field-0.0 in
    let o = c.in_err-count.ensures in
    let is : ◌≡◌ {A = Result ℕ Cause} c.from_residual.result (Err e) = search rules in
    record {
      passed = piece_stopped route.source.now route.dest.now job _ entry c.next_piece.new.lane c.args.at (length c.args.into.now) c.from_residual.result e is
          (read_stopped route.source.now route.dest.now job entry c.requires.route c.args.passing.now c.args.at c.args.lane.now c.next_piece.new.lane p o.untouched o.number
          e (o.gives entry p.given p.has));
    }

pub returns-in_err-add_some : goal.returns-in_err-add_some
returns-in_err-add_some g c =
    let route = c.args.route.now in
    let job = route.job.now in
    let entry = route.entry.value in
    let p = c.requires.passing in
    let e = c.in_err-add_some.field-0.0 in
    let o = c.in_ok-count.ensures in
    let size = c.requires.few in
    let room = c.requires.room in
    let into = c.next_piece.new.into in
    let fits : c.min-fits.result ≡ min (job.size - c.args.at) c.in_ok-count.count = search rules in
    let holds = read_holds route.source.now route.dest.now job entry c.requires.route c.args.passing.now c.args.at c.args.lane.now c.next_piece.new.lane p o.untouched o.number in
    let is : ◌≡◌ {A = Result ℕ Cause} c.from_residual-in_err-add_some.result (Err e) = search rules in
    record {
      passed = piece_stopped route.source.now route.dest.now job _ entry c.add_some.new.lane c.args.at (length c.args.into.now) c.from_residual-in_err-add_some.result e is
          (add_stopped route.source.now route.dest.now job entry c.requires.route c.args.passing.now c.args.at c.args.lane.now c.next_piece.new.lane p o.untouched o.number
          c.next_piece.new.blob into c.in_ok-count.count c.min-fits.result (o.gives entry p.given p.has) c.add_some.new.lane
          (c.in_err-add_some.ensures.part entry _ holds) c.in_err-add_some.ensures.later
          e (omega (arith, size, room)) (omega (arith, fits)) (c.in_err-add_some.ensures.cut entry _ holds) c.in_err-add_some.ensures.failed);
    }

pub returns : goal.returns
returns g c =
    let route = c.args.route.now in
    let job = route.job.now in
    let entry = route.entry.value in
    let p = c.requires.passing in
    let o = c.in_ok-count.ensures in
    let size = c.requires.few in
    let room = c.requires.room in
    let into = c.next_piece.new.into in
    let long : length into ≡ length c.args.into.now = search rules in
    let fits : c.min-fits.result ≡ min (job.size - c.args.at) c.in_ok-count.count = search rules in
    let holds = read_holds route.source.now route.dest.now job entry c.requires.route c.args.passing.now c.args.at c.args.lane.now c.next_piece.new.lane p o.untouched o.number in
    record {
      passed =
          piece_passed route.source.now route.dest.now job entry c.requires.route c.args.passing.now c.args.at c.args.lane.now c.next_piece.new.lane p o.untouched o.number
          c.next_piece.new.blob into c.in_ok-count.count c.min-fits.result (o.gives entry p.given p.has) c.add_some.new.lane
          (c.in_ok-add_some.ensures.part entry _ holds) c.in_ok-add_some.ensures.later
          c.add_some.ensures.from c.add_some.new.upload c.feed.new.self (length c.args.into.now) (omega (arith, size, room)) o.count long fits (c.feed.ensures p.given p.fed)
          (c.in_ok-add_some.ensures.added entry _ holds);
    }

pub next_piece-requires-clause-ready : goal.next_piece-requires-clause-ready
next_piece-requires-clause-ready g c =
    let route = c.args.route.now in
    let p = c.requires.passing in
    ready_on route.source.now route.job.now c.args.passing.now.blob route.entry.value c.args.lane.now p.given p.has
