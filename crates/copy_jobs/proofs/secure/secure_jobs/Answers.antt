use Rattle.std.proofs.Common.{Ok, Err, sym, subst}
use Rattle.copy_jobs.specs.Secured.{JobsEnd}
use Rattle.copy_jobs.proofs.RunLemmas.{ends_of, adds_of, receipts_of, run_works, run_rest}
use Rattle.copy_jobs.proofs.secure.secure_jobs.Goals as goal

pub returns-in-Ok-run_lent-clause-ends : goal.returns-in-Ok-run_lent-clause-ends
returns-in-Ok-run_lent-clause-ends g c = ends_of c.args.source.now c.args.dest.now c.args.jobs.now c.args.count c.args.lanes.now.items c.run_lent.new.lanes.items (Ok c.in-Ok-run_lent.receipts) c.requires.jobs.0 c.in-Ok-run_lent.ensures.run

pub returns-in-Ok-run_lent-clause-receipts : goal.returns-in-Ok-run_lent-clause-receipts
returns-in-Ok-run_lent-clause-receipts g c = receipts_of c.args.source.now c.args.dest.now c.args.jobs.now c.args.count c.args.lanes.now.items c.run_lent.new.lanes.items (Ok c.in-Ok-run_lent.receipts) c.in-Ok-run_lent.ensures.run

pub returns-in-Ok-run_lent-clause-adds : goal.returns-in-Ok-run_lent-clause-adds
returns-in-Ok-run_lent-clause-adds g c = adds_of c.args.source.now c.args.dest.now c.args.jobs.now c.args.count c.args.lanes.now.items c.run_lent.new.lanes.items (Ok c.in-Ok-run_lent.receipts) c.in-Ok-run_lent.ensures.run

pub returns-in-Ok-run_lent-clause-works : goal.returns-in-Ok-run_lent-clause-works
returns-in-Ok-run_lent-clause-works g c = run_works c.args.source.now c.args.dest.now c.args.jobs.now c.args.count c.args.lanes.now.items c.run_lent.new.lanes.items (Ok c.in-Ok-run_lent.receipts) c.in-Ok-run_lent.ensures.run

pub returns-in-Ok-run_lent-clause-rest : goal.returns-in-Ok-run_lent-clause-rest
returns-in-Ok-run_lent-clause-rest g c = run_rest c.args.source.now c.args.dest.now c.args.jobs.now c.args.count c.args.lanes.now.items c.run_lent.new.lanes.items (Ok c.in-Ok-run_lent.receipts) c.in-Ok-run_lent.ensures.run

pub returns-in-Err-clause-ends : goal.returns-in-Err-clause-ends
returns-in-Err-clause-ends g c =
    subst (λ e. JobsEnd {A = Unit {0}} c.args.source.now c.args.dest.now c.args.jobs.now c.args.lanes.now.items c.run_lent.new.lanes.items (Err e)) (sym c.refusal_of.ensures.is)
    (ends_of c.args.source.now c.args.dest.now c.args.jobs.now c.args.count c.args.lanes.now.items c.run_lent.new.lanes.items (Err c.in-Err.fault) c.requires.jobs.0 c.in-Err.ensures.run)

pub returns-in-Err-clause-works : goal.returns-in-Err-clause-works
returns-in-Err-clause-works g c = run_works c.args.source.now c.args.dest.now c.args.jobs.now c.args.count c.args.lanes.now.items c.run_lent.new.lanes.items (Err c.in-Err.fault) c.in-Err.ensures.run

pub returns-in-Err-clause-rest : goal.returns-in-Err-clause-rest
returns-in-Err-clause-rest g c = run_rest c.args.source.now c.args.dest.now c.args.jobs.now c.args.count c.args.lanes.now.items c.run_lent.new.lanes.items (Err c.in-Err.fault) c.in-Err.ensures.run
