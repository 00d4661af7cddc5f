use Rattle.std.proofs.Common.{rules, ◌≡◌, slice_index_or}
use Rattle.skopeo_app.proofs.CountsLemmas.{first_lanes, first_reads}
use Rattle.skopeo_app.proofs.run.read_rules_first.Goals as goal

pub returns-clause-lanes : goal.returns-clause-lanes
returns-clause-lanes g c =
    let x = c.index_mut.result.now in
    let is : slice_index_or c.args.lanes.now.items 0 x ≡ x = search rules in
    first_lanes c.args.lanes.now.items x c.read_rules.new.lane is c.read_rules.ensures.reads.quiet c.requires.lanes

pub returns-clause-reads : goal.returns-clause-reads
returns-clause-reads g c =
    let x = c.index_mut.result.now in
    let is : slice_index_or c.args.lanes.now.items 0 x ≡ x = search rules in
    λ runs faults. first_reads c.args.home.now c.args.cwd.now c.args.task.now c.args.lanes.now.items x c.read_rules.new.lane runs faults c.read_rules.result c.requires.lanes.some is c.read_rules.ensures.reads
