use Rattle.std.proofs.Common.{rules, ◌≡◌}
use Rattle.copy_jobs.proofs.FreshLemmas.{sound_fresh}
use Rattle.copy_jobs.proofs.lane.EngineLane.new.Goals as goal

pub invariant_of-result : goal.invariant_of-result
invariant_of-result g c =
    let same : c.of-origin.result.value ≡ c.args.lane = search rules in
    sound_fresh c.args.lane c.of-origin.result.value c.args.source.now c.args.dest.now _ c.requires.apart same
