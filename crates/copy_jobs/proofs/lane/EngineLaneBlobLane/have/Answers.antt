use Rattle.std.proofs.Common.{rules}
use Rattle.std.specs.Option.{option_map}
use Rattle.copy_workers.specs.declared.asked.LaneAnswer.TheVariants as answer
use Rattle.copy_workers.specs.Asked.{Adds}
use Rattle.copy_jobs.specs.declared.lane.EngineLane.TheInside.{Inside}
use Rattle.copy_jobs.specs.Lane.{LaneState}
use Rattle.copy_jobs.proofs.StateLemmas.{sound_asked}
use Rattle.copy_jobs.proofs.lane.EngineLaneBlobLane.have.Goals as goal

-- what a lane shows
abbrev shown : {W F : Type 0} → Inside W F → LaneState
shown l = record { lane = l.lane; origin = l.origin.value; source = l.source.now; dest = l.dest.now; failure = option_map (λ f. (f.job, f.cause.value)) l.failure; asked = l.asked }

pub invariant_of-self : goal.invariant_of-self
invariant_of-self g c =
    let l = shown c.self.inside in
    let adds : Adds c.args.job.now.digest answer.Absent l.asked c.had.new.self = search rules in
    sound_asked l c.had.new.self c.args.job.now answer.Absent c.self.invariant adds
