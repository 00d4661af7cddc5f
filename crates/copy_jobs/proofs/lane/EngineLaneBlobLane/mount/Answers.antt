use Rattle.std.proofs.Common.{rules, ◌≡◌, subst}
use Rattle.std.specs.Option.{option_map}
use Rattle.copy_workers.specs.declared.cause.Cause.TheVariants as why
use Rattle.copy_workers.specs.declared.asked.LaneAnswer.TheVariants as answer
use Rattle.copy_workers.specs.Asked.{Adds}
use Rattle.transports.proofs.SameLemmas.{works_same, wants_memory}
use Rattle.transports.proofs.BringLemmas.{brings_same}
use Rattle.copy_jobs.specs.declared.lane.EngineLane.TheInside.{Inside}
use Rattle.copy_jobs.specs.Lane.{LaneState, IsSound}
use Rattle.copy_jobs.proofs.StateLemmas.{after, kept_failure, sound_failed}
use Rattle.copy_jobs.proofs.lane.EngineLaneBlobLane.mount.Goals as goal

-- what a lane shows
abbrev shown : {W F : Type 0} → Inside W F → LaneState
shown l = record { lane = l.lane; origin = l.origin.value; source = l.source.now; dest = l.dest.now; failure = option_map (λ f. (f.job, f.cause.value)) l.failure; asked = l.asked }

pub invariant_of-self : goal.invariant_of-self
invariant_of-self g c =
    let l = shown c.self.inside in
    let job = c.args.job.now in
    let adds : Adds job.digest answer.Failed l.asked c.mounted.new.self = search rules in
    subst (λ f. IsSound (after l l.lane c.mounted.new.self f)) (kept_failure job c.failure_of.result.job why.Memory c.failure_of.result.cause.value c.failure_of.ensures.job c.failure_of.ensures.cause)
    (sound_failed l l.lane c.mounted.new.self job why.Memory answer.Failed c.self.invariant (works_same l.dest l.lane) (wants_memory l.source job l.lane) (brings_same l.dest (λ d. d ≡ job.digest) l.lane) adds)
