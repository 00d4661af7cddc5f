use Rattle.std.proofs.Common.{rules, ◌≡◌, Some, None, sym, subst}
use Rattle.std.specs.Option.{option_map}
use Rattle.digest_reader.specs.declared.job.Job.{Job}
use Rattle.copy_workers.specs.declared.asked.LaneAnswer.TheVariants as answer
use Rattle.copy_workers.specs.Asked.{Adds}
use Rattle.copy_workers.specs.Lanes.{Keeps}
use Rattle.transports.proofs.BringLemmas.{part_brings, left_part}
use Rattle.transports.proofs.WorkLemmas.{works_later}
use Rattle.copy_jobs.specs.declared.lane.EngineLane.TheInside.{Inside}
use Rattle.copy_jobs.specs.Lane.{LaneState, IsSound, fault_of, lane_lore}
use Rattle.copy_jobs.proofs.StateLemmas.{after, calm_none, kept_failure, sound_carried, sound_failed, done_since, keeps_carried, keeps_failed}
use Rattle.copy_jobs.proofs.lane.EngineLaneBlobLane.carry.Goals as goal

-- what a lane shows
abbrev shown : {W F : Type 0} → Inside W F → LaneState
shown l = record { lane = l.lane; origin = l.origin.value; source = l.source.now; dest = l.dest.now; failure = option_map (λ f. (f.job, f.cause.value)) l.failure; asked = l.asked }

calm : (l now : LaneState) → l ≡ now → ((job : Job) → fault_of now.failure job ≡ None) → l.failure ≡ None
calm l now is quiet = calm_none l.failure (subst (λ (x : LaneState). (job : Job) → fault_of x.failure job ≡ None) (sym is) quiet)

pub invariant_of-self : goal.invariant_of-self
invariant_of-self g c =
    let l = shown c.self.inside in
    let adds : Adds c.args.job.now.digest answer.Carried l.asked c.carried.new.self = search rules in
    sound_carried l c.carry_blob.new.lane c.carried.new.self c.args.job.now answer.Carried c.self.invariant (calm l c.args.self.now c.self.view_is c.requires.calm) c.carry_blob.ensures.works c.in-Ok.ensures.adds adds

pub returns-in-Ok-clause-secured : goal.returns-in-Ok-clause-secured
returns-in-Ok-clause-secured g c = done_since (shown c.self.inside) c.carry_blob.new.lane c.args.job.now c.self.invariant c.in-Ok.ensures.done

pub returns-in-Ok-clause-kept : goal.returns-in-Ok-clause-kept
returns-in-Ok-clause-kept g c =
    let l = shown c.self.inside in
    let adds : Adds c.args.job.now.digest answer.Carried l.asked c.carried.new.self = search rules in
    subst (λ o. Keeps lane_lore c.args.job.now o (after l c.carry_blob.new.lane c.carried.new.self l.failure)) c.self.view_is
    (keeps_carried l c.carry_blob.new.lane c.carried.new.self c.args.job.now answer.Carried (works_later l.dest l.lane c.carry_blob.new.lane c.carry_blob.ensures.works) c.carry_blob.ensures.others adds)

pub invariant_of-self-in-Err : goal.invariant_of-self-in-Err
invariant_of-self-in-Err g c =
    let l = shown c.self.inside in
    let adds : Adds c.args.job.now.digest answer.Failed l.asked c.carried-in-Err.new.self = search rules in
    let part = left_part l.source l.dest c.args.job.now l.lane c.carry_blob.new.lane c.in-Err.ensures.left in
    subst (λ f. IsSound (after l c.carry_blob.new.lane c.carried-in-Err.new.self f)) (kept_failure c.args.job.now c.failure_of.result.job c.in-Err.cause c.failure_of.result.cause.value c.failure_of.ensures.job c.failure_of.ensures.cause)
    (sound_failed l c.carry_blob.new.lane c.carried-in-Err.new.self c.args.job.now c.in-Err.cause answer.Failed c.self.invariant c.carry_blob.ensures.works c.in-Err.ensures.failed
    (part_brings l.dest c.args.job.now l.lane c.carry_blob.new.lane part) adds)

pub returns-in-Err-clause-kept : goal.returns-in-Err-clause-kept
returns-in-Err-clause-kept g c =
    let l = shown c.self.inside in
    let adds : Adds c.args.job.now.digest answer.Failed l.asked c.carried-in-Err.new.self = search rules in
    subst (λ f. Keeps lane_lore c.args.job.now c.args.self.now (after l c.carry_blob.new.lane c.carried-in-Err.new.self f)) (kept_failure c.args.job.now c.failure_of.result.job c.in-Err.cause c.failure_of.result.cause.value c.failure_of.ensures.job c.failure_of.ensures.cause)
    (subst (λ o. Keeps lane_lore c.args.job.now o (after l c.carry_blob.new.lane c.carried-in-Err.new.self (Some (c.args.job.now, c.in-Err.cause)))) c.self.view_is
    (keeps_failed l c.carry_blob.new.lane c.carried-in-Err.new.self c.args.job.now c.in-Err.cause answer.Failed (calm l c.args.self.now c.self.view_is c.requires.calm) (works_later l.dest l.lane c.carry_blob.new.lane c.carry_blob.ensures.works) c.carry_blob.ensures.others adds))
