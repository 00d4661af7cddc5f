use Rattle.std.proofs.Common.{◌≡◌, ◌<◌, ◌^◌, rules, subst}
use Rattle.skopeo_outside.specs.LaneTold.{LaneTold}
use Rattle.copy_jobs.specs.Passed.{IsRoute, Carries}
use Rattle.copy_jobs.proofs.CarryLemmas.{carried_others, carried_works}
use Rattle.copy_jobs.proofs.carry.carry_blob.Goals as goal

pub returns-clause-others : goal.returns-clause-others
returns-clause-others g c =
    let small : c.args.lane.now.number < 2 ^ 64 = search rules in
    let route : IsRoute c.args.source.now c.args.dest.now c.args.job.now c.args.lane.now = record { apart = c.requires.apart; digest = c.as_bytes-digest.ensures.digest; small = small } in
    let entry : c.of.result.value ≡ c.args.lane.now = search rules in
    carried_others c.args.source.now c.args.dest.now c.args.job.now c.args.lane.now route c.carry_and_close.new.lane c.carry_and_close.result
    (subst (λ (a : LaneTold). Carries c.args.source.now c.args.dest.now c.args.job.now a c.carry_and_close.new.lane c.carry_and_close.result) entry c.carry_and_close.ensures.carried)

pub returns-clause-works : goal.returns-clause-works
returns-clause-works g c =
    let small : c.args.lane.now.number < 2 ^ 64 = search rules in
    let route : IsRoute c.args.source.now c.args.dest.now c.args.job.now c.args.lane.now = record { apart = c.requires.apart; digest = c.as_bytes-digest.ensures.digest; small = small } in
    let entry : c.of.result.value ≡ c.args.lane.now = search rules in
    carried_works c.args.source.now c.args.dest.now c.args.job.now c.args.lane.now route c.carry_and_close.new.lane c.carry_and_close.result
    (subst (λ (a : LaneTold). Carries c.args.source.now c.args.dest.now c.args.job.now a c.carry_and_close.new.lane c.carry_and_close.result) entry c.carry_and_close.ensures.carried)
