use Rattle.skopeo_app.proofs.ImageLemmas.{image_copied, image_refused}
use Rattle.skopeo_app.proofs.run.copy_plan.Goals as goal

pub returns-in-Ok : goal.returns-in-Ok
returns-in-Ok g c = record { copies = image_copied c.args.rules.now c.args.plan.now _ _ c.in-Ok.copied c.in-Ok.ensures.ends c.copy_image.ensures.headline c.copy_image.ensures.leaves c.in-Ok.ensures.delivered c.copy_image.ensures.rest c.copy_image.ensures.asks }

pub returns-in-Err : goal.returns-in-Err
returns-in-Err g c = record { copies = image_refused c.args.rules.now c.args.plan.now _ _ c.in-Err.refusal c.requires.lanes.some c.in-Err.ensures.ends c.copy_image.ensures.headline c.copy_image.ensures.leaves c.in-Err.ensures.gives_up c.copy_image.ensures.rest c.copy_image.ensures.asks }
