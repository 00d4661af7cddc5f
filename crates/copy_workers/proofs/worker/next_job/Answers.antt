use Rattle.std.proofs.Common.{ℕ, ◌<◌, IfSome, subst}
use Rattle.location_cache.specs.Rule.{times}
use Rattle.location_cache.specs.declared.view.View.{View}
use Rattle.copy_workers.proofs.worker.next_job.Goals as goal

pub returns-clause-greater : goal.returns-clause-greater
returns-clause-greater g c = subst (λ (v : View). IfSome c.draw.result (λ job. (earlier : ℕ) → 0 < times earlier v.drawn → earlier < job)) c.least.ensures.view c.draw.ensures.greater
