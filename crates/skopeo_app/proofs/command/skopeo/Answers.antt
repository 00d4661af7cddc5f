use Rattle.skopeo_app.proofs.CommandLemmas.{ends}
use Rattle.skopeo_app.proofs.command.skopeo.Goals as goal

pub returns-clause-ends : goal.returns-clause-ends
returns-clause-ends g c = ends _ _ _ _ _ _ _ _ c.run-ended.result c.run-ended.ensures.run c.finish.ensures
