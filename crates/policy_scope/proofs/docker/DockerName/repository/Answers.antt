use Rattle.std.proofs.Common.{◌∙◌, ap, refl}
use Rattle.policy_scope.specs.Calls.{shortened}
use Rattle.policy_scope.proofs.FrontLaw.{shortened-repository}
use Rattle.policy_scope.proofs.docker.DockerName.repository.Goals as goal

pub returns : goal.returns
returns c =
    ap shortened (c.as_str.ensures ∙ c.self.invariant.repository) ∙ shortened-repository c.self.inside.reference c.self.invariant.host
    ∙ rw c.self.view_is refl
