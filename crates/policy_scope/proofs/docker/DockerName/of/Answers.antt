use Rattle.std.proofs.Common.{◌∙◌, ap}
use Rattle.image_ref.specs.Reference.{full}
use Rattle.policy_scope.specs.Scopes.{wildcards}
use Rattle.policy_scope.proofs.HostLaw.{named_host}
use Rattle.policy_scope.proofs.docker.DockerName.of.Goals as goal

pub invariant_of-result : goal.invariant_of-result
invariant_of-result c = record {
  whole = c.in_ok-whole.ensures.text;
  repository = c.in_ok-short.ensures;
  wildcards = c.in_ok-stars.ensures ∙ ap wildcards c.host.ensures.value;
  host = named_host (full c.args.reference) c.args.reference c.host.ensures.named;
}
