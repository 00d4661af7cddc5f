use Rattle.std.proofs.Common.{rules}
use Rattle.json_tree.proofs.BuildLemmas.{All-was_made}
use Rattle.manifest_v2s2.specs.Calls.{HasDigest}
use Rattle.manifest_v2s2.proofs.write.image_value.Goals as goal

pub returns-clause-digests : goal.returns-clause-digests
returns-clause-digests c = record {
  config = c.in_ok-descriptor_value.ensures.digest;
  layers = All-was_made _ HasDigest _ (rw c.as_slice.ensures at c.in_ok-layers.ensures.each) (λ x r k. search rules);
}
