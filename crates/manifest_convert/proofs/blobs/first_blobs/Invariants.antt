use Rattle.std.proofs.Common.{◌∷◌, take}
use Rattle.manifest_convert.specs.Blobs.{HasSeen}
use Rattle.manifest_convert.proofs.blobs.first_blobs.Given as goal

abbrev pub invariant-loop-layer : goal.invariant-loop-layer
invariant-loop-layer l = HasSeen l.seen l.jobs (l.image.config ∷ take l.layer-index l.image.layers)
