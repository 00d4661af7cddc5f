use Rattle.std.proofs.Common.{rules}
use Rattle.image_ref.specs.Reference.{Reference}
use Rattle.image_ref.specs.Reading.{seen}
use Rattle.image_ref.proofs.AgainLaw.{made_of}
use Rattle.image_ref.proofs.named.value.Goals as goal

pub invariant_of-result : goal.invariant_of-result
invariant_of-result c =
    let r : Reference = record { host = c.in_ok-host.host; path = c.in_ok-path.path; tag = c.in_ok-tag.tag; digest = c.args.digest } in
    c.requires.again r (made_of (seen c.args.pieces.now) r (search rules) (search rules) (search rules) (search rules) (search rules))
