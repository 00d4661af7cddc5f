use Rattle.image_ref.specs.Reading.{IsReference}
use Rattle.image_ref.proofs.ReadLaw.{read_named}
use Rattle.image_ref.specs.Reference.{full}
use Rattle.image_ref.proofs.reference.ImageRef.host.Goals as goal

pub returns-clause-named : goal.returns-clause-named
returns-clause-named c =
    let again : IsReference c.args.self.now = rw (← c.self.view_is) c.self.invariant in
    read_named (full c.args.self.now) c.args.self.now again
