use Rattle.std.proofs.Common.{◌≡◌, arith, sym, subst}
use Rattle.std.proofs.lemmas.Grind.{common_steps}
use Rattle.image_ref.specs.Reading.{IsReference}
use Rattle.image_ref.specs.Reference.{full, Named}
use Rattle.image_ref.proofs.ReadLaw.{read_named}
use Rattle.image_ref.proofs.reference.ImageRef.write_text.Goals as goal

pub returns-clause-named : goal.returns-clause-named
returns-clause-named c =
    let again : IsReference c.args.self.now = rw (← c.self.view_is) c.self.invariant in
    let spelled : c.push_digest.new.text ≡ full c.args.self.now = grind (arith, common_steps) in
    subst (λ t. Named t c.args.self.now) (sym spelled) (read_named (full c.args.self.now) c.args.self.now again)
