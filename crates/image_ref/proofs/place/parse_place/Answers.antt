use Rattle.image_ref.proofs.PlaceLaw.{place_to, place_from}
use Rattle.image_ref.proofs.PlaceFaultLaw.{refused_place, place_refused}
use Rattle.image_ref.proofs.place.parse_place.Goals as goal

pub returns-clause-grammar : goal.returns-clause-grammar
returns-clause-grammar c = λ p. (place_to c.args.cwd.now c.args.text.now p, place_from c.args.cwd.now c.args.text.now p)

pub returns-clause-faults : goal.returns-clause-faults
returns-clause-faults c = λ e. (refused_place c.args.cwd.now c.args.text.now e, place_refused c.args.cwd.now c.args.text.now e)
