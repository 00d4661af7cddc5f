use Rattle.image_ref.proofs.PathLaw.{path_passes}
use Rattle.image_ref.proofs.path.is_path.Goals as goal

pub returns : goal.returns
returns c = path_passes c.args.text.now c.bad_component.result c.is_none.result c.bad_component.ensures.first c.is_none.ensures
