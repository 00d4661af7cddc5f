use Rattle.image_ref.proofs.PortLemmas.{parsed, ok_same, ok_is_no_err}
use Rattle.skopeo_words.proofs.value.number_of.Goals as goal

pub returns-in-Ok : goal.returns-in-Ok
returns-in-Ok c = ok_same _ _ _ (parsed c.args.text.now _ c.parse.ensures.value.0 c.requires.digits c.requires.some c.requires.few) c.in-Ok.is

pub returns-in-Err : goal.returns-in-Err
returns-in-Err c = absurd (ok_is_no_err _ _ _ (parsed c.args.text.now _ c.parse.ensures.value.0 c.requires.digits c.requires.some c.requires.few) c.in-Err.is)
