use Rattle.policy_file.proofs.TextLemmas.{some_texts-some}
use Rattle.policy_file.proofs.keys.some_texts.Goals as goal

pub returns : goal.returns
returns c = rw (some_texts-some _ c.if-is_empty.ensures) c.texts_from.ensures
