use Rattle.policy_file.proofs.TurnLemmas.{some_of-some}
use Rattle.policy_file.proofs.list.some_in.Goals as goal

pub returns : goal.returns
returns c = rw (some_of-some _ c.if-is_empty.ensures) c.requirements_in.ensures
