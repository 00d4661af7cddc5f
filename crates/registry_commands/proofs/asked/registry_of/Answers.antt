use Rattle.std.proofs.Common.{rules}
use Rattle.transports.proofs.AskLemmas.{is_asked}
use Rattle.registry_commands.proofs.asked.registry_of.Goals as goal

pub returns-clause-asked : goal.returns-clause-asked
returns-clause-asked c = is_asked c.args.reference.now _ _ (search rules) (search rules) (search rules)
