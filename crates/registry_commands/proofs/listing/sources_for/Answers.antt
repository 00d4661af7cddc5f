use Rattle.registry_commands.proofs.ListLemmas.{is_blocked_by}
use Rattle.registry_commands.proofs.listing.sources_for.Goals as goal

pub returns-in-Err-Blocked-clause-refused : goal.returns-in-Err-Blocked-clause-refused
returns-in-Err-Blocked-clause-refused c =
    is_blocked_by c.args.conf.now c.args.repository.now c.in-Err-Blocked.number c.sources.result (cc) c.sources.ensures.exact c.sources.ensures.rules
