use Rattle.std.proofs.Common.{rules}
use Rattle.registry_commands.proofs.ListLemmas.{lists_rewritten, lists_unasked, lists_asked}
use Rattle.registry_commands.proofs.listing.tags_at.Goals as goal

pub returns-in_default-clause-ends : goal.returns-in_default-clause-ends
returns-in_default-clause-ends g c =
    λ conf r primary. lists_rewritten conf c.args.tls r c.args.source.now c.in_ok-attempts.attempts c.args.lane.now.from (search rules) c.in_ok-attempts.ensures.is primary

pub returns-then-not-may_ask-clause-ends : goal.returns-then-not-may_ask-clause-ends
returns-then-not-may_ask-clause-ends g c =
    λ conf r primary. lists_unasked conf c.args.tls r c.args.source.now c.in-Some.reference c.in_ok-host.host c.args.lane.now.from (search rules) (search rules) (search rules) primary

pub returns-clause-ends : goal.returns-clause-ends
returns-clause-ends g c =
    λ conf r primary. lists_asked conf c.args.tls r c.args.source.now c.in-Some.reference c.args.lane.now.from c.ask_tags.new.lane.from c.ask_tags.result (search rules) (search rules) c.ask_tags.ensures.come primary
