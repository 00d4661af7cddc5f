use Rattle.std.proofs.Common.{true}
use Rattle.http_message.specs.declared.fault.AnswerFault.TheVariants.{HeadTooLong}
use Rattle.http_exchange.proofs.Rounds.{stops_found}
use Rattle.http_exchange.proofs.Ends.{overlong_found}
use Rattle.http_exchange.proofs.block.overlong.Goals as goal

pub returns-then-branch-clause-received : goal.returns-then-branch-clause-received
returns-then-branch-clause-received g c =
    let q = rw c.if-branch.true at c.in_ok-pass_one.ensures.received in
    stops_found _ _ _ _ true (HeadTooLong 65537) q
    (λ all ended p. overlong_found c.args.ending c.args.inbox.now.waiting all ended c.requires.full c.requires.none p)
