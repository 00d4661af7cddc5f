use Rattle.policy_gate.proofs.ReasonLaw.{match_read, unread_matches}
use Rattle.policy_gate.proofs.reason.is_text_match.Goals as goal

pub returns-in-Ok : goal.returns-in-Ok
returns-in-Ok c = match_read c.args.rule.now _ c.args.text.now c.in-Ok.signed c.matches.result c.in-Ok.ensures.exact c.matches.ensures.exact

pub returns-in-Err : goal.returns-in-Err
returns-in-Err c = unread_matches c.args.rule.now _ c.args.text.now c.in-Err.fault c.unread.result c.in-Err.ensures.exact c.unread.ensures
