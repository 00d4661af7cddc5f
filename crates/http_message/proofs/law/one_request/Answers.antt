use Rattle.http_message.proofs.LaxHeads.{holds_one}
use Rattle.http_message.proofs.law.one_request.Goals as goal

pub returns : goal.returns
returns c = record { holds = holds_one }
