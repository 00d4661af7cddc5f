use Rattle.http_message.proofs.RequestHeads.{one_head, puts_none, deletes_none}
use Rattle.http_message.proofs.law.one_head.Goals as goal

pub returns : goal.returns
returns c = record { head = one_head; puts_none = puts_none; deletes_none = deletes_none }
