use Rattle.http_exchange.proofs.JoinLaws.{pieces_exchange, pieces_front, pieces_hold_one, part_holds_one}
use Rattle.http_exchange.proofs.law.sent_pieces.Goals as goal

pub returns : goal.returns
returns c = record { exchange = pieces_exchange; front = pieces_front; one = pieces_hold_one; part = part_holds_one }
