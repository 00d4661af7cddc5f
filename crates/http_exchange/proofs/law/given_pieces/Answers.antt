use Rattle.http_exchange.proofs.JoinLaws.{pieces_give_body, pieces_give_fault}
use Rattle.http_exchange.proofs.law.given_pieces.Goals as goal

pub returns : goal.returns
returns c = record { body = pieces_give_body; fault = pieces_give_fault }
