use Rattle.http_exchange.proofs.RoomLemmas.{moved_front}
use Rattle.http_exchange.proofs.inbox.move_front.Goals as goal

pub returns-clause-front : goal.returns-clause-front
returns-clause-front c =
    moved_front c.args.at c.args.end c.args.buffer.now c.copy_within.new.self c.requires.waits c.requires.within c.copy_within.ensures.after
