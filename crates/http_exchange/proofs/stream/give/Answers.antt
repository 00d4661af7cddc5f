use Rattle.std.proofs.Common.{[], false, sym, subst, List, ℕ}
use Rattle.skopeo_outside.proofs.WireLemmas.{receives_none, append_none}
use Rattle.http_exchange.specs.Received.{Notes}
use Rattle.http_exchange.specs.Found.{Given}
use Rattle.http_exchange.proofs.Rounds.{noted_none}
use Rattle.http_exchange.proofs.stream.give.Goals as goal

pub returns-then-len-gt0-clause-received : goal.returns-then-len-gt0-clause-received
returns-then-len-gt0-clause-received g c = record {
  added = [];
  ended = false;
  told = receives_none _;
  noted = subst (λ (f : List ℕ). Notes c.args.inbox.now.first [] f) (sym c.take_waiting.ensures.first) (noted_none c.args.inbox.now.first);
  gives = subst (λ (all : List ℕ). Given c.args.most c.take_waiting.new.into c.take_waiting.new.inbox.waiting c.take_waiting.result all false)
      (sym (append_none c.args.inbox.now.waiting)) c.take_waiting.ensures.given;
}
