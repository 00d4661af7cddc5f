use Rattle.std.proofs.Common.{ap, sym, ◌∙◌}
use Rattle.http_exchange.specs.Calls.{Opened}
use Rattle.http_exchange.specs.Reader.{is_over}
use Rattle.http_exchange.proofs.CallLemmas.{piece_fault, no_fault_failed}
use Rattle.http_exchange.proofs.answer.next_piece.Goals as goal

pub returns-in-Err-clause-piece : goal.returns-in-Err-clause-piece
returns-in-Err-clause-piece g c =
    piece_fault _ _ c.args.answer.now (record { status = c.answer.inside.status; step = c.answer.inside.step; reader = c.read_piece.new.self })
    c.stop.new.self c.answer.inside.body c.read_piece.new.into c.in-Err.fault c.stop.result
    (ap (λ (a : Opened). a.reader) c.answer.view_is) (ap (λ (a : Opened). a.status) c.answer.view_is) (ap (λ (a : Opened). a.step) c.answer.view_is)
    c.stop.ensures.same.0 c.stop.ensures.same.1 c.stop.ensures.same.2 c.stop.ensures.shown c.in-Err.ensures.piece

pub returns-in-Err-clause-keeps : goal.returns-in-Err-clause-keeps
returns-in-Err-clause-keeps g c = record {
  ready = λ none _. absurd (no_fault_failed c.stop.ensures.stays.0 (sym c.stop.ensures.stays.1 ∙ none));
  more = tt;
  closed = λ alive going. c.in-Err.ensures.keeps.closed (ap (λ (a : Opened). a.reader.failed) c.answer.view_is ∙ alive)
      (ap (λ (a : Opened). is_over a.reader.state) c.answer.view_is ∙ going);
}
