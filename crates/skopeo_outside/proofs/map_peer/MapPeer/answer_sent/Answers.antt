use Rattle.std.proofs.Common.{◌≡◌, ◌∙◌, ◌++◌, List, ℕ, ap, codes, sym, subst, rules}
use Rattle.std.specs.Str.{IsUtf8}
use Rattle.skopeo_outside.specs.Peer.{first_line, bare, line_answer}
use Rattle.skopeo_outside.proofs.Answering.{text_answered, other_answered}
use Rattle.skopeo_outside.proofs.map_peer.MapPeer.answer_sent.Goals as goal

pub returns-in_ok-answer_line-in-Ok : goal.returns-in_ok-answer_line-in-Ok
returns-in_ok-answer_line-in-Ok c =
    let line : c.first_line.result.now ≡ first_line c.args.sent.now = search rules in
    let same : c.in-Ok.line.now ≡ first_line c.args.sent.now = c.in-Ok.ensures.cases.0 ∙ line in
    let text : IsUtf8 (first_line c.args.sent.now) = subst IsUtf8 line c.in-Ok.ensures.cases.1 in
    let added : c.answer_line.new.into ≡ c.args.into.now ++ line_answer c.args.self.now c.in-Ok.line.now = search rules in
    added ∙ ap (λ (x : List ℕ). c.args.into.now ++ x) (text_answered c.args.self.now c.args.sent.now c.in-Ok.line.now same text)

pub returns-in_ok-push_bare-in-Err : goal.returns-in_ok-push_bare-in-Err
returns-in_ok-push_bare-in-Err c =
    let line : c.first_line.result.now ≡ first_line c.args.sent.now = search rules in
    let other : ¬ (IsUtf8 (first_line c.args.sent.now)) = λ u. c.in-Err.ensures.cases.0 (subst IsUtf8 (sym line) u) in
    let added : c.push_bare.new.into ≡ c.args.into.now ++ bare (codes "400 Bad Request") = c.in_ok-push_bare-in-Err.ensures in
    added ∙ ap (λ (x : List ℕ). c.args.into.now ++ x) (other_answered c.args.self.now c.args.sent.now other)
