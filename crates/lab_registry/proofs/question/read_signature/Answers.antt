use Rattle.std.proofs.Common.{rules, ◌≡◌, ◌++◌, ◌∷◌, [], codes}
use Rattle.lab_registry.specs.Question.{line, part, HasKeys}
use Rattle.lab_registry.proofs.QuestionLemmas.{is_question}
use Rattle.lab_registry.proofs.question.read_signature.Goals as goal

pub returns : goal.returns
returns c =
    let version : c.args.bytes.now ≡ line (codes "skopeo-verify ") 1 ++ c.in_ok-version.left.now = search rules in
    let count : c.in_ok-version.left.now ≡ line (codes "keys ") c.in_ok-count.count ++ c.in_ok-count.left.now = search rules in
    let keys : HasKeys c.in_ok-count.left.now c.in_ok-count.count c.in_ok-left.left.now = search rules in
    let asked : c.in_ok-left.left.now ≡ part (codes "signature ") c.in_ok-signature.signature.now ++ c.in_ok-signature.left.now = search rules in
    let ended : c.in_ok-signature.left.now ≡ codes "end" ++ (10 ∷ []) = search rules in
    is_question c.args.bytes.now c.in_ok-version.left.now c.in_ok-count.left.now c.in_ok-left.left.now c.in_ok-signature.left.now c.in_ok-signature.signature.now c.in_ok-count.count version count keys asked ended
