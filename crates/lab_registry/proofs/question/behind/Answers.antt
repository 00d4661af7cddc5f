use Rattle.std.proofs.Common.{rules, ◌≡◌, ◌≤◌, length, take}
use Rattle.lab_registry.proofs.QuestionLemmas.{behind_word}
use Rattle.lab_registry.proofs.question.behind.Goals as goal

pub returns-then-eq : goal.returns-then-eq
returns-then-eq c =
    let few : length c.args.word.now ≤ length c.args.bytes.now = search rules in
    let same : take (length c.args.word.now) c.args.bytes.now ≡ c.args.word.now = search rules in
    behind_word c.args.bytes.now c.args.word.now few same
