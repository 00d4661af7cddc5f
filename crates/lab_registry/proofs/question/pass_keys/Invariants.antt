use Rattle.lab_registry.specs.Question.{HasKeys}
use Rattle.lab_registry.proofs.question.pass_keys.Given as goal

-- so many keys were passed
abbrev pub invariant-loop : goal.invariant-loop
invariant-loop l = HasKeys l.bytes l.counter l.left
