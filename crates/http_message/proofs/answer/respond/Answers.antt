use Rattle.std.proofs.Common.{List, map, ap, ◌∙◌}
use Rattle.http_message.specs.declared.head.Field.{Field}
use Rattle.http_message.specs.Shown.{field_bytes}
use Rattle.http_message.proofs.ToldLemmas.{answer_is}
use Rattle.http_message.proofs.answer.respond.Goals as goal

pub returns-clause-answer : goal.returns-clause-answer
returns-clause-answer c = λ h shows. answer_is c.args.head.now.status _ _ c.args.body h shows.status c.in_ok-headers.ensures
    (ap (λ (w : List Field). map field_bytes w) c.deref.ensures.value ∙ shows.fields)
