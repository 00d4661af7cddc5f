use Rattle.std.proofs.Common.{arith, sym, ◌∙◌}
use Rattle.std.proofs.lemmas.Bool.{false≢true}
use Rattle.http_message.proofs.LaxHeads.{shown_may, may_counted, may_shown, may_counts}
use Rattle.http_message.proofs.request.may_send.Goals as goal

pub returns-then-is_shown-clause-may : goal.returns-then-is_shown-clause-may
returns-then-is_shown-clause-may c = (
  λ h. shown_may c.args.request.now c.args.size (sym c.is_shown.ensures ∙ c.if-is_shown.true) (sym c.counts.ensures ∙ h) (omega arith),
  λ m. c.counts.ensures ∙ may_counts c.args.request.now c.args.size m,
)

pub returns-then-is_shown-clause-counted : goal.returns-then-is_shown-clause-counted
returns-then-is_shown-clause-counted c = λ h. may_counted c.args.request.now c.args.size
    (shown_may c.args.request.now c.args.size (sym c.is_shown.ensures ∙ c.if-is_shown.true) (sym c.counts.ensures ∙ h) (omega arith))

pub returns-clause-may : goal.returns-clause-may
returns-clause-may c = (λ h. absurd (false≢true h), λ m. absurd (false≢true (sym c.if-is_shown.false ∙ c.is_shown.ensures ∙ may_shown c.args.request.now c.args.size m)))
