use Rattle.std.proofs.Common.{sym, ◌∙◌}
use Rattle.image_ref.proofs.DomainLaw.{is_domain-to, is_domain-from}
use Rattle.image_ref.proofs.domain.is_domain.Goals as goal

pub returns-clause-grammar : goal.returns-clause-grammar
returns-clause-grammar c =
    let test = c.is_labels_and_port.ensures in
    (λ h. is_domain-to c.args.text.now (sym test ∙ h), λ d. test ∙ is_domain-from c.args.text.now d)
