use Rattle.std.proofs.lemmas.Result.{err_from_is_err_and}
use Rattle.manifest_change.specs.Changed.{Answers, converted}
use Rattle.manifest_change.proofs.ChangeLemmas.{by-rows, fault-answers, text-answers, text-made}
use Rattle.manifest_change.proofs.BackLemmas.{read-again}
use Rattle.manifest_change.proofs.written.convert.Goals as goal

pub returns-in_err-new-clause-exact : goal.returns-in_err-new-clause-exact
returns-in_err-new-clause-exact c =
    let p = err_from_is_err_and c.from_residual.result c.from_residual.ensures.1 in
    rw (p.1, p.2) (fault-answers _ _ _ c.in_err-new.ensures)

pub returns-in_err-new-clause-rows : goal.returns-in_err-new-clause-rows
returns-in_err-new-clause-rows c =
    let p = err_from_is_err_and c.from_residual.result c.from_residual.ensures.1 in
    let fault : Answers c.from_residual.result (converted c.args.to c.args.image.now) = rw (p.1, p.2) (fault-answers _ _ _ c.in_err-new.ensures) in
    by-rows _ _ _ fault

pub returns-clause-exact : goal.returns-clause-exact
returns-clause-exact c = text-answers _ _ _ _ c.in_ok-new.ensures c.in_ok-write_image.ensures.text

pub returns-clause-rows : goal.returns-clause-rows
returns-clause-rows c = text-made _ _ _ (text-answers _ _ _ _ c.in_ok-new.ensures c.in_ok-write_image.ensures.text)

pub returns-clause-again : goal.returns-clause-again
returns-clause-again c = λ d says. read-again _ _ d _ _ _ c.in_ok-new.ensures says c.in_ok-write_image.ensures.again
