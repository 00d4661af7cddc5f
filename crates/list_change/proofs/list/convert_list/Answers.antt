use Rattle.std.proofs.lemmas.Result.{err_from_is_err_and}
use Rattle.manifest_change.specs.Changed.{Answers}
use Rattle.list_change.specs.Changed.{list_converted}
use Rattle.list_change.proofs.EntryLemmas.{by-rows, fault-answers, text-answers, text-made}
use Rattle.list_change.proofs.list.convert_list.Goals as goal

pub returns-in_err-new-clause-exact : goal.returns-in_err-new-clause-exact
returns-in_err-new-clause-exact c =
    let p = err_from_is_err_and c.from_residual.result c.from_residual.ensures.1 in
    rw (p.1, p.2) (fault-answers _ _ _ _ c.in_err-new.ensures)

pub returns-in_err-new-clause-rows : goal.returns-in_err-new-clause-rows
returns-in_err-new-clause-rows c =
    let p = err_from_is_err_and c.from_residual.result c.from_residual.ensures.1 in
    let fault : Answers c.from_residual.result (list_converted c.args.to c.args.list.now c.args.written.now) = rw (p.1, p.2) (fault-answers _ _ _ _ c.in_err-new.ensures) in
    by-rows _ _ _ _ fault

pub returns-clause-exact : goal.returns-clause-exact
returns-clause-exact c = text-answers _ _ _ _ _ c.in_ok-new.ensures c.in_ok-write_list.ensures.text

pub returns-clause-rows : goal.returns-clause-rows
returns-clause-rows c = text-made _ _ _ _ (text-answers _ _ _ _ _ c.in_ok-new.ensures c.in_ok-write_list.ensures.text)
