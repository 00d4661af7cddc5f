use Rattle.std.proofs.Common.{rules, ◌∙◌}
use Rattle.layouts.proofs.DestinationLemmas.{told_ready, told_cut, told_made_cut, told_same}
use Rattle.layouts.proofs.destination.prepare_dir.Goals as goal

pub returns-in_err-list-clause-kept : goal.returns-in_err-list-clause-kept
returns-in_err-list-clause-kept g c =
    let cut = told_same c.args.folder.now _ _ c.list.ensures.same in
    search (rules, cut)

pub returns-in_err-judge-clause-kept : goal.returns-in_err-judge-clause-kept
returns-in_err-judge-clause-kept g c =
    let cut = told_same c.args.folder.now _ _ (c.judge.ensures.same ∙ c.list.ensures.same) in
    search (rules, cut)

pub returns-in_err-clear-clause-kept : goal.returns-in_err-clear-clause-kept
returns-in_err-clear-clause-kept g c =
    let cut = told_cut c.args.folder.now _ _ _ (c.judge.ensures.same ∙ c.list.ensures.same) c.in_err-clear.ensures.kept in
    search (rules, cut)

pub returns-in_err-make_folder-clause-kept : goal.returns-in_err-make_folder-clause-kept
returns-in_err-make_folder-clause-kept g c =
    let cut = told_made_cut c.args.folder.now _ _ _ _ (c.judge.ensures.same ∙ c.list.ensures.same) c.in_ok-clear.ensures.cleared c.in_err-make_folder.ensures.kept in
    search (rules, cut)

pub returns-clause-ready : goal.returns-clause-ready
returns-clause-ready g c = told_ready c.args.folder.now _ _ _ _ (c.judge.ensures.same ∙ c.list.ensures.same) c.in_ok-clear.ensures.cleared c.in_ok-make_folder.ensures.made
