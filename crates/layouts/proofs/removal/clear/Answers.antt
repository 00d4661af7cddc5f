use Rattle.std.proofs.Common.{rules}
use Rattle.layouts.proofs.ClearLemmas.{told_first_cut, told_second_cut, told_third_cut, told_cleared}
use Rattle.layouts.proofs.removal.clear.Goals as goal

pub returns-in_err-remove_sort-clause-kept : goal.returns-in_err-remove_sort-clause-kept
returns-in_err-remove_sort-clause-kept g c =
    let cut = told_first_cut c.args.folder.now c.args.entries.now _ _ c.requires.lists c.in_err-remove_sort.ensures.kept in
    search (rules, cut)

pub returns-in_err-remove_sort-2-clause-kept : goal.returns-in_err-remove_sort-2-clause-kept
returns-in_err-remove_sort-2-clause-kept g c =
    let cut = told_second_cut c.args.folder.now c.args.entries.now _ _ _ c.requires.lists c.in_ok-remove_sort.ensures.removed c.in_err-remove_sort-2.ensures.kept in
    search (rules, cut)

pub returns-in_err-remove_sort-3-clause-kept : goal.returns-in_err-remove_sort-3-clause-kept
returns-in_err-remove_sort-3-clause-kept g c =
    let cut = told_third_cut c.args.folder.now c.args.entries.now _ _ _ _ c.requires.lists c.in_ok-remove_sort.ensures.removed c.in_ok-remove_sort-2.ensures.removed c.in_err-remove_sort-3.ensures.kept in
    search (rules, cut)

pub returns-clause-cleared : goal.returns-clause-cleared
returns-clause-cleared g c = told_cleared c.args.folder.now c.args.entries.now _ _ _ _ c.requires.lists c.in_ok-remove_sort.ensures.removed c.in_ok-remove_sort-2.ensures.removed c.in_ok-remove_sort-3.ensures.removed
