use Rattle.std.proofs.Common.{rules, ◌≡◌, ◌∙◌}
use Rattle.oci_layout.specs.Layout.{layout_path, index_path}
use Rattle.oci_layout.proofs.JudgedLemmas.{layout_refused, index_refused, both_fine}
use Rattle.oci_layout.proofs.destination.judge.Goals as goal

pub returns-in_err-absent-clause-judged : goal.returns-in_err-absent-clause-judged
returns-in_err-absent-clause-judged g c =
    let path : c.as_str.result.now ≡ layout_path c.args.folder.now = c.as_str.ensures ∙ c.in_ok-path.ensures in
    let refused = layout_refused (g.F.Files.tree c.args.files.now) c.args.folder.now _ _ _ path c.in_ok-file.ensures.bytes c.in_err-absent.ensures in
    search (rules, refused)

pub returns-in_err-kept_index-clause-judged : goal.returns-in_err-kept_index-clause-judged
returns-in_err-kept_index-clause-judged g c =
    let path : c.as_str.result.now ≡ layout_path c.args.folder.now = c.as_str.ensures ∙ c.in_ok-path.ensures in
    let place : c.as_str-2.result.now ≡ index_path c.args.folder.now = c.as_str-2.ensures ∙ c.in_ok-path-2.ensures in
    let refused = index_refused (g.F.Files.tree c.args.files.now) _ c.args.folder.now _ _ _ _ _ _ c.in_ok-file.ensures.same path place c.in_ok-file.ensures.bytes c.in_ok-file-2.ensures.bytes c.in_ok-absent.ensures c.in_err-kept_index.ensures.keeps in
    search (rules, refused)

pub returns-clause-judged : goal.returns-clause-judged
returns-clause-judged g c =
    let path : c.as_str.result.now ≡ layout_path c.args.folder.now = c.as_str.ensures ∙ c.in_ok-path.ensures in
    let place : c.as_str-2.result.now ≡ index_path c.args.folder.now = c.as_str-2.ensures ∙ c.in_ok-path-2.ensures in
    both_fine (g.F.Files.tree c.args.files.now) _ c.args.folder.now _ _ _ _ _ _ c.in_ok-file.ensures.same path place c.in_ok-file.ensures.bytes c.in_ok-file-2.ensures.bytes c.in_ok-absent.ensures c.in_ok-kept_index.ensures.keeps
