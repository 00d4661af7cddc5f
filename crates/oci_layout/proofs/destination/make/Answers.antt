use Rattle.std.proofs.Common.{rules, ◌≡◌, ◌∙◌, true, false, option_map}
use Rattle.skopeo_outside.specs.Outside.{Told}
use Rattle.skopeo_outside.specs.Tree.{with_folder}
use Rattle.layouts.specs.Trees.{IsPut, OnlyAt}
use Rattle.oci_index.specs.Version.{layout_text}
use Rattle.oci_layout.specs.Layout.{blobs_folder, layout_part, layout_path}
use Rattle.oci_layout.proofs.MadeLemmas.{told_folder_alone, told_both_there, told_half_cut}
use Rattle.oci_layout.proofs.destination.make.Goals as goal

pub returns-then-not-absent-clause-made : goal.returns-then-not-absent-clause-made
returns-then-not-absent-clause-made g c =
    let blobs : c.in_ok-blobs.blobs ≡ blobs_folder c.args.folder.now = c.in_ok-blobs.ensures in
    let absent : c.args.absent ≡ false = search rules in
    let made : g.F.Files.tree c.make_dir.new.self ≡ option_map (λ t. with_folder t (blobs_folder c.args.folder.now)) (g.F.Files.tree c.args.files.now) = rw (← blobs, ← c.as_str.ensures) c.in_ok-make_dir.ensures.made in
    told_folder_alone c.args.folder.now c.args.absent _ _ absent made

pub returns-clause-made : goal.returns-clause-made
returns-clause-made g c =
    let blobs : c.in_ok-blobs.blobs ≡ blobs_folder c.args.folder.now = c.in_ok-blobs.ensures in
    let part : c.in_ok-part.part ≡ layout_part c.args.folder.now = c.in_ok-part.ensures in
    let path : c.in_ok-path.path ≡ layout_path c.args.folder.now = c.in_ok-path.ensures in
    let absent : c.args.absent ≡ true = search rules in
    let made : g.F.Files.tree c.make_dir.new.self ≡ option_map (λ t. with_folder t (blobs_folder c.args.folder.now)) (g.F.Files.tree c.args.files.now) = rw (← blobs, ← c.as_str.ensures) c.in_ok-make_dir.ensures.made in
    let put : Told (IsPut (layout_part c.args.folder.now) (layout_path c.args.folder.now) layout_text) (g.F.Files.tree c.make_dir.new.self) (g.F.Files.tree c.put_file.new.files) = rw (← part, ← path, ← c.as_str-2.ensures, ← c.as_str-3.ensures) c.in_ok-put_file.ensures.put in
    told_both_there c.args.folder.now c.args.absent _ _ _ absent made put

pub returns-in_err-put_file-clause-kept : goal.returns-in_err-put_file-clause-kept
returns-in_err-put_file-clause-kept g c =
    let blobs : c.in_ok-blobs.blobs ≡ blobs_folder c.args.folder.now = c.in_ok-blobs.ensures in
    let part : c.in_ok-part.part ≡ layout_part c.args.folder.now = c.in_ok-part.ensures in
    let made : g.F.Files.tree c.make_dir.new.self ≡ option_map (λ t. with_folder t (blobs_folder c.args.folder.now)) (g.F.Files.tree c.args.files.now) = rw (← blobs, ← c.as_str.ensures) c.in_ok-make_dir.ensures.made in
    let only : Told (OnlyAt (layout_part c.args.folder.now)) (g.F.Files.tree c.make_dir.new.self) (g.F.Files.tree c.put_file.new.files) = rw (← part, ← c.as_str-2.ensures) c.in_err-put_file.ensures.kept in
    let cut = told_half_cut c.args.folder.now (g.F.Files.tree c.args.files.now) _ _ made only in
    search (rules, cut)
