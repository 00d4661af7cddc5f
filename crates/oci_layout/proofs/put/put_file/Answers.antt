use Rattle.std.proofs.Common.{rules}
use Rattle.skopeo_outside.specs.Outside.{Told}
use Rattle.layouts.specs.Trees.{OnlyAt}
use Rattle.layouts.proofs.PutLemmas.{part_only}
use Rattle.oci_layout.proofs.put.put_file.Goals as goal

pub returns-in_err-rename-clause-kept : goal.returns-in_err-rename-clause-kept
returns-in_err-rename-clause-kept g c =
    let only : Told (OnlyAt c.args.part.now) (g.F.Files.tree c.args.files.now) (g.F.Files.tree c.rename.new.self) =
    part_only c.args.part.now c.args.bytes.now _ _ _ _ c.in_ok-create.ensures.made c.in_ok-append.ensures.added c.in_err-rename.ensures.kept in
    search rules
