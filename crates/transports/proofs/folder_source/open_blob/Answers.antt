use Rattle.std.proofs.Common.{rules, ◌≡◌, Some, IfSome, length}
use Rattle.std.specs.Option.{option_map}
use Rattle.skopeo_outside.specs.Tree.{file_at}
use Rattle.layouts.specs.Paths.{blob_path}
use Rattle.transports.proofs.BlobLemmas.{blob_opened}
use Rattle.transports.proofs.folder_source.open_blob.Goals as goal

pub returns-clause-opened : goal.returns-clause-opened
returns-clause-opened g c =
    let is : c.in_ok-path.path ≡ blob_path c.args.folder.now c.args.job.now.digest = search rules in
    let some : IfSome c.args.lane.now.files.tree (λ t. Some c.in-Ok-Some.field-0-0 ≡ option_map length (file_at t c.in_ok-path.path)) = search rules in
    blob_opened c.args.folder.now c.in_ok-path.path c.args.job.now c.args.lane.now _ c.in-Ok-Some.field-0-0 is (search rules) some (search rules)
