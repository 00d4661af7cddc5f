use Rattle.std.proofs.Common.{◌≡◌, ◌∙◌}
use Rattle.oci_layout.specs.Layout.{blob_path}
use Rattle.oci_layout.specs.Source.{fetched}
use Rattle.oci_layout.proofs.FoundLemmas.{found_read, finds_is}
use Rattle.oci_layout.proofs.source.read_blob.Goals as goal

pub returns-clause-read : goal.returns-clause-read
returns-clause-read g c =
    let path : c.as_str.result.now ≡ blob_path c.args.folder.now c.args.digest.now = c.as_str.ensures ∙ c.in_ok-path.ensures in
    found_read (g.F.Files.tree c.args.files.now) (fetched c.args.digest.now c.args.media) _ _ _ _ path c.in_ok-file.ensures.bytes (finds_is _ _ c.fetched.ensures.is c.fetched.ensures.of_bytes)
