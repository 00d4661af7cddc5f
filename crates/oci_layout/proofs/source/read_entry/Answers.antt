use Rattle.std.proofs.Common.{◌≡◌, ◌∙◌, option_map}
use Rattle.oci_index.specs.Chosen.{chosen}
use Rattle.oci_layout.specs.Layout.{index_path}
use Rattle.oci_layout.specs.Source.{followed, source_index, by_name}
use Rattle.oci_layout.proofs.FoundLemmas.{found_read}
use Rattle.oci_layout.proofs.source.read_entry.Goals as goal

pub returns-clause-read : goal.returns-clause-read
returns-clause-read g c =
    let path : c.as_str.result.now ≡ index_path c.args.folder.now = c.as_str.ensures ∙ c.in_ok-path.ensures in
    found_read (g.F.Files.tree c.args.files.now) (λ file. followed (source_index file) (λ entries. by_name (chosen (option_map (λ t. t.now) c.args.name) entries))) _ _ _ _ path c.in_ok-file.ensures.bytes c.pick.ensures
