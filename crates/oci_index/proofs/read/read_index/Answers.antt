use Rattle.json_tree.specs.Parsed.{tree_of}
use Rattle.oci_index.specs.Reading.{index_of}
use Rattle.oci_index.proofs.IndexLemmas.{tells-index}
use Rattle.oci_index.proofs.read.read_index.Goals as goal

pub returns-clause-format : goal.returns-clause-format
unfolding index_of
returns-clause-format c =
    tells-index (tree_of c.args.parsed.now) c.where_whole.result
    (c.where_whole.ensures _ _ (c.where_index.ensures _ _ c.kind_of_parsed-kind.ensures.exact c.entries_in-entries.ensures) c.numbers_in-numbers.ensures)
