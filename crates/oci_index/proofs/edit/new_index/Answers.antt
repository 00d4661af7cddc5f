use Rattle.std.proofs.Common.{◌∙◌, ap, sym}
use Rattle.serde_json.specs.Written.{compact_text}
use Rattle.json_tree.specs.Tree.{tree}
use Rattle.json_tree.proofs.TreeLemmas.{tree_some}
use Rattle.oci_index.proofs.EditedLemmas.{writable}
use Rattle.oci_index.proofs.edit.new_index.Goals as goal

pub returns : goal.returns
returns c =
    let seen = c.in_ok-value.ensures in
    let plain = writable _ c.args.entry.now c.requires.writable in
    let written = c.in_ok-to_vec.ensures in
    let read_back = rw seen at (written.reads_back (rw seen plain.shallow)) in
    record {
      text = c.from_vec.ensures ∙ written.text (rw seen plain.whole) ∙ ap compact_text seen;
      tree = ap tree c.from_vec.ensures ∙ sym (tree_some _ _ written.utf8 read_back);
    }
