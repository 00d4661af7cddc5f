use Rattle.std.proofs.Common.{◌∙◌, ap, sym}
use Rattle.serde_json.specs.Written.{compact_text}
use Rattle.json_tree.specs.Tree.{tree}
use Rattle.json_tree.proofs.TreeLemmas.{tree_some}
use Rattle.manifest_list.proofs.WrittenLemmas.{plain_list, shallow_list}
use Rattle.manifest_list.proofs.write.write_list.Goals as goal

pub returns : goal.returns
returns c =
    let seen = c.in_ok-value.ensures in
    let plain = plain_list c.args.list.now in
    let written = c.in_ok-to_vec.ensures in
    let shallow = shallow_list _ plain in
    let read_back = rw seen at (written.reads_back (rw seen shallow)) in
    let standing = ap tree c.from_vec.ensures ∙ sym (tree_some _ _ written.utf8 read_back) in
    record {
      text = c.from_vec.ensures ∙ written.text (rw seen plain.whole) ∙ ap compact_text seen;
      tree = standing;
    }
