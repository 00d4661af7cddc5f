use Rattle.std.proofs.Common.{◌∙◌, ap, sym}
use Rattle.serde_json.specs.Written.{compact_text}
use Rattle.json_tree.specs.Tree.{tree}
use Rattle.json_tree.proofs.TreeLemmas.{tree_some}
use Rattle.manifest_v2s2.specs.Image.{image_of}
use Rattle.manifest_v2s2.proofs.WrittenLemmas.{plain_image, shallow_enough}
use Rattle.manifest_v2s2.proofs.RoundTrip.{image-again}
use Rattle.manifest_v2s2.proofs.write.write_image.Goals as goal

pub returns : goal.returns
returns c =
    let seen = c.in_ok-value.ensures.value in
    let plain = plain_image c.args.image.now in
    let written = c.in_ok-to_vec.ensures in
    let shallow = shallow_enough _ plain in
    let read_back = rw seen at (written.reads_back (rw seen shallow)) in
    let standing = ap tree c.from_vec.ensures ∙ sym (tree_some _ _ written.utf8 read_back) in
    record {
      text = c.from_vec.ensures ∙ written.text (rw seen plain.whole) ∙ ap compact_text seen;
      tree = standing;
      again = λ w. ap (image_of c.args.image.now.kind) standing ∙ image-again _ c.in_ok-value.ensures.digests w;
    }
