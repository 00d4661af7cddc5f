use Rattle.oci_index.proofs.EditedLemmas.{array_items}
use Rattle.oci_index.proofs.edit.kept_at.Goals as goal

pub returns-in-Array : goal.returns-in-Array
returns-in-Array c =
    let there = array_items c.args.manifests c.in-Some.manifests c.in-Array.entries c.in-Some.is c.in-Array.is in
    rw there (rw c.as_slice.ensures.value at c.kept.ensures)
