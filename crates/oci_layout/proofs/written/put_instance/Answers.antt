use Rattle.std.proofs.Common.{rules}
use Rattle.digest_reader.specs.Digests.{digest}
use Rattle.oci_layout.proofs.PutLemmas.{told_blob_cut}
use Rattle.oci_layout.proofs.written.put_instance.Goals as goal

pub returns-in_err-put_blob-clause-kept : goal.returns-in_err-put_blob-clause-kept
returns-in_err-put_blob-clause-kept g c =
    let cut = told_blob_cut c.args.folder.now (digest c.args.bytes.now) c.args.bytes.now _ _ (rw c.digest_of-digest.ensures at c.in_err-put_blob.ensures.kept) in
    search (rules, cut)
