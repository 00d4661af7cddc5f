use Rattle.oci_layout.proofs.JudgedLemmas.{kept_ok}
use Rattle.oci_layout.proofs.index.kept_bytes.Goals as goal

pub returns-in-Ok-clause-keeps : goal.returns-in-Ok-clause-keeps
returns-in-Ok-clause-keeps c = kept_ok c.args.bytes.now c.in_ok-parsed.parsed _ c.in_ok-parsed.ensures (c.in-Ok.ensures _ c.read_index.ensures.exact)
