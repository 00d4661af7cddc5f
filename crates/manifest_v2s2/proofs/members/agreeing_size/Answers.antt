use Rattle.manifest_v2s2.proofs.members.agreeing_size.Goals as goal

pub returns : goal.returns
returns c = λ known are.
    let digest = rw c.get.ensures at c.read_digest_member-digest.ensures in
    let whole = rw c.get-2.ensures at c.read_whole-size.ensures in
    c.agreeing.ensures _ _ _ are digest whole
