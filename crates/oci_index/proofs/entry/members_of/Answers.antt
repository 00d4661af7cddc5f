use Rattle.oci_index.proofs.entry.members_of.Goals as goal

pub returns : goal.returns
returns c = λ known are.
    let annotations = rw c.get.ensures at c.read_annotations-annotations.ensures in
    let digest = rw c.get-2.ensures at c.read_digest_member-digest.ensures in
    let media = rw c.get-3.ensures at c.read_text-media.ensures in
    let platform = rw c.get-4.ensures at c.check_platform-platform.ensures in
    let whole = rw c.get-5.ensures at c.read_whole.ensures in
    let urls = rw c.get-6.ensures at c.read_urls-urls.ensures in
    let size = c.agreeing-size.ensures _ _ _ are digest whole in
    let last = c.both-last.ensures _ _ (c.at.ensures _ size) (c.at-2.ensures _ urls) in
    let behind = c.both-behind.ensures _ _ (c.at-3.ensures _ platform) last in
    let later = c.both-later.ensures _ _ (c.at-4.ensures _ digest) (c.both.ensures _ _ (c.at-5.ensures _ media) behind) in
    c.made.ensures _ (c.both-2.ensures _ _ (c.at-6.ensures _ annotations) later)
