use Rattle.manifest_list.proofs.entry.entry_in.Goals as goal

pub returns : goal.returns
returns c = λ known are.
    let size = c.size_member-size.ensures.exact known are in
    let media = c.at-media.ensures _ (rw c.get.ensures at c.read_text-text.ensures) in
    let platform = c.at-platform.ensures _ (rw c.get-2.ensures at c.read_platform-read.ensures) in
    let behind = c.both.ensures _ _ size c.urls_member.ensures.exact in
    let last = c.both-last.ensures _ _ platform behind in
    let middle = c.both-2.ensures _ _ media last in
    let later = c.both-later.ensures _ _ c.digest_member-digest.ensures.exact middle in
    c.entry_with.ensures _ (c.both-3.ensures _ _ c.annotations_member-annotations.ensures.exact later)
