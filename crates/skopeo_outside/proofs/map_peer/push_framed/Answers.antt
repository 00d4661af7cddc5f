use Rattle.std.proofs.Common.{◌≡◌, ◌++◌, codes, length, max, rules}
use Rattle.std.specs.Int.{div_ceil}
use Rattle.skopeo_outside.specs.Peer.{line_end, chunks}
use Rattle.skopeo_outside.proofs.Answering.{three_pieces}
use Rattle.skopeo_outside.proofs.map_peer.push_framed.Goals as goal

pub returns-in_ok-extend-in-Chunks-2 : goal.returns-in_ok-extend-in-Chunks-2
returns-in_ok-extend-in-Chunks-2 c =
    let size = max c.in-Chunks.size 1 in
    let pieces = chunks (div_ceil (length c.args.body.now) size) size c.args.body.now in
    let middle : c.push_chunks.new.into ≡ c.extend-in-Chunks.new.self ++ pieces = search rules in
    rw c.in-Chunks.is (three_pieces c.args.into.now c.extend-in-Chunks.new.self c.push_chunks.new.into c.extend-in-Chunks-2.new.self
    (codes "Transfer-Encoding: chunked" ++ (line_end ++ line_end)) pieces (codes "0" ++ (line_end ++ line_end))
    c.in_ok-extend-in-Chunks.ensures.ok middle c.in_ok-extend-in-Chunks-2.ensures.ok)
