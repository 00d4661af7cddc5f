use Rattle.std.proofs.Common.{◌≡◌, ◌++◌, [], codes, unwrap_or, Some, rules}
use Rattle.skopeo_outside.specs.Tree.{file_at}
use Rattle.skopeo_outside.specs.Peer.{line_end, framed}
use Rattle.skopeo_outside.proofs.Answering.{four_pieces}
use Rattle.skopeo_outside.proofs.map_peer.MapPeer.answer_get.Goals as goal

pub returns : goal.returns
returns c =
    let self = c.args.self.now in
    let media = unwrap_or (file_at self.types c.args.target.now) [] in
    let held : file_at self.bodies c.args.target.now ≡ Some c.in-Some.body.now = search rules in
    let middle : c.extend-2.new.self ≡ c.extend.new.self ++ media = search rules in
    rw held (four_pieces c.args.into.now c.extend.new.self c.extend-2.new.self c.extend-3.new.self c.push_framed.new.into
    (codes "HTTP/1.1 200 OK" ++ (line_end ++ codes "Content-Type: ")) media line_end (framed self.framing c.in-Some.body.now)
    c.in_ok-extend.ensures.ok middle c.in_ok-extend-3.ensures.ok (search rules))
