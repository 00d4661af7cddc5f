use Rattle.std.proofs.Common.{◌++◌, codes, rules}
use Rattle.skopeo_outside.specs.Peer.{line_end}
use Rattle.skopeo_outside.proofs.Answering.{three_pieces}
use Rattle.skopeo_outside.proofs.map_peer.push_bare.Goals as goal

pub returns : goal.returns
returns c =
    three_pieces c.args.into.now c.extend.new.self c.extend-2.new.self c.extend-3.new.self (codes "HTTP/1.1 ") c.args.status.now
    (line_end ++ (codes "Content-Length: 0" ++ (line_end ++ line_end))) c.in_ok-extend.ensures.ok (search rules) c.in_ok-extend-3.ensures.ok
